use Rattle.std.proofs.Common.{◌≡◌, ◌∙◌, sym, ap, subst, ℕ, List, Err, Some, length}
use Rattle.gl_day.specs.declared.fault.Checked.{Checked}
use Rattle.gl_day.specs.declared.fault.Checked.TheVariants as checked
use Rattle.gl_words.specs.DayNames.{names_seen}
use Rattle.gl_answer.specs.declared.halt.Halt.{Halt}
use Rattle.gl_day_files.specs.DayFiles.{IsScoreSeen, check_tests}
use Rattle.gl_answer.specs.FileTests.{HasTested}
use Rattle.gl_day_claims.specs.Check.{IsProofChecked}
use Rattle.gl_app.specs.Demo.{IsCountOf}
use Rattle.gl_app.specs.Code.Shelf.{folder_on}
use Rattle.gl_day_claims.proofs.Accepting.{FoundAccepted, scored_found, scored_passes}
use Rattle.gl_app.proofs.demo.accepted_claims.Goals as goal
use Rattle.gl_app.proofs.demo.accepted_claims.Goals.{in-Ok-Accepted, in-Err-Stopped}

pub unreachable-requires : goal.unreachable-requires
unreachable-requires c =
    let checked_is = c.in-Ok-Refused.ensures.checked in
    let found = scored_found c.args.bytes (folder_on c.args.shelf.now) (names_seen c.args.day) c.requires checked_is.0 c.in-Ok-Refused.field-0 checked_is.1 checked_is.3 in
    let same : ◌≡◌ {A = Checked} (checked.Refused c.in-Ok-Refused.field-0-0) (checked.Accepted (length found.statements)) = sym c.in-Ok-Refused.field-0-is ∙ found.accepted in
    cc

pub unreachable-requires-in-Err-Refused : goal.unreachable-requires-in-Err-Refused
unreachable-requires-in-Err-Refused c =
    let folder = folder_on c.args.shelf.now in
    let names = names_seen c.args.day in
    let P : Halt → Type 0 = λ halt. HasTested {X = Checked} (IsScoreSeen names (Some folder)) (check_tests c.args.bytes names) (IsProofChecked (Some folder)) (Err halt) in
    let is = subst P c.in-Err-Refused.field-0-is c.in-Err-Refused.ensures.checked in
    scored_passes c.args.bytes folder names c.requires is.0 c.in-Err-Refused.field-0-0 is.1 is.2

abbrev count_of : Checked → ℕ
count_of (checked.Accepted claims) = claims
count_of (checked.Refused wrong) = 0

counted : (said : Checked) (claims : ℕ) (appended : List ℕ) → said ≡ checked.Accepted claims → FoundAccepted appended said → IsCountOf appended claims
counted said claims appended is found =
    (found.statements, found.is_text, ap (λ (c : Checked). count_of c) (sym is ∙ found.accepted))

pub returns-clause-counted : goal.returns-clause-counted
returns-clause-counted c = elim c.match-check_proof.branch [
  | in-Ok-Accepted w ↦ (let is = w.in-Ok-Accepted.ensures.checked in
      rw w.result-is (λ scored. counted w.in-Ok-Accepted.field-0 w.in-Ok-Accepted.claims scored.answer.appended w.in-Ok-Accepted.field-0-is
      (scored_found c.args.bytes (folder_on c.args.shelf.now) (names_seen c.args.day) scored is.0 w.in-Ok-Accepted.field-0 is.1 is.3)))
  | in-Err-Stopped w ↦ rw w.result-is tt
]
