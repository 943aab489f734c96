-- A proof that `score` wrote is accepted by `check`, in the same folder with the proof in it.
use Rattle.std.proofs.Common.{◌≡◌, ◌≢◌, ◌∙◌, refl, sym, ap, subst, ℕ, ◌≤◌, inl, inr, false, List, length, Option, None, Some, Err}
use Rattle.std.specs.Prelude.{is_some}
use Rattle.gl_desk.specs.Desk.{FilesByName}
use Rattle.gl_igc.specs.declared.error.IgcError.TheVariants.{NotIgc}
use Rattle.gl_igc.specs.Reading.{recording_of}
use Rattle.gl_proof.proofs.Unique.{text_unique}
use Rattle.gl_proof.specs.Claim.{Statement}
use Rattle.gl_proof.specs.Text.{IsTextOf}
use Rattle.gl_proof.specs.declared.version.Version.TheVariants.{Two}
use Rattle.gl_day.specs.declared.fault.Checked.{Checked}
use Rattle.gl_day.specs.declared.fault.Checked.TheVariants as checked
use Rattle.gl_day.specs.Flight.{StewardRules}
use Rattle.gl_day.proofs.Foreign.{proof_is_no_recording}
use Rattle.gl_words.specs.DayWords.{DayNames}
use Rattle.gl_day_files.specs.declared.day_files.DayFiles.{DayFiles}
use Rattle.gl_answer.specs.declared.refusal.Refusal.{Refusal}
use Rattle.gl_day_files.specs.DayFiles.{IsAirspaceSeen, IsScoreRead, IsScoreSeen, ScoreSeen, airspace_file, airspace_tests, check_tests, score_tests, task_tests}
use Rattle.gl_answer.specs.FileTests.{AllPass, FirstFails, ProofText, most_proof_bytes, text_tests}
use Rattle.gl_answer.proofs.FileTests.{all_pass, none_fails}
use Rattle.gl_day_files.proofs.DayDecided.{check_decided}
use Rattle.gl_day_files.proofs.OneDay.{day_one, seen_one}
use Rattle.gl_answer.proofs.SameFiles.{still}
use Rattle.gl_day_claims.specs.DayChecked.{IsDayChecked}
use Rattle.gl_day_claims.specs.Scored.{statements_of_all}
use Rattle.gl_day_claims.proofs.Flights.{all_asked}
use Rattle.gl_day_claims.proofs.DayAccepted.{all_moved, day_accepted}
use Rattle.gl_answer.specs.declared.status.Status.{Status}
use Rattle.gl_answer.specs.declared.status.Status.TheVariants as status
use Rattle.gl_answer.specs.Answer.{Answer}
use Rattle.gl_day_claims.specs.Check.{IsCheck, IsProofChecked, IsScoredFolder, checked_answer}
use Rattle.gl_day_claims.specs.Score.{IsDayScored, IsScore}

-- what was seen where `score` had its answer
pub record EndedScore (before : FilesByName) (stewards : List StewardRules) (names : DayNames) (answer : Answer) : Type 0 where
  pub seen : ScoreSeen
  pub is : IsScoreSeen names (Some before) seen
  pub passes : AllPass (score_tests names seen)
  pub day : DayFiles
  pub read : IsScoreRead seen day
  pub scored : IsDayScored (Some before) day stewards answer

pub score_ended : (before : FilesByName) (stewards : List StewardRules) (names : DayNames) (answer : Answer) → IsScore (Some before) stewards names answer → answer.status ≡ status.Done
    → EndedScore before stewards names answer
score_ended before stewards names answer (seen, is, inl (passes, (day, read, scored))) done =
    record { seen = seen; is = is; passes = passes; day = day; read = read; scored = scored }
score_ended before stewards names answer (seen, is, inr (refusal, fails, same)) done =
    let e : ◌≡◌ {A = Status} status.Refused status.Done = sym (ap (λ (a : Answer). a.status) same) ∙ done in
    absurd (cc)

-- the proof wasn't there
none_of : (seen : Option (List ℕ)) → is_some seen ≡ false → seen ≡ None
none_of None none = refl
none_of (Some bytes) none = absurd (cc)

pub proof_new : (before : FilesByName) (stewards : List StewardRules) (names : DayNames) (answer : Answer) → EndedScore before stewards names answer → before names.proof ≡ None
proof_new before stewards names answer ended = ended.is.proof ∙ none_of ended.seen.proof ended.passes.1.0

-- what is seen in the folder with the proof
abbrev seen_with : ScoreSeen → List ℕ → ScoreSeen
seen_with seen text = record { task = seen.task; proof = Some text }

airspace_still : (before files : FilesByName) (proof : List ℕ) (file seen there : Option (List ℕ)) → IsAirspaceSeen (Some before) file seen → before proof ≡ there → AllPass (airspace_tests file seen)
    → is_some there ≡ false → ((other : List ℕ) → other ≢ proof → files other ≡ before other) → IsAirspaceSeen (Some files) file seen
airspace_still before files proof None seen there is new passes none others = is
airspace_still before files proof (Some file) seen there is new passes none others = still before files file proof seen there is new passes.0 none others

is_with : (most : ℕ) (files : FilesByName) (names : DayNames) (folder : IsScoredFolder most files names) (ended : EndedScore folder.before folder.stewards names folder.answer)
    → IsScoreSeen names (Some files) (seen_with ended.seen folder.answer.appended)
is_with most files names folder ended =
    let seen = ended.seen in
    let tests = ended.passes in record {
      task = record {
        text = still folder.before files names.task names.proof seen.task.text seen.proof ended.is.task.text ended.is.proof tests.0 tests.1.0 folder.others;
        airspace = airspace_still folder.before files names.proof (airspace_file seen.task.text) seen.task.airspace seen.proof ended.is.task.airspace ended.is.proof tests.1.1.1.1 tests.1.0
            folder.others;
      };
      proof = folder.proof;
    }

-- so whatever is seen there
seen_is : (most : ℕ) (files : FilesByName) (names : DayNames) (folder : IsScoredFolder most files names) (ended : EndedScore folder.before folder.stewards names folder.answer) (seen : ScoreSeen)
    → IsScoreSeen names (Some files) seen → seen ≡ seen_with ended.seen folder.answer.appended
seen_is most files names folder ended seen is =
    seen_one files names (seen_with ended.seen folder.answer.appended) seen (is_with most files names folder ended) is

-- it passes the tests of `check`
with_passes : (most : ℕ) (names : DayNames) (seen : ScoreSeen) (text : List ℕ) (statements : List Statement) → AllPass (score_tests names seen) → length text ≤ most → IsTextOf Two text statements
    → AllPass (check_tests most names (seen_with seen text))
with_passes most names seen text statements passes small is =
    (passes.0, (refl, all_pass (task_tests names.task seen.task) (text_tests ProofText most names.proof (Some text)) passes.1.1 (small, ((Two, statements, is), tt))))

pub scored_passes : (most : ℕ) (files : FilesByName) (names : DayNames) (folder : IsScoredFolder most files names) (seen : ScoreSeen) (refusal : Refusal) → IsScoreSeen names (Some files) seen
    → FirstFails (check_tests most names seen) refusal → ⊥
scored_passes most files names folder seen refusal is fails =
    let ended = score_ended folder.before folder.stewards names folder.answer folder.scored folder.done in
    none_fails (check_tests most names (seen_with ended.seen folder.answer.appended)) refusal
    (check_decided most names (seen_with ended.seen folder.answer.appended))
    (with_passes most names ended.seen folder.answer.appended (statements_of_all ended.scored.scored) ended.passes folder.small ended.scored.appended)
    (subst (λ (s : ScoreSeen). FirstFails (check_tests most names s) refusal) (seen_is most files names folder ended seen is) fails)

-- what is found of a proof that `score` wrote: its claims are accepted, and counted
pub record FoundAccepted (appended : List ℕ) (said : Checked) : Type 0 where
  pub statements : List Statement
  pub is_text : IsTextOf Two appended statements
  pub accepted : said ≡ checked.Accepted (length statements)

found_with : (most : ℕ) (files : FilesByName) (names : DayNames) (folder : IsScoredFolder most files names) (ended : EndedScore folder.before folder.stewards names folder.answer) (said : Checked)
    → IsProofChecked (Some files) (seen_with ended.seen folder.answer.appended) said → FoundAccepted folder.answer.appended said
found_with most files names folder ended said (read, are, (version, found, is_text, is)) =
    let statements = statements_of_all ended.scored.scored in
    let day = day_one ended.seen.task read ended.day are ended.read in
    let claims = text_unique folder.answer.appended found statements is_text ended.scored.appended in
    let have = all_asked (Some folder.before) ended.day folder.stewards ended.day.task.entrants ended.scored.scored ended.scored.each in
    let foreign = subst (λ (t : List ℕ). recording_of t (Some ended.day.task.date) ≡ Err NotIgc) (sym ended.scored.appended.is) (proof_is_no_recording Two statements (Some ended.day.task.date)) in
    let new = proof_new folder.before folder.stewards names folder.answer ended in
    let asked = all_moved folder.before files names.proof folder.answer.appended ended.day.task ended.day.airspace ended.day.task.entrants have.claims new folder.proof foreign folder.others have.asked
    in
    let checked_is = subst (λ (l : List Statement). IsDayChecked (Some files) ended.day l said) claims (subst (λ (d : DayFiles). IsDayChecked (Some files) d found said) day is) in
    record {
      statements = statements;
      is_text = ended.scored.appended;
      accepted = day_accepted files ended.day have.claims statements said asked have.each checked_is;
    }

-- what `score` wrote `check` accepts
pub scored_found : (most : ℕ) (files : FilesByName) (names : DayNames) (folder : IsScoredFolder most files names) (seen : ScoreSeen) (said : Checked) → IsScoreSeen names (Some files) seen
    → IsProofChecked (Some files) seen said → FoundAccepted folder.answer.appended said
scored_found most files names folder seen said is found =
    let ended = score_ended folder.before folder.stewards names folder.answer folder.scored folder.done in
    found_with most files names folder ended said (subst (λ (s : ScoreSeen). IsProofChecked (Some files) s said) (seen_is most files names folder ended seen is) found)

-- so it is answered
pub scored_accepted : (files : FilesByName) (names : DayNames) (answer : Answer) → IsScoredFolder most_proof_bytes files names → IsCheck (Some files) names answer → answer.status ≡ status.Done
scored_accepted files names answer folder (seen, is, inl (passes, (said, found, same))) =
    ap (λ (a : Answer). a.status) (same ∙ ap checked_answer (scored_found most_proof_bytes files names folder seen said is found).accepted)
scored_accepted files names answer folder (seen, is, inr (refusal, fails, same)) =
    absurd (scored_passes most_proof_bytes files names folder seen refusal is fails)
