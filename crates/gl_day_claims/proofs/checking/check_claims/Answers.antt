use Rattle.std.proofs.Common.{◌≡◌, ◌∙◌, ◌<◌, ◌≤◌, ℕ, List, [], Err, None, Option, Some, get_or, length, refl, subst}
use Rattle.std.proofs.lemmas.List.{take_all}
use Rattle.gl_answer.specs.Halts.{AreBytes}
use Rattle.gl_answer.proofs.ReadsTwice.{reads_twice}
use Rattle.gl_check.specs.File.{HasSaid}
use Rattle.gl_check.proofs.FileLines.{handed_on}
use Rattle.gl_desk.specs.Desk.{FilesByName}
use Rattle.gl_goal.specs.declared.any.AnyGoal.{AnyGoal}
use Rattle.gl_proof.specs.declared.claim.ClaimKind.{ClaimKind}
use Rattle.gl_task.specs.declared.task.Entrant.{Entrant}
use Rattle.gl_day.specs.declared.fault.NotProved.{NotProved}
use Rattle.gl_day.specs.Expected.{expected_of}
use Rattle.gl_day.specs.FileChecked.{GoesOnAhead, HaltsAhead}
use Rattle.gl_judge.specs.Claimed.{rules_of_claims}
use Rattle.gl_day_claims.specs.Asked.{AreAskedIn}
use Rattle.gl_day_claims.proofs.Compared.{AreChecked, AreChecked-more, AreChecked-none, checked_end, checked_wrong}
use Rattle.gl_day_claims.proofs.checking.check_claims.Goals as goal

pub loop-entrant-init : goal.loop-entrant-init
loop-entrant-init g c = record {
  reads = record { folder = refl; said = refl; outputs = refl; faults = refl };
  same = refl;
  checked = λ file most has. AreChecked-none (g.D.Desk.told c.args.desk.now).folder c.args.files.now file most c.args.claims.now has;
}

pub asked_of-requires : goal.asked_of-requires
asked_of-requires g c = rw c.loop-entrant.invariant.reads.folder c.requires.names

pub check_flight_ahead-requires : goal.check_flight_ahead-requires
check_flight_ahead-requires g c = rw (c.in_ok-goals.ensures.reads.folder, c.loop-entrant.invariant.reads.folder, c.loop-entrant.invariant.same) c.requires.listed

pub returns-in_err-wrong-clause-halted : goal.returns-in_err-wrong-clause-halted
returns-in_err-wrong-clause-halted g c =
    let folder = (g.D.Desk.told c.args.desk.now).folder in
    let moved = c.in_ok-goals.ensures.reads.folder ∙ c.loop-entrant.invariant.reads.folder in
    let halted = subst (λ (f : Option FilesByName). HaltsAhead f c.loop-entrant.claims c.in_err-wrong.field-0.0) moved c.in_err-wrong.ensures.halted in
    handed_on (λ halt. (file : List ℕ) (most : ℕ) → HasSaid folder file most [] c.args.claims.now → AreBytes folder file most (Err halt)) c.from_residual-in_err-wrong.result
    c.in_err-wrong.field-0.0 c.from_residual-in_err-wrong.ensures.1
    (λ file most has.
    let so_far = c.loop-entrant.invariant.checked file most has in
    halted file most so_far.expected so_far.proved)

pub returns-in-Some-clause-checked : goal.returns-in-Some-clause-checked
returns-in-Some-clause-checked g c = λ file most has.
    let folder = (g.D.Desk.told c.args.desk.now).folder in
    let day = c.args.files.now in
    let i = c.loop-entrant.entrant-index in
    let e = c.entrant-item.result in
    let goals = c.in_ok-goals.goals.items in
    let old = c.loop-entrant.claims in
    let new = c.check_flight_ahead.new.claims in
    let count = c.loop-entrant.count in
    let same = c.as_slice-entrant-items.ensures in
    let below = subst (λ (l : List Entrant). i < length l) same c.loop-entrant-test.true in
    let item = subst (λ (l : List Entrant). e ≡ get_or l i e) same c.entrant-item.is in
    let asked = subst (λ (f : Option FilesByName). AreAskedIn f day.task day.airspace e (expected_of e.number (rules_of_claims goals))) c.loop-entrant.invariant.reads.folder
    c.in_ok-goals.ensures.asked in
    let moved = c.in_ok-goals.ensures.reads.folder ∙ c.loop-entrant.invariant.reads.folder in
    let here = subst (λ (f : Option FilesByName). GoesOnAhead f count (expected_of e.number (rules_of_claims c.deref.result.now)) old new c.in_ok-wrong.wrong) moved c.in_ok-wrong.ensures.goes_on in
    let found = subst (λ (o : Option NotProved). GoesOnAhead folder count (expected_of e.number (rules_of_claims c.deref.result.now)) old new o) c.in-Some.is here in
    let goes = subst (λ (l : List (ClaimKind × AnyGoal)). GoesOnAhead folder count (expected_of e.number (rules_of_claims l)) old new (Some c.in-Some.wrong)) c.deref.ensures.value found in
    let so_far = c.loop-entrant.invariant.checked file most has in
    checked_wrong folder day file most i e goals old new count c.in-Some.wrong below item so_far asked (goes file most so_far.expected so_far.counted so_far.proved)

pub loop-entrant-preserved : goal.loop-entrant-preserved
loop-entrant-preserved g c =
    let folder = (g.D.Desk.told c.args.desk.now).folder in
    let day = c.args.files.now in
    let i = c.loop-entrant.entrant-index in
    let e = c.entrant-item.result in
    let goals = c.in_ok-goals.goals.items in
    let old = c.loop-entrant.claims in
    let new = c.check_flight_ahead.new.claims in
    let count = c.loop-entrant.count in
    let same = c.as_slice-entrant-items.ensures in
    let below = subst (λ (l : List Entrant). i < length l) same c.loop-entrant-test.true in
    let item = subst (λ (l : List Entrant). e ≡ get_or l i e) same c.entrant-item.is in
    let asked = subst (λ (f : Option FilesByName). AreAskedIn f day.task day.airspace e (expected_of e.number (rules_of_claims goals))) c.loop-entrant.invariant.reads.folder
    c.in_ok-goals.ensures.asked in
    let moved = c.in_ok-goals.ensures.reads.folder ∙ c.loop-entrant.invariant.reads.folder in
    let here = subst (λ (f : Option FilesByName). GoesOnAhead f count (expected_of e.number (rules_of_claims c.deref.result.now)) old new c.in_ok-wrong.wrong) moved c.in_ok-wrong.ensures.goes_on in
    let found = subst (λ (o : Option NotProved). GoesOnAhead folder count (expected_of e.number (rules_of_claims c.deref.result.now)) old new o) c.in_default.is here in
    let goes = subst (λ (l : List (ClaimKind × AnyGoal)). GoesOnAhead folder count (expected_of e.number (rules_of_claims l)) old new None) c.deref.ensures.value found in
    let long : c.len.result ≡ length goals = c.len.ensures ∙ c.in_ok-goals.goals.ok.0 in
    record {
      reads = reads_twice _ _ _ (reads_twice _ _ _ c.loop-entrant.invariant.reads c.in_ok-goals.ensures.reads) c.in_ok-wrong.ensures.reads;
      same = c.in_ok-wrong.ensures.same ∙ c.loop-entrant.invariant.same;
      checked = λ file most has.
          let so_far = c.loop-entrant.invariant.checked file most has in
          AreChecked-more folder day file most i e goals old new count c.len.result c.saturating_add-count.result below item so_far asked long c.saturating_add-count.ensures
          (goes file most so_far.expected so_far.counted so_far.proved);
    }

pub returns-clause-checked : goal.returns-clause-checked
returns-clause-checked g c = λ file most has.
    let folder = (g.D.Desk.told c.args.desk.now).folder in
    let day = c.args.files.now in
    let i = c.loop-entrant.entrant-index in
    let last : length day.task.entrants ≤ i = subst (λ (l : List Entrant). length l ≤ i) c.as_slice-entrant-items.ensures c.loop-entrant-test.false in
    let all = subst (λ (l : List Entrant). AreChecked folder day file most l c.loop-entrant.claims c.loop-entrant.count) (take_all i day.task.entrants last)
    (c.loop-entrant.invariant.checked file most has) in
    checked_end folder day file most c.loop-entrant.claims c.loop-entrant.count c.check_left.result all (c.check_left.ensures folder file most all.expected all.counted all.proved)
