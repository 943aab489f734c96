use Rattle.std.proofs.Common.{◌∙◌, ℕ, List, take, Option, Err, subst, refl, arith}
use Rattle.std.proofs.lemmas.List.{length-append, length-take}
use Rattle.gl_answer.specs.Halts.{AreBytes}
use Rattle.gl_check.specs.File.{HasSaid}
use Rattle.gl_check.proofs.FileLines.{handed_on}
use Rattle.gl_desk.proofs.Reading.{OnlyReads-then}
use Rattle.gl_desk.specs.Desk.{FilesByName}
use Rattle.gl_goal.specs.AnyGoal.{any_rule}
use Rattle.gl_proof.specs.Claim.{Statement}
use Rattle.gl_day.specs.Expected.{Expected}
use Rattle.gl_day.specs.FileChecked.{HaltsAhead, IsFoundAhead}
use Rattle.gl_day.specs.declared.fault.Fault.{Fault}
use Rattle.gl_day.specs.declared.fault.NotProved.{NotProved}
use Rattle.gl_day.proofs.FileWalked.{goal_right, goal_wrong, none_ahead}
use Rattle.gl_day.proofs.Walked.{claims_for, length-claims_for}
use Rattle.gl_day.proofs.file_check.check_flight_ahead.Goals as goal

pub loop-goal-init : goal.loop-goal-init
loop-goal-init g c = record {
  counted = omega (arith, c.ranges.count.fits);
  same = refl;
  reads = record { folder = refl; said = refl; outputs = refl; faults = refl };
  proved = λ file most before proved. none_ahead (g.D.Desk.told c.args.desk.now).folder file most before c.args.number.now c.args.goals.now c.args.claims.now proved;
}

pub fault_ahead-requires : goal.fault_ahead-requires
fault_ahead-requires g c = rw (c.loop-goal.invariant.reads.folder, c.loop-goal.invariant.same) c.requires

pub returns-in_err-fault-clause-halted : goal.returns-in_err-fault-clause-halted
returns-in_err-fault-clause-halted g c =
    let folder = (g.D.Desk.told c.args.desk.now).folder in
    handed_on (HaltsAhead folder c.args.claims.now) c.from_residual.result c.in_err-fault.field-0.0 c.from_residual.ensures.1
    (λ file most before proved.
    let so_far = c.loop-goal.invariant.proved file most before proved in
    let halted = subst (λ (f : Option FilesByName). (file : List ℕ) (most : ℕ) (said : List Statement) → HasSaid f file most said c.loop-goal.claims
    → AreBytes f file most (Err c.in_err-fault.field-0.0)) c.loop-goal.invariant.reads.folder c.in_err-fault.ensures.halted in
    halted file most so_far.said so_far.has)

pub returns-in-Some-clause-goes_on : goal.returns-in-Some-clause-goes_on
returns-in-Some-clause-goes_on g c = λ file most before counted proved.
    let folder = (g.D.Desk.told c.args.desk.now).folder in
    let i = c.loop-goal.goal-index in
    let x = c.goal-item.result in
    let so_far = c.loop-goal.invariant.proved file most before proved in
    let e : Expected = record { number = c.args.number.now; kind = x.0; rule = any_rule x.1 } in
    let all = rw c.loop-goal.invariant.reads.folder at c.in_ok-fault.ensures.found in
    let found = subst (λ (o : Option Fault). IsFoundAhead folder file most so_far.said e c.fault_ahead.new.claims o) c.in-Some.is (all file most so_far.said so_far.has) in
    let so_many = take i c.args.goals.now in
    let wrong : NotProved = record { claim = c.saturating_add.result; fault = c.in-Some.fault } in
    goal_wrong folder file most before c.args.number.now c.args.goals.now i x c.loop-goal.claims c.fault_ahead.new.claims wrong (omega arith) c.goal-item.is so_far found
    (omega (
      arith,
      counted,
      c.loop-goal.invariant.counted,
      c.saturating_add.ensures,
      length-append before (claims_for c.args.number.now so_many),
      length-claims_for c.args.number.now so_many,
      length-take i c.args.goals.now,
    ))

pub loop-goal-preserved : goal.loop-goal-preserved
loop-goal-preserved g c = record {
  counted = omega (arith, c.loop-goal.invariant.counted, c.saturating_add-at.ensures);
  same = c.in_ok-fault.ensures.same ∙ c.loop-goal.invariant.same;
  reads = OnlyReads-then _ _ _ _ c.loop-goal.invariant.reads c.in_ok-fault.ensures.reads;
  proved = λ file most before proved.
      let folder = (g.D.Desk.told c.args.desk.now).folder in
      let i = c.loop-goal.goal-index in
      let x = c.goal-item.result in
      let so_far = c.loop-goal.invariant.proved file most before proved in
      let e : Expected = record { number = c.args.number.now; kind = x.0; rule = any_rule x.1 } in
      let all = rw c.loop-goal.invariant.reads.folder at c.in_ok-fault.ensures.found in
      let found = subst (λ (o : Option Fault). IsFoundAhead folder file most so_far.said e c.fault_ahead.new.claims o) c.in_default.is (all file most so_far.said so_far.has) in
      goal_right folder file most before c.args.number.now c.args.goals.now i x c.loop-goal.claims c.fault_ahead.new.claims (omega arith) c.goal-item.is so_far found;
}
