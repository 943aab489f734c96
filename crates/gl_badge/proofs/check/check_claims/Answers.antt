use Rattle.std.proofs.Common.{◌∙◌, ℕ, List, [], ◌∷◌, take, Err, None, Some, Option, arith, refl, subst}
use Rattle.gl_answer.specs.Halts.{AreBytes}
use Rattle.gl_check.proofs.FileLines.{handed_on}
use Rattle.gl_desk.proofs.Reading.{OnlyReads-then}
use Rattle.gl_desk.specs.Desk.{FilesByName}
use Rattle.gl_day.specs.FileChecked.{GoesOnAhead, HaltsAhead, HasProved}
use Rattle.gl_badge.proofs.Proving.{all_right, expected_for, from_first, next_right, next_wrong}
use Rattle.gl_badge.proofs.check.check_claims.Goals as goal

pub loop-claim-init : goal.loop-claim-init
loop-claim-init g c = record {
  counted = refl;
  same = refl;
  reads = record { folder = refl; said = refl; outputs = refl; faults = refl };
  proved = λ name most proved. proved;
}

pub check_claim-requires : goal.check_claim-requires
check_claim-requires g c = rw (c.loop-claim.invariant.reads.folder, c.loop-claim.invariant.same) c.requires

pub returns-in_err-wrong-clause-halted : goal.returns-in_err-wrong-clause-halted
returns-in_err-wrong-clause-halted g c =
    let folder = (g.D.Desk.told c.args.desk.now).folder in
    let halted = subst (λ (f : Option FilesByName). HaltsAhead f c.loop-claim.file c.in_err-wrong.field-0.0) c.loop-claim.invariant.reads.folder c.in_err-wrong.ensures.halted in
    handed_on (λ halt. (name : List ℕ) (most : ℕ) → HasProved folder name most [] c.args.file.now → AreBytes folder name most (Err halt)) c.from_residual.result c.in_err-wrong.field-0.0
    c.from_residual.ensures.1
    (λ name most proved. halted name most (expected_for (take c.loop-claim.claim-index c.args.claims.now)) (c.loop-claim.invariant.proved name most proved))

pub returns-in-Some-clause-goes_on : goal.returns-in-Some-clause-goes_on
returns-in-Some-clause-goes_on g c =
    let folder = (g.D.Desk.told c.args.desk.now).folder in
    let claims = c.args.claims.now in
    let i = c.loop-claim.claim-index in
    let x = c.claim-item.result in
    let goes = subst (λ (f : Option FilesByName). GoesOnAhead f c.loop-claim.count (expected_for (x ∷ [])) c.loop-claim.file c.check_claim.new.file c.in_ok-wrong.field-0)
    c.loop-claim.invariant.reads.folder c.in_ok-wrong.ensures.goes_on in
    let wrong = subst (GoesOnAhead folder c.loop-claim.count (expected_for (x ∷ [])) c.loop-claim.file c.check_claim.new.file) c.in-Some.is goes in
    from_first folder (expected_for claims) c.args.file.now c.check_claim.new.file (Some c.in-Some.wrong) (λ name most proved.
    next_wrong folder name most claims i x c.loop-claim.file c.check_claim.new.file c.loop-claim.count c.in-Some.wrong c.loop-claim-test.true c.claim-item.is c.loop-claim.invariant.counted
    (omega arith) (c.loop-claim.invariant.proved name most proved) wrong)

pub loop-claim-preserved : goal.loop-claim-preserved
loop-claim-preserved g c =
    let folder = (g.D.Desk.told c.args.desk.now).folder in
    let claims = c.args.claims.now in
    let i = c.loop-claim.claim-index in
    let x = c.claim-item.result in
    let goes = subst (λ (f : Option FilesByName). GoesOnAhead f c.loop-claim.count (expected_for (x ∷ [])) c.loop-claim.file c.check_claim.new.file c.in_ok-wrong.field-0)
    c.loop-claim.invariant.reads.folder c.in_ok-wrong.ensures.goes_on in
    let right = subst (GoesOnAhead folder c.loop-claim.count (expected_for (x ∷ [])) c.loop-claim.file c.check_claim.new.file) c.in_default.is goes in
    record {
      counted = omega (arith, c.loop-claim.invariant.counted);
      same = c.in_ok-wrong.ensures.same ∙ c.loop-claim.invariant.same;
      reads = OnlyReads-then _ _ _ _ c.loop-claim.invariant.reads c.in_ok-wrong.ensures.reads;
      proved = λ name most proved.
          next_right folder name most claims i x c.loop-claim.file c.check_claim.new.file c.loop-claim.count c.loop-claim-test.true c.claim-item.is c.loop-claim.invariant.counted (omega arith)
          (c.loop-claim.invariant.proved name most proved) right;
    }

pub returns-clause-goes_on : goal.returns-clause-goes_on
returns-clause-goes_on g c =
    let folder = (g.D.Desk.told c.args.desk.now).folder in
    from_first folder (expected_for c.args.claims.now) c.args.file.now c.loop-claim.file None (λ name most proved.
    all_right folder name most c.args.claims.now c.loop-claim.claim-index c.loop-claim.file c.loop-claim-test.false (c.loop-claim.invariant.proved name most proved))
