use Rattle.std.proofs.Common.{ℕ, List, [], Err, arith, refl, subst}
use Rattle.gl_answer.specs.Halts.{AreBytes}
use Rattle.gl_check.specs.File.{HasSaid}
use Rattle.gl_check.proofs.FileLines.{handed_on}
use Rattle.gl_day.specs.FileChecked.{GoesOnAhead}
use Rattle.gl_badge.proofs.Proving.{end_said, expected_for, none_right, wrong_said}
use Rattle.gl_badge.proofs.check.check_badges.Goals as goal

pub returns-in_err-wrong-clause-halted : goal.returns-in_err-wrong-clause-halted
returns-in_err-wrong-clause-halted g c =
    let folder = (g.D.Desk.told c.args.desk.now).folder in
    handed_on (λ halt. (name : List ℕ) (most : ℕ) → HasSaid folder name most [] c.args.file.now → AreBytes folder name most (Err halt)) c.from_residual-in_err-wrong.result
    c.in_err-wrong.field-0.0 c.from_residual-in_err-wrong.ensures.1
    (λ name most has. c.in_err-wrong.ensures.halted name most (none_right folder name most [] c.args.file.now has))

pub returns-in-Some-clause-checked : goal.returns-in-Some-clause-checked
returns-in-Some-clause-checked g c = λ name most has.
    let folder = (g.D.Desk.told c.args.desk.now).folder in
    let slice = c.as_slice.result.now in
    let goes = subst (GoesOnAhead folder 0 (expected_for slice) c.args.file.now c.check_claims.new.file) c.in-Some.is c.in_ok-wrong.ensures.goes_on in
    wrong_said folder name most c.args.rec.now c.in_ok-claims.claims.items slice c.check_claims.new.file c.in-Some.wrong c.in_ok-claims.ensures c.as_slice.ensures.value
    (goes name most [] refl (none_right folder name most slice c.args.file.now has))

pub returns-clause-checked : goal.returns-clause-checked
returns-clause-checked g c = λ name most has.
    let folder = (g.D.Desk.told c.args.desk.now).folder in
    let slice = c.as_slice.result.now in
    let goes = subst (GoesOnAhead folder 0 (expected_for slice) c.args.file.now c.check_claims.new.file) c.in-None.is c.in_ok-wrong.ensures.goes_on in
    let long = c.in_ok-claims.claims.ok.0 in
    end_said folder name most c.args.rec.now c.in_ok-claims.claims.items slice c.check_claims.new.file c.len.result c.check_left.result c.in_ok-claims.ensures c.as_slice.ensures.value
    (omega (arith, c.len.ensures, long)) (omega arith) (goes name most [] refl (none_right folder name most slice c.args.file.now has)) c.check_left.ensures
