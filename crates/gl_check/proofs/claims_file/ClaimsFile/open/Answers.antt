use Rattle.std.proofs.Common.{refl, [], Err}
use Rattle.gl_answer.specs.Halts.{AreBytes}
use Rattle.gl_check.proofs.FileLines.{handed_on}
use Rattle.gl_check.proofs.claims_file.ClaimsFile.open.Goals as goal

pub returns-in_err-ahead-clause-halted : goal.returns-in_err-ahead-clause-halted
returns-in_err-ahead-clause-halted g c =
    let folder = (g.D.Desk.told c.args.desk.now).folder in
    handed_on (λ halt. AreBytes folder c.args.file.now c.args.most (Err halt)) c.from_residual-in_err-ahead.result c.in_err-ahead.field-0.0 c.from_residual-in_err-ahead.ensures.1
    (c.in_err-ahead.ensures.halted ([], c.in_ok-lines.ensures folder c.args.file.now c.args.most))

pub returns-clause-opens : goal.returns-clause-opens
returns-clause-opens g c =
    let folder = (g.D.Desk.told c.args.desk.now).folder in
    record { file_is = refl; most_is = refl; came = c.in_ok-ahead.ensures.came ([], c.in_ok-lines.ensures folder c.args.file.now c.args.most) }
