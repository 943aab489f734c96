use Rattle.std.proofs.Common.{subst, Option}
use Rattle.gl_answer.specs.Halts.{RefusesFor}
use Rattle.gl_answer.specs.declared.refusal.Cause.{Cause}
use Rattle.gl_check.proofs.FileEnds.{refused_whole}
use Rattle.gl_check.proofs.claims.test_whole.Goals as goal

pub returns-in-Ok-clause-whole : goal.returns-in-Ok-clause-whole
returns-in-Ok-clause-whole c = λ folder most given all. (all.text, all.seen, all.lines_are.fits, c.in-Ok.ensures folder c.args.file.now most all.text given all.lines_are)

pub returns-in-Err-clause-whole : goal.returns-in-Err-clause-whole
returns-in-Err-clause-whole c = λ folder most given all.
    refused_whole folder c.args.file.now most given all.text c.in-Err.error c.refusing_for.result all.seen all.lines_are.fits
    (c.in-Err.ensures folder c.args.file.now most all.text given all.lines_are)
    (subst (λ (cause : Option Cause). RefusesFor c.args.file.now cause c.refusing_for.result) c.proof_cause.ensures c.refusing_for.ensures)
