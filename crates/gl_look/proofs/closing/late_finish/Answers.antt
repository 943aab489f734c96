use Rattle.std.proofs.Common.{subst, sym, ℤ, Option}
use Rattle.gl_look.specs.Closings.{IsLate}
use Rattle.gl_look.proofs.ClosingLemmas.{none_out, out_late}
use Rattle.gl_look.proofs.closing.late_finish.Goals as goal

pub returns-in_err-last : goal.returns-in_err-last
returns-in_err-last c =
    subst (λ (late : Option ℤ). IsLate c.args.task.now c.args.rec.now late) (sym c.from_residual.ensures)
    (none_out c.args.task.now c.empty.result c.args.rec.now c.judge-judged.result c.empty.ensures c.judge-judged.ensures.judged c.in_err-last.ensures.none)

pub returns : goal.returns
returns c =
    let out = c.in_ok-last.ensures.some in
    out_late c.args.task.now c.empty.result c.args.rec.now c.judge-judged.result out.0 c.in_ok-last.last c.first_late.result c.empty.ensures c.judge-judged.ensures.judged out.1 out.2
    c.first_late.ensures.some c.first_late.ensures.none
