use Rattle.gl_why.proofs.TextLemmas.{next_line}
use Rattle.gl_why.proofs.lines.Lines.text.Goals as goal

pub lines-preserved : goal.lines-preserved
lines-preserved c =
    next_line _ _ _ c.in_ok-push_line.ensures.0 _ _ c.lines-test.true c.line-item.is c.lines.invariant c.in_ok-push_line.ensures.1 c.in_ok-push_line.ensures.2
