use Rattle.gl_look.proofs.TextLemmas.{next_line}
use Rattle.gl_look.proofs.remarks.Remarks.text.Goals as goal

pub remarks-preserved : goal.remarks-preserved
remarks-preserved c =
    next_line _ _ _ c.in_ok-push_line.ensures.0 _ _ c.remarks-test.true c.remark-item.is c.remarks.invariant c.in_ok-push_line.ensures.1 c.in_ok-push_line.ensures.2
