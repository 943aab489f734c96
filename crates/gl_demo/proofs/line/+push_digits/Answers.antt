use Rattle.gl_demo.proofs.LineLemmas.{digits-pushed}
use Rattle.gl_demo.proofs.line.+push_digits.Goals as goal

pub returns-in_ok-push : goal.returns-in_ok-push
returns-in_ok-push t c =
    digits-pushed _ _ _ c.args.width c.args.number c.if-width-gt0.true c.in_ok-push_digits.ensures c.in_ok-push.ensures.items
