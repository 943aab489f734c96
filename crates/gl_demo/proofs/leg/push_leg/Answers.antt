use Rattle.std.proofs.Common.{sym, append-nil, arith}
use Rattle.gl_demo.proofs.DrawLemmas.{after-join, after-none}
use Rattle.gl_demo.proofs.LegLemmas.{leg-more, leg-whole}
use Rattle.gl_demo.proofs.leg.push_leg.Goals as goal

pub loop-fix-init : goal.loop-fix-init
loop-fix-init c = (sym (append-nil c.args.text.now.items), after-none c.args.draws.now.value)

pub loop-fix-preserved : goal.loop-fix-preserved
loop-fix-preserved c = (
  leg-more c.args.leg.now c.args.draws.now.value c.loop-fix.fix c.loop-fix.draws.value c.draw_fix-place.result _ _ _
      c.loop-fix.invariant.1 c.draw_fix-place.ensures.place c.loop-fix.invariant.0 c.in_ok-push_line.ensures,
  after-join _ 2 _ _ _ _ c.loop-fix.invariant.1 c.draw_fix-place.ensures.after (omega arith),
)

pub returns-clause-text : goal.returns-clause-text
returns-clause-text c =
    leg-whole c.args.leg.now c.args.draws.now.value c.loop-fix.fix _ _ c.loop-fix.invariant.0 (omega arith)
