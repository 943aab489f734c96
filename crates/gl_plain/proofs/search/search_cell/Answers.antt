use Rattle.std.proofs.Common.{◌∙◌, ap, List, [], ◌∷◌, ◌++◌}
use Rattle.gl_box.specs.declared.cell.Cell.{Cell}
use Rattle.gl_box.proofs.Work.{work_falls}
use Rattle.gl_plain.proofs.Stack.{goes_covered, goes_from, goes_on}
use Rattle.gl_goal.specs.Best.{total_of}
use Rattle.gl_goal.proofs.Totals.{less_self, less_through}
use Rattle.gl_plain.proofs.search.search_cell.Goals as goal

pub advance-requires-clause-covers : goal.advance-requires-clause-covers
advance-requires-clause-covers g c = goes_covered _ _ _ _ _ _ c.loop-best.invariant.on

pub loop-best-smaller : goal.loop-best-smaller
loop-best-smaller g c = work_falls _ _ _ _ _ _ c.in_ok-advance.ensures.step

pub loop-best-preserved : goal.loop-best-preserved
loop-best-preserved g c = record {
  on = goes_on _ _ _ _ _ _ _ _ _ c.in_ok-advance.ensures.sound c.in_ok-advance.ensures.grows c.loop-best.invariant.on c.in_ok-advance.ensures.step;
  legs = c.in_ok-advance.ensures.legs;
  grows = less_through _ _ _ c.loop-best.invariant.grows c.in_ok-advance.ensures.grows;
}

pub loop-best-init : goal.loop-best-init
loop-best-init g c = record {
  on = goes_from _ _ c.push.new.self.items c.args.cell _ c.requires.sound (c.in_ok-push.ensures.items ∙ ap (λ (cells : List Cell). cells ++ c.args.cell ∷ []) c.clear.ensures.items) c.requires.node;
  legs = c.requires.legs;
  grows = less_self (total_of c.args.best.now);
}
