use Rattle.std.proofs.Common.{◌≡◌, sym, subst, Option, Some, None, IfNone, MatchOption}
use Rattle.gl_box.specs.declared.cell.Cell.{Cell}
use Rattle.gl_deal.specs.declared.view.View.{View}
use Rattle.gl_deal.specs.Views.{as_hand}
use Rattle.gl_deal.specs.Rule.{HasSettledAll, TookAllItPut}
use Rattle.gl_deal.proofs.Steps.{finds, pops, takes}
use Rattle.gl_deal.proofs.hand.Hand.take.Goals as goal

pub pop_as-requires-clause-fifo : goal.pop_as-requires-clause-fifo
pop_as-requires-clause-fifo c = λ _. takes _ _ c.args.self.now.of_hand

pub pop_as-requires-clause-lifo : goal.pop_as-requires-clause-lifo
pop_as-requires-clause-lifo c = λ _. pops _ _ c.args.self.now.of_hand

pub pop_as-requires-clause-empty : goal.pop_as-requires-clause-empty
pop_as-requires-clause-empty c = finds _ _ c.args.self.now.of_hand

-- what an empty take learned of the view before holds of the view after it
found : (result : Option Cell) (before after : View) (taken : Cell → Type 0)
    → MatchOption result ((after ≡ before) × (HasSettledAll (as_hand before) → TookAllItPut (as_hand before))) taken
    → IfNone result (HasSettledAll (as_hand after) → TookAllItPut (as_hand after))
found None before after taken rule = subst (λ (view : View). HasSettledAll (as_hand view) → TookAllItPut (as_hand view)) (sym rule.0) rule.1
found (Some cell) before after taken rule = tt

pub returns-clause-all : goal.returns-clause-all
returns-clause-all c = found c.pop_as.result _ _ _ c.pop_as.ensures.rule
