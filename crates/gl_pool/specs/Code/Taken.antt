-- What a worker took from others, and where it found nothing.
use Rattle.std.specs.Prelude.{◌≡◌, ℕ, ◌+◌, List, map}
use Rattle.gl_box.specs.declared.cell.Cell.{Cell}
use Rattle.gl_deal.specs.declared.place.Place.{Place}
use Rattle.gl_deal.specs.declared.view.PassView.{PassView}
use Rattle.gl_deal.specs.Rule.{HasSettledAll, TookAllItPut}
use Rattle.gl_deal.specs.Tokens.{Deque, hand_deque, hand_view}
use Rattle.gl_pool.specs.Taken.{duty_of, ends_of, stolen_weight}

-- some passes took a cell, and each keeps its deque and its workers
pub record Steals (before after : List (Deque × PassView)) (cell : Cell) : Type 0 where
  pub took : (weight : Cell → ℕ)
      → stolen_weight weight after ≡ stolen_weight weight before + weight cell
  pub passes : map duty_of after ≡ map duty_of before

-- Nothing was found in any deque. Once the hand has settled the passes of all other workers, it
-- took or gathered all that it put.
pub record FindsNone (before after : Place) : Type 0 where
  pub deque : hand_deque after.hand ≡ hand_deque before.hand
  pub hand : hand_view after.hand ≡ hand_view before.hand
  pub passes : ends_of after ≡ ends_of before
  pub all_put : HasSettledAll (hand_view after.hand) → TookAllItPut (hand_view after.hand)
