-- What a worker took and put at its place, and what of the place stays.
use Rattle.std.specs.Prelude.{◌≡◌, ℕ, ◌+◌, List, ◌++◌, map, sum_by}
use Rattle.gl_box.specs.declared.cell.Cell.{Cell}
use Rattle.gl_deal.specs.declared.place.Place.{Place}
use Rattle.gl_deal.specs.declared.view.PassView.{PassView}
use Rattle.gl_deal.specs.Tokens.{Deque, end_of, hand_deque, hand_view}

-- the passes of a place, each by its deque and what it knows
abbrev pub ends_of : Place → List (Deque × PassView)
ends_of place = map end_of place.passes.items

-- what some passes have taken weighs together
abbrev pub stolen_weight : (Cell → ℕ) → List (Deque × PassView) → ℕ
stolen_weight weight ends = sum_by (λ pass. sum_by weight pass.1.taken) ends

-- what the hand and the passes of a place have taken weighs together
abbrev pub taken_weight : (Cell → ℕ) → Place → ℕ
taken_weight weight place =
    sum_by weight (hand_view place.hand).taken + stolen_weight weight (ends_of place)

-- the deque of a pass, and the workers that it serves
abbrev pub duty_of : Deque × PassView → Deque × List ℕ
duty_of pass = (pass.0, pass.1.serves)

-- The hand and the passes of a place took some cells, and the hand put others: what they have
-- taken weighs more by these cells, however cells are weighed. The place keeps its hand and its
-- passes, in their order, each with its deque and its worker, and the hand has gathered no more.
pub record Moves (before after : Place) (taken put : List Cell) : Type 0 where
  pub took : (weight : Cell → ℕ)
      → taken_weight weight after ≡ taken_weight weight before + sum_by weight taken
  pub puts : (hand_view after.hand).put ≡ (hand_view before.hand).put ++ put
  pub deque : hand_deque after.hand ≡ hand_deque before.hand
  pub owner : (hand_view after.hand).owner ≡ (hand_view before.hand).owner
  pub workers : (hand_view after.hand).workers ≡ (hand_view before.hand).workers
  pub gathered : (hand_view after.hand).gathered ≡ (hand_view before.hand).gathered
  pub settled : (hand_view after.hand).settled ≡ (hand_view before.hand).settled
  pub passes : map duty_of (ends_of after) ≡ map duty_of (ends_of before)
