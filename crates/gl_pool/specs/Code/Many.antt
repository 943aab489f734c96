-- What is left of a search once all workers came back, and what the cells came to in the end.
use Rattle.std.specs.Prelude.{◌≡◌, ℕ, ◌+◌, ◌<◌, List, [], ◌∷◌, length, sum_by, None}
use Rattle.gl_box.specs.declared.cell.Cell.{Cell}
use Rattle.gl_box.specs.declared.closed.Why.{Why}
use Rattle.gl_box.specs.Cell.{spans_of}
use Rattle.gl_goal.specs.Goal.{Goal, whole_cell}
use Rattle.gl_deal.specs.declared.place.Place.{Place}
use Rattle.gl_deal.specs.Rule.{HasSettledAll}
use Rattle.gl_deal.specs.Tokens.{hand_view}
use Rattle.gl_pool.specs.declared.tally.Tally.{Tally}
use Rattle.gl_pool.specs.Code.Crew.{got_weight, put_weight}
use Rattle.gl_pool.specs.Parts.{ArePartedInto}
use Rattle.gl_pool.specs.Code.Settle.{StandReady, place_at}
use Rattle.gl_pool.specs.Taken.{ends_of}
use Rattle.gl_order.specs.Runs.{boxes_in_runs}

-- two lists of cells weigh the same, however cells are weighed
pub record WeighSame (cells others : List Cell) : Type 0 where
  pub weighs : (weight : Cell → ℕ) → sum_by weight cells ≡ sum_by weight others

-- cells were taken and parted, and all that was put, the whole cell first, was taken
pub record CameToAll (goal : Goal) (first : Cell) (taken put : List Cell)
    (closed : List (List (ℕ × ℕ) × Why)) (strange : List Cell) : Type 0 where
  pub is_whole : spans_of first ≡ whole_cell goal.axes
  pub balanced : WeighSame taken (first ∷ put)
  pub worked : ArePartedInto goal None taken closed put strange

-- Each worker stands at its place with its passes. The first hand has put the whole cell; nothing
-- else was put, and nothing was taken or gathered.
pub record IsDealt (goal : Goal) (places : List Place) : Type 0 where
  pub first : Cell
  pub is_whole : spans_of first ≡ whole_cell goal.axes
  pub ready : StandReady places
  pub begins : (d : Place) → (hand_view (place_at places 0 d).hand).put ≡ first ∷ []
  pub puts : (weight : Cell → ℕ) → put_weight weight places ≡ weight first
  pub got : (weight : Cell → ℕ) → got_weight weight places ≡ 0

-- The passes are settled. The whole cell and the cells that were put are what the hands have put;
-- what was taken is what they have taken and gathered.
pub record IsLeft (goal : Goal) (places : List Place) (tally : Tally) : Type 0 where
  pub first : Cell
  pub taken : List Cell
  pub put : List Cell
  pub strange : List Cell
  pub is_whole : spans_of first ≡ whole_cell goal.axes
  pub parts : ArePartedInto goal None taken (boxes_in_runs tally.closed.items) put strange
  pub puts : (weight : Cell → ℕ)
      → put_weight weight places ≡ weight first + sum_by weight put
  pub got : (weight : Cell → ℕ) → got_weight weight places ≡ sum_by weight taken
  pub none_left : (worker : ℕ) (d : Place) → worker < length places
      → ends_of (place_at places worker d) ≡ []
  pub settled : (owner : ℕ) (d : Place) → owner < length places
      → HasSettledAll (hand_view (place_at places owner d).hand)

-- all that was put was taken, and parted into what is closed
pub record ComesToAll (goal : Goal) (tally : Tally) : Type 0 where
  pub first : Cell
  pub taken : List Cell
  pub put : List Cell
  pub strange : List Cell
  pub all : CameToAll goal first taken put (boxes_in_runs tally.closed.items) strange
