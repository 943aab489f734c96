-- What workers found so far, and what one turn of a worker adds.
use Rattle.std.specs.Prelude.{◌≡◌, ℕ, ◌+◌, ◌⊎◌, max, List, ◌++◌, Option, None, Some}
use Rattle.gl_box.specs.declared.cell.Cell.{Cell}
use Rattle.gl_box.specs.declared.closed.Why.{Why}
use Rattle.gl_goal.specs.Goal.{Goal}
use Rattle.gl_goal.specs.declared.best.Best.{Best}
use Rattle.gl_goal.specs.Best.{IsSound}
use Rattle.gl_best.specs.declared.word.BestWord.{BestWord}
use Rattle.gl_best.specs.Seats.{IsSeatOf, view_of}
use Rattle.gl_deal.specs.declared.place.Place.{Place}
use Rattle.gl_deal.specs.Rule.{HasSettledAll, TookAllItPut}
use Rattle.gl_deal.specs.Tokens.{hand_view}
use Rattle.gl_pool.specs.declared.tally.Tally.{Tally}
use Rattle.gl_pool.specs.Kept.{AreClosedFor}
use Rattle.gl_pool.specs.Parts.{ArePartedInto}
use Rattle.gl_pool.specs.Taken.{Moves}
use Rattle.gl_order.specs.Runs.{ArePassed, boxes_in_runs}

-- the word that says what was found: 0 for nothing, else the total plus one
abbrev pub word_of : Option Best → ℕ
word_of None = 0
word_of (Some best) = best.total + 1

-- What was found is nothing, or a legal tuple and its value; the seat has raised just that; and
-- each closed cell is closed by its reason for what the seat has seen; and the lists pass as is
-- said.
pub record IsTally (goal : Goal) (word : BestWord) (tally : Tally) : Type 0 where
  pub is_seat : IsSeatOf word tally.seat
  pub sound : IsSound goal tally.best
  pub raised : (view_of tally.seat).raised ≡ word_of tally.best
  pub closed : AreClosedFor goal tally.seat (boxes_in_runs tally.closed.items)
  pub passed : ArePassed tally.closed.items

-- one of two that were found, and worth no less than either
pub record IsGreater (one other greater : Option Best) : Type 0 where
  pub either : (greater ≡ one) ⊎ (greater ≡ other)
  pub greatest : word_of greater ≡ max (word_of one) (word_of other)

-- A worker took cells and put others at its place, and the cells that it closed join the tally.
pub record Turns (goal : Goal) (before after : Place) (tally tally_after : Tally) : Type 0 where
  pub taken : List Cell
  pub put : List Cell
  pub closed : List (List (ℕ × ℕ) × Why)
  pub strange : List Cell
  pub moves : Moves before after taken put
  pub parts : ArePartedInto goal None taken closed put strange
  pub joined : boxes_in_runs tally_after.closed.items ≡ boxes_in_runs tally.closed.items ++ closed
  pub numbers : (view_of tally_after.seat).numbers ≡ (view_of tally.seat).numbers
  pub all_put : HasSettledAll (hand_view before.hand) → TookAllItPut (hand_view after.hand)

-- one tally takes in another of the same goal
pub record Gathers (word : BestWord) (tally other after : Tally) : Type 0 where
  pub is_seat : IsSeatOf word after.seat
  pub keeps : (goal : Goal) → IsTally goal word tally → IsTally goal word other
      → IsTally goal word after
  pub joined : boxes_in_runs after.closed.items
      ≡ boxes_in_runs tally.closed.items ++ boxes_in_runs other.closed.items
  pub numbers : (view_of after.seat).numbers
      ≡ (view_of tally.seat).numbers ++ (view_of other.seat).numbers
