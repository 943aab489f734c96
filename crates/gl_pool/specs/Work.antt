-- What one worker does in one call.
use Rattle.std.specs.Prelude.{ℕ, List, map, Option}
use Rattle.gl_box.specs.declared.cell.Cell.{Cell}
use Rattle.gl_goal.specs.Goal.{Goal}
use Rattle.gl_best.specs.declared.word.BestWord.{BestWord}
use Rattle.gl_best.specs.declared.word.Seat.{Seat}
use Rattle.gl_best.specs.Seats.{view_of}
use Rattle.gl_deal.specs.declared.place.Place.{Place}
use Rattle.gl_deal.specs.Rule.{HasSettledAll, TookAllItPut}
use Rattle.gl_deal.specs.Tokens.{hand_view}
use Rattle.gl_goal.specs.declared.best.Best.{Best}
use Rattle.gl_box.specs.declared.closed.Why.{Why}
use Rattle.gl_box.specs.Closed.{box_of}
use Rattle.gl_pool.specs.declared.share.Haul.{Haul}
use Rattle.gl_pool.specs.declared.share.Share.{Share}
use Rattle.gl_pool.specs.Trail.{boxes_in}
use Rattle.gl_pool.specs.Kept.{AreClosedFor, IsKept, KeepsSeat, seen_by}
use Rattle.gl_pool.specs.Parts.{ArePartedInto}
use Rattle.gl_pool.specs.Taken.{Moves}

-- A worker took some cells and put others, and it has some tuple, closed cells and strange ones to
-- show for them. What it cut had a bound above what its seat had seen at the call, and what it
-- closed is closed for what the seat has seen at the return. Where the passes of all other workers
-- were settled at the call, the hand took or gathered all that it put.
pub record HasDone (goal : Goal) (word : BestWord) (before after : Place)
    (seat_before seat_after : Seat) (best : Option Best) (boxes : List (List (ℕ × ℕ) × Why))
    (cells : List Cell) : Type 0 where
  pub taken : List Cell
  pub put : List Cell
  pub moves : Moves before after taken put
  pub parts : ArePartedInto goal (seen_by seat_before) taken boxes put cells
  pub seat : KeepsSeat word seat_before seat_after
  pub reasons : AreClosedFor goal seat_after boxes
  pub kept : IsKept goal (view_of seat_before) (view_of seat_after) best
  pub all_put : HasSettledAll (hand_view before.hand) → TookAllItPut (hand_view after.hand)

-- its share is what it has to show
abbrev pub HasWorked : Goal → BestWord → Place → Place → Seat → Seat → Share → Type 0
HasWorked goal word before after seat_before seat_after share =
    HasDone goal word before after seat_before seat_after share.kept
    (map box_of share.closed.items) share.strange.items

-- its haul is what it has to show
abbrev pub HasHauled : Goal → BestWord → Place → Place → Seat → Seat → Haul → Type 0
HasHauled goal word before after seat_before seat_after haul =
    HasDone goal word before after seat_before seat_after haul.kept (boxes_in haul.closed)
    haul.strange.items
