-- A worker between two steps of one call.
use Rattle.std.specs.Prelude.{◌≡◌, ℕ, ◌+◌, ◌<◌, List, length, All, Option}
use Rattle.gl_box.specs.declared.cell.Cell.{Cell}
use Rattle.gl_box.specs.declared.closed.Why.{Why}
use Rattle.gl_box.specs.Cell.{spans_of}
use Rattle.gl_goal.specs.Goal.{Goal}
use Rattle.gl_best.specs.declared.word.BestWord.{BestWord}
use Rattle.gl_best.specs.declared.word.Seat.{Seat}
use Rattle.gl_best.specs.Seats.{view_of}
use Rattle.gl_deal.specs.declared.place.Place.{Place}
use Rattle.gl_pool.specs.declared.bench.Bench.{Bench}
use Rattle.gl_pool.specs.Kept.{AreClosedFor, IsKept, KeepsSeat, seen_by}
use Rattle.gl_pool.specs.Parts.{IsFromTaken, IsPartOfTaken, IsStrange, times_closed, times_held}
use Rattle.gl_pool.specs.Taken.{Moves}
use Rattle.gl_pool.specs.Trail.{boxes_in}

-- The cells that were taken are parted into those that the worker still has to look at, those that
-- it closed, those that it put and the strange ones. Only a cell that stands alone can be one that
-- was taken; where there are more, they are parts.
pub record AreBeingParted (goal : Goal) (seen : Option ℕ) (taken cells : List Cell)
    (closed : List (List (ℕ × ℕ) × Why)) (put strange : List Cell) : Type 0 where
  pub parted : (tuple : List ℕ)
      → times_held taken tuple
      ≡ times_held cells tuple + times_closed closed tuple + times_held put tuple
      + times_held strange tuple
  pub cells_are : All (λ cell. IsFromTaken goal seen taken (spans_of cell)) cells
  pub parts : 1 < length cells → All (λ cell. IsPartOfTaken goal seen taken (spans_of cell)) cells
  pub closed_are : All (λ box. IsFromTaken goal seen taken box.0) closed
  pub put_are : All (λ cell. IsPartOfTaken goal seen taken (spans_of cell)) put
  pub strange_are : All (IsStrange goal taken) strange

-- what a worker was given when it was called
pub record Call : Type 0 where
  pub place : Place
  pub seat : Seat

pub record IsUnderWay (goal : Goal) (word : BestWord) (call : Call) (place : Place) (seat : Seat)
    (bench : Bench) : Type 0 where
  pub taken : List Cell
  pub put : List Cell
  pub moves : Moves call.place place taken put
  pub parts : AreBeingParted goal (seen_by call.seat) taken bench.cells.items
      (boxes_in bench.share.closed) put bench.share.strange.items
  pub same_seat : KeepsSeat word call.seat seat
  pub reasons : AreClosedFor goal seat (boxes_in bench.share.closed)
  pub kept : IsKept goal (view_of call.seat) (view_of seat) bench.share.kept
  pub seen : bench.seen ≡ seen_by seat

-- somebody called the worker, and it is under way since
abbrev pub IsAtWork : Goal → BestWord → Place → Seat → Bench → Type 0
IsAtWork goal word place seat bench = (call : Call) × IsUnderWay goal word call place seat bench

-- whoever called the worker, it is still under way
abbrev pub GoesOn : Goal → BestWord → Place → Place → Seat → Seat → Bench → Bench → Type 0
GoesOn goal word place place_after seat seat_after bench bench_after =
    (call : Call) → IsUnderWay goal word call place seat bench
    → IsUnderWay goal word call place_after seat_after bench_after

-- the same, at whatever place it works
abbrev pub Steps : Goal → BestWord → Seat → Seat → Bench → Bench → Type 0
Steps goal word seat seat_after bench bench_after =
    (place : Place) → GoesOn goal word place place seat seat_after bench bench_after
