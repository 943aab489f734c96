-- What a worker's seat has seen, and what the worker has kept and raised.
use Rattle.std.specs.Prelude.{◌≡◌, ℕ, ◌+◌, ◌<◌, ◌≤◌, List, All, Option, None, Some}
use Rattle.gl_box.specs.declared.closed.Why.{Why}
use Rattle.gl_box.specs.Tuple.{places_of}
use Rattle.gl_goal.specs.Goal.{Goal, IsReached}
use Rattle.gl_goal.specs.Certificate.{IsClosedFor}
use Rattle.gl_goal.specs.declared.best.Best.{Best}
use Rattle.gl_best.specs.declared.rule.View.{View}
use Rattle.gl_best.specs.declared.word.BestWord.{BestWord}
use Rattle.gl_best.specs.declared.word.Seat.{Seat}
use Rattle.gl_best.specs.Seats.{IsSeatOf, total_of, view_of}

-- the total that a seat has seen, if any
abbrev pub seen_by : Seat → Option ℕ
seen_by seat = total_of (view_of seat).seen

-- a seat is still one of this word's, keeps its numbers and has seen no less
pub record KeepsSeat (word : BestWord) (before after : Seat) : Type 0 where
  pub is_seat : IsSeatOf word after
  pub numbers : (view_of after).numbers ≡ (view_of before).numbers
  pub no_less : (view_of before).seen ≤ (view_of after).seen

-- Nothing was kept, and nothing was raised. Or a legal tuple was kept, with its value; just that
-- value was raised, and it is above what had been seen before.
abbrev pub IsKept : Goal → View → View → Option Best → Type 0
IsKept goal before after None = after.raised ≡ before.raised
IsKept goal before after (Some best) =
    IsReached goal best.total (places_of best.tuple)
    × (after.raised ≡ best.total + 1)
    × (before.seen < after.raised)

-- each closed cell is closed by its reason for what the seat has seen
abbrev pub AreClosedFor : Goal → Seat → List (List (ℕ × ℕ) × Why) → Type 0
AreClosedFor goal seat closed = All (λ box. IsClosedFor goal (seen_by seat) box.0 box.1) closed
