-- The turn points of a task among its points.
use Rattle.std.specs.Prelude.{◌≡◌, ℕ, ◌+◌, ◌-◌, List, slice_get, Some}
use Rattle.gl_cup.specs.declared.point.CupPoint.{CupPoint}
use Rattle.gl_draft.specs.declared.turn.Turn.{Turn}

-- the turn point with a number, which counts from 1, the start, and the points before and behind it
pub record IsTurnAt (points : List CupPoint) (number : ℕ) (turn : Turn) : Type 0 where
  pub start : slice_get points 0 ≡ Some turn.start.now
  pub before : slice_get points (number - 1) ≡ Some turn.before.now
  pub here : slice_get points number ≡ Some turn.here.now
  pub next : slice_get points (number + 1) ≡ Some turn.next.now

-- two points of a task, one behind the other
pub record ArePair (points : List CupPoint) (number : ℕ) (one next : CupPoint) : Type 0 where
  pub one_is : slice_get points number ≡ Some one
  pub next_is : slice_get points (number + 1) ≡ Some next
