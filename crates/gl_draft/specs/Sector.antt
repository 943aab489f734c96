-- Which way a sector lies.
use Rattle.std.specs.Prelude.{◌≡◌, ◌≢◌, ℕ, ◌+◌, ◌%◌, nat_lt, Bool, true, Some, None, unsigned_abs}
use Rattle.gl_draft.specs.Bearing.{HasNoBearing, IsBearing, outside_of, thousandths_of}
use Rattle.gl_cup.specs.declared.zone.Style as code_style
use Rattle.gl_cup.specs.declared.zone.Style.TheVariants as style
use Rattle.gl_sphere.specs.Sphere.{quarter_turn}
use Rattle.gl_sphere.specs.declared.place.Grid.{Grid}
use Rattle.gl_draft.specs.declared.draft.Axis as code
use Rattle.gl_draft.specs.declared.draft.Axis.TheVariants as axis
use Rattle.gl_draft.specs.declared.turn.Turn.{Turn}

-- the direction from a place to another, in thousandths of a degree
pub record IsWayTo (from to : Grid) (way : ℕ) : Type 0 where
  pub angle : ℕ
  pub bearing : IsBearing from to angle
  pub rounded : way ≡ thousandths_of angle

-- the direction half way between those to the points before and behind, in the greater of the two
-- angles between them, in thousandths of a degree
pub record IsOutside (before here next : Grid) (way : ℕ) : Type 0 where
  pub back : ℕ
  pub on : ℕ
  pub angle : ℕ
  pub to_before : IsBearing here before back
  pub to_next : IsBearing here next on
  pub outside : outside_of back on ≡ Some angle
  pub rounded : way ≡ thousandths_of angle

-- the direction that a style says
abbrev pub IsWayBy : code_style.Style → Turn → ℕ → Type 0
IsWayBy style.Fixed turn way = way ≡ turn.here.now.zone.axis % 360_000
IsWayBy style.Symmetrical turn way =
    IsOutside turn.before.now.place turn.here.now.place turn.next.now.place way
IsWayBy style.ToNext turn way = IsWayTo turn.here.now.place turn.next.now.place way
IsWayBy style.ToPrevious turn way = IsWayTo turn.here.now.place turn.before.now.place way
IsWayBy style.ToStart turn way = IsWayTo turn.here.now.place turn.start.now.place way

-- the direction that the style of a turn point's zone says
abbrev pub IsWay : Turn → ℕ → Type 0
IsWay turn way = IsWayBy turn.here.now.zone.style turn way

-- where a sector lies is known if it is symmetrical, which lies outside the turn
abbrev pub IsKnown : code_style.Style → code.Axis → Type 0
IsKnown named (axis.About way) = named ≡ style.Symmetrical
IsKnown named (axis.Either way) = named ≢ style.Symmetrical

abbrev pub way_of : code.Axis → ℕ
way_of (axis.About way) = way
way_of (axis.Either way) = way

-- the direction outside a turn isn't defined
pub data HasNoOutside (before here next : Grid) : Type 0 where
  no_before : HasNoBearing here before → HasNoOutside before here next
  no_next : HasNoBearing here next → HasNoOutside before here next
  straight : (back on : ℕ) → IsBearing here before back → IsBearing here next on
      → outside_of back on ≡ None → HasNoOutside before here next

-- the direction that a style says isn't defined
abbrev pub HasNoWayBy : code_style.Style → Turn → Type 0
HasNoWayBy style.Fixed turn = ⊥
HasNoWayBy style.Symmetrical turn =
    HasNoOutside turn.before.now.place turn.here.now.place turn.next.now.place
HasNoWayBy style.ToNext turn = HasNoBearing turn.here.now.place turn.next.now.place
HasNoWayBy style.ToPrevious turn = HasNoBearing turn.here.now.place turn.before.now.place
HasNoWayBy style.ToStart turn = HasNoBearing turn.here.now.place turn.start.now.place

-- the point isn't a pole, nor becomes one when it is rounded
abbrev pub is_off_pole : Grid → Bool
is_off_pole place = nat_lt (unsigned_abs place.lat + 50) quarter_turn

-- a sector at a turn point has no axis
abbrev pub HasNoAxis : Turn → Type 0
HasNoAxis turn =
    is_off_pole turn.here.now.place ≡ true → HasNoWayBy turn.here.now.zone.style turn

-- a sector at a turn point, which isn't a pole, lies along this axis
pub record IsAxisOf (turn : Turn) (axis : code.Axis) : Type 0 where
  pub off_pole : is_off_pole turn.here.now.place ≡ true
  pub way : IsWay turn (way_of axis)
  pub known : IsKnown turn.here.now.zone.style axis
