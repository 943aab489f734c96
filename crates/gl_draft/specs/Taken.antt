-- What is taken from a task of a SeeYou file, and why nothing is.
use Rattle.std.specs.Prelude.{◌≡◌, ℕ, ◌<◌, ◌≤◌, ◌+◌, ◌==◌, ◌&&◌, not, nat_le, nat_lt, if◌then◌else◌}
use Rattle.std.specs.Prelude.{List, [], ◌∷◌, length, slice_get, true, Option, None, Some, Result, Ok, Err, ℤ, pos, neg_ℤ, ◌+ℤ◌, ◌-ℤ◌, ◌≤ℤ◌, int_lt, ⊤, ◌||◌, is_some, Bool, false}
use Rattle.std.specs.List.{list_any}
use Rattle.jiff_core.specs.Calendar.{IsEpochDay}
use Rattle.jiff_core.specs.Date.{epoch_day}
use Rattle.jiff_core.specs.declared.civil.date.Date.{Date}
use Rattle.gl_sphere.specs.Distance.{squared_chord, written_distance}
use Rattle.gl_sphere.specs.Place.{written_vector}
use Rattle.gl_sphere.specs.Sphere.{half_turn}
use Rattle.gl_cup.specs.declared.point.CupPoint.{CupPoint}
use Rattle.gl_cup.specs.declared.point.CupTask.{CupTask}
use Rattle.gl_cup.specs.declared.zone.ObsZone.{ObsZone}
use Rattle.gl_cup.specs.declared.zone.Style as code_style
use Rattle.gl_cup.specs.declared.zone.Style.TheVariants as style
use Rattle.gl_sphere.specs.declared.place.Grid.{Grid}
use Rattle.gl_draft.specs.declared.draft.Finish as code_finish
use Rattle.gl_draft.specs.declared.draft.Finish.TheVariants as taken_finish
use Rattle.gl_draft.specs.declared.draft.Kind as code_kind
use Rattle.gl_draft.specs.declared.draft.Kind.TheVariants.{Area, Racing}
use Rattle.gl_draft.specs.declared.draft.Part as code_part
use Rattle.gl_draft.specs.declared.draft.Part.TheVariants.{Circle, Sector}
use Rattle.gl_draft.specs.declared.draft.Sector as code_sector
use Rattle.gl_draft.specs.declared.draft.Gate.{Gate}
use Rattle.gl_draft.specs.declared.draft.Zone.{Zone}
use Rattle.gl_draft.specs.declared.course.Course.{Course}
use Rattle.gl_draft.specs.declared.course.Shape.{Shape}
use Rattle.gl_draft.specs.declared.turn.Turn.{Turn}
use Rattle.gl_draft.specs.Sector.{HasNoAxis, IsAxisOf}
use Rattle.gl_draft.specs.Turn.{ArePair, IsTurnAt}

-- two angles in 1/100,000 minute are at most half a thousandth of a minute apart
abbrev pub IsNear : ℤ → ℤ → Type 0
IsNear a b = (a ≤ℤ (b +ℤ pos 50)) × (b ≤ℤ (a +ℤ pos 50))

pub record IsNearPlace (from to : Grid) : Type 0 where
  pub lat : IsNear from.lat to.lat
  pub lon : IsNear from.lon to.lon

-- the longitude half a turn away
abbrev pub opposite_longitude : ℤ → ℤ
opposite_longitude lon =
    if int_lt (pos 0) lon then lon -ℤ pos half_turn else lon +ℤ pos half_turn

-- the place on the far side of the earth: as far south as the one is north, half a turn away
pub record IsOpposite (place other : Grid) : Type 0 where
  pub lat : other.lat ≡ neg_ℤ place.lat
  pub lon : other.lon ≡ opposite_longitude place.lon

-- two styles, as tests
abbrev pub is_to_next : code_style.Style → Bool
is_to_next style.ToNext = true
is_to_next other = false

abbrev pub is_to_previous : code_style.Style → Bool
is_to_previous style.ToPrevious = true
is_to_previous other = false

-- the zone of a start: a line across the way to the next point, alone
abbrev pub is_start_line : ObsZone → Bool
is_start_line zone = zone.is_line && is_to_next zone.style && (zone.second_radius == 0)

-- a start line of the half width of its zone, towards the next point
pub record IsStartOf (start next : CupPoint) (made : Gate) : Type 0 where
  pub line : is_start_line start.zone ≡ true
  pub at : IsNearPlace start.place made.at
  pub towards : IsNearPlace next.place made.towards
  pub half : made.half ≡ start.zone.radius

-- the zone of a finish: a full circle alone, or a line across the way from the point before
abbrev pub is_ring : ObsZone → Bool
is_ring zone =
    not zone.is_line && (zone.angle == 180_000) && (zone.second_radius == 0)

abbrev pub is_gate : ObsZone → Bool
is_gate zone = zone.is_line && is_to_previous zone.style && (zone.second_radius == 0)

-- a ring for a full circle
pub record IsRingOf (finish : CupPoint) (at : Grid) (radius : ℕ) : Type 0 where
  pub circle : is_ring finish.zone ≡ true
  pub at_is : IsNearPlace finish.place at
  pub radius_is : radius ≡ finish.zone.radius

-- how far apart two places are, in centimetres
abbrev pub distance_of : Grid → Grid → ℕ
distance_of a b = written_distance (squared_chord (written_vector a) (written_vector b))

-- a line across the way from the point before, which is a kilometre away or more, crossed towards
-- the place on the far side of the earth from that point, which is the way on
pub record IsGateOf (last finish : CupPoint) (made : Gate) : Type 0 where
  pub line : is_gate finish.zone ≡ true
  pub at_is : IsNearPlace finish.place made.at
  pub before : Grid
  pub before_is : IsNearPlace last.place before
  pub apart : 100_000 ≤ distance_of before made.at
  pub towards_is : IsOpposite before made.towards
  pub half_is : made.half ≡ finish.zone.radius

abbrev pub IsFinishOf : CupPoint → CupPoint → code_finish.Finish → Type 0
IsFinishOf last finish (taken_finish.Ring at radius) = IsRingOf finish at radius
IsFinishOf last finish (taken_finish.Gate made) = IsGateOf last finish made

-- the point before a finish line is less than a kilometre away
pub record IsTooNear (last finish : CupPoint) : Type 0 where
  pub at : Grid
  pub at_is : IsNearPlace finish.place at
  pub before : Grid
  pub before_is : IsNearPlace last.place before
  pub near : distance_of before at < 100_000

-- the zone of a finish is neither a ring nor a line that has a direction
pub record HasNoFinish (last finish : CupPoint) : Type 0 where
  pub no_ring : is_ring finish.zone ≡ false
  pub no_gate : is_gate finish.zone ≡ true → IsTooNear last finish

-- the first part of a turn point's zone is no line, and goes some way to each side
abbrev pub is_part : ObsZone → Bool
is_part zone = not zone.is_line && nat_lt 0 zone.angle && nat_le zone.angle 180_000

-- a part alone, or a keyhole: a sector and a full circle
abbrev pub is_alone : ObsZone → Bool
is_alone zone = zone.second_radius == 0

abbrev pub is_keyhole : ObsZone → Bool
is_keyhole zone =
    not (zone.second_radius == 0) && not (zone.angle == 180_000) && (zone.second_angle == 180_000)

-- a sector that begins at its second radius: two sectors with one half angle
abbrev pub is_ring_sector : ObsZone → Bool
is_ring_sector zone =
    not (zone.second_radius == 0) && not (zone.angle == 180_000)
    && (zone.second_angle == zone.angle) && nat_lt zone.second_radius zone.radius

-- where a sector begins: at its second radius, or else at its centre
abbrev pub inner_of : ObsZone → ℕ
inner_of zone = if is_ring_sector zone then zone.second_radius else 0

-- a sector with the radii, the half angle and the direction
pub record IsSectorOf (turn : Turn) (sector : code_sector.Sector) : Type 0 where
  pub part : is_part turn.here.now.zone ≡ true
  pub narrow : (turn.here.now.zone.angle == 180_000) ≡ false
  pub inner : sector.inner ≡ inner_of turn.here.now.zone
  pub outer : sector.outer ≡ turn.here.now.zone.radius
  pub half_angle : sector.half_angle ≡ turn.here.now.zone.angle
  pub axis : IsAxisOf turn sector.axis

-- a circle for a full one
pub record IsCircleOf (turn : Turn) (radius : ℕ) : Type 0 where
  pub part : is_part turn.here.now.zone ≡ true
  pub full : (turn.here.now.zone.angle == 180_000) ≡ true
  pub radius_is : radius ≡ turn.here.now.zone.radius

abbrev pub IsPartOf : Turn → code_part.Part → Type 0
IsPartOf turn (Circle radius) = IsCircleOf turn radius
IsPartOf turn (Sector sector) = IsSectorOf turn sector

-- it is neither: no such part, or a sector without an axis
abbrev pub HasNoPart : Turn → Type 0
HasNoPart turn =
    is_part turn.here.now.zone ≡ true
    → ((turn.here.now.zone.angle == 180_000) ≡ false) × HasNoAxis turn

-- a task file can say the parts of a zone
abbrev pub is_sayable : ObsZone → Bool
is_sayable zone = is_alone zone || is_ring_sector zone || is_keyhole zone

-- the second part of a zone
abbrev pub IsSecondOf : ObsZone → Option code_part.Part → Type 0
IsSecondOf zone None = (is_alone zone || is_ring_sector zone) ≡ true
IsSecondOf zone (Some (Circle radius)) =
    (is_keyhole zone ≡ true) × (radius ≡ zone.second_radius)
IsSecondOf zone (Some (Sector sector)) = ⊥

abbrev pub ArePartsOf : Turn → code_part.Part → Option code_part.Part → Type 0
ArePartsOf turn first second =
    IsPartOf turn first × IsSecondOf turn.here.now.zone second

-- the zone of a turn point
pub record IsZoneFor (turn : Turn) (zone : Zone) : Type 0 where
  pub at : IsNearPlace turn.here.now.place zone.at
  pub parts : ArePartsOf turn zone.part zone.second

-- a task file can't say the zone of a turn point
abbrev pub HasNoZone : Turn → Type 0
HasNoZone turn =
    is_sayable turn.here.now.zone ≡ true → HasNoPart turn

-- the zone of the turn point with a number
pub record IsZoneAt (points : List CupPoint) (number : ℕ) (zone : Zone) : Type 0 where
  pub turn : Turn
  pub turn_is : IsTurnAt points number turn
  pub zone_is : IsZoneFor turn zone

-- the zones of turn points whose numbers count from one on
abbrev pub AreZonesFrom : List CupPoint → ℕ → List Zone → Type 0
AreZonesFrom points number [] = ⊤
AreZonesFrom points number (zone ∷ zones) =
    IsZoneAt points number zone × AreZonesFrom points (number + 1) zones

-- the start of a task
pub record IsStartIn (points : List CupPoint) (start : Gate) : Type 0 where
  pub first : CupPoint
  pub next : CupPoint
  pub pair : ArePair points 0 first next
  pub start_is : IsStartOf first next start

-- the start, the zones and the finish of a task's points
pub record IsCourseOf (points : List CupPoint) (start : Gate) (zones : List Zone)
    (finish : code_finish.Finish) : Type 0 where
  pub start_is : IsStartIn points start
  pub zones_are : AreZonesFrom points 1 zones
  pub count : length points ≡ length zones + 2
  pub last_turn : CupPoint
  pub last : CupPoint
  pub pair : ArePair points (length zones) last_turn last
  pub finish_is : IsFinishOf last_turn last finish

-- the first turn point whose zone a task file can't say, and the line of the zone
pub record IsZoneless (points : List CupPoint) (line number : ℕ) : Type 0 where
  pub zones : List Zone
  pub zones_are : AreZonesFrom points 1 zones
  pub number_is : number ≡ length zones + 1
  pub turn : Turn
  pub turn_is : IsTurnAt points number turn
  pub shape : HasNoZone turn
  pub line_is : line ≡ turn.here.now.line

-- the first point of a task whose zone a task file can't say, and the line of the zone
pub data IsShapeless (points : List CupPoint) (line number : ℕ) : Type 0 where
  startless : (first : CupPoint) → slice_get points 0 ≡ Some first
      → is_start_line first.zone ≡ false → line ≡ first.line → number ≡ 0
      → IsShapeless points line number
  zoneless : (start : Gate) → IsStartIn points start → IsZoneless points line number
      → IsShapeless points line number
  finishless : (start : Gate) → IsStartIn points start → (zones : List Zone)
      → AreZonesFrom points 1 zones → length points ≡ length zones + 2
      → (last_turn last : CupPoint) → ArePair points (length zones) last_turn last
      → HasNoFinish last_turn last → line ≡ last.line → number ≡ length zones + 1
      → IsShapeless points line number

-- the course of a task's points, or the first point whose zone a task file can't say
abbrev pub IsCourseOr : List CupPoint → Result Course Shape → Type 0
IsCourseOr points (Ok course) = IsCourseOf points course.start course.zones.items course.finish
IsCourseOr points (Err shape) = IsShapeless points shape.line shape.number

-- a task of areas has a time, or a zone that is said to be an area
abbrev pub is_area_task : CupTask → Bool
is_area_task task =
    list_any (λ (point : CupPoint). point.zone.is_area) task.points || is_some task.time

-- the kind of a task that is one of areas or isn't; the time of one of areas is its minimum
abbrev pub kind_by : Bool → Option ℕ → code_kind.Kind
kind_by true time = Area time
kind_by false time = Racing

-- a day of the calendar is the one with a number, if there is one
abbrev pub IsDay : Option Date → Option ℤ → Type 0
IsDay None None = ⊤
IsDay None (Some day) = ¬ (IsEpochDay day)
IsDay (Some date) None = ⊥
IsDay (Some date) (Some day) = epoch_day date ≡ day
