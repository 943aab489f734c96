-- What the fields of an Options line and of an ObsZone line say. A key that is left out counts as 0, or can't be.
use Rattle.std.specs.Prelude.{ℕ, nat_le, nat_lt, ◌==◌, ◌||◌, ◌&&◌, if◌then◌else◌, codes, Bool, true, false, List, [], length, Option, None, Some, slice_index}
use Rattle.std.specs.Str.{byte}
use Rattle.gl_text.specs.Digits.{◌>>=◌, number_of}
use Rattle.gl_cup.specs.Decimal.{clock_of, radius_of, thousandths_of}
use Rattle.gl_cup.specs.Pair.{said}
use Rattle.gl_text.specs.Forms.{is_text}
use Rattle.gl_cup.specs.declared.zone.ObsZone.{ObsZone}
use Rattle.gl_cup.specs.declared.zone.Options.{Options}
use Rattle.gl_cup.specs.declared.zone.Style as code
use Rattle.gl_cup.specs.declared.zone.Style.TheVariants as style

-- the number of a point: one to nine digits, and no 0 before others
unfoldable pub point_of : List ℕ → Option ℕ
point_of text =
    if (length text == 0) || nat_lt 9 (length text)
    || (nat_lt 1 (length text) && (slice_index text 0 == byte "0")) then None
    else number_of text

-- which way a zone points
unfoldable pub style_of : List ℕ → Option code.Style
style_of text =
    if is_text text (codes "0") then Some style.Fixed
    else (if is_text text (codes "1") then Some style.Symmetrical
    else (if is_text text (codes "2") then Some style.ToNext
    else (if is_text text (codes "3") then Some style.ToPrevious
    else (if is_text text (codes "4") then Some style.ToStart else None))))

-- the thousandths of a degree of an angle of at most a whole turn
unfoldable pub angle_of : List ℕ → Option ℕ
angle_of text =
    thousandths_of text >>= λ angle. if nat_le angle 360_000 then Some angle else None

-- a key that is set, to 1 or True, or isn't: to 0 or False
abbrev pub flag_of : List ℕ → Option Bool
flag_of text =
    if is_text text (codes "0") || is_text text (codes "False") then Some false
    else (if is_text text (codes "1") || is_text text (codes "True") then Some true else None)

-- a time; midnight is none
unfoldable pub time_of : List ℕ → Option (Option ℕ)
time_of text =
    clock_of text >>= λ second. Some (if second == 0 then None else Some second)

-- the zone that the fields of a line say
unfoldable pub zone_of : List (List ℕ) → Option ObsZone
zone_of fields = do
  point ← point_of (said (codes "ObsZone") [] fields)
  style ← style_of (said (codes "Style") [] fields)
  radius ← radius_of (said (codes "R1") [] fields)
  angle ← angle_of (said (codes "A1") (codes "0") fields)
  second_radius ← radius_of (said (codes "R2") (codes "0") fields)
  second_angle ← angle_of (said (codes "A2") (codes "0") fields)
  axis ← angle_of (said (codes "A12") (codes "0") fields)
  is_line ← flag_of (said (codes "Line") (codes "0") fields)
  is_area ← flag_of (said (codes "AAT") (codes "0") fields)
  Some (record {
    point = point;
    style = style;
    radius = radius;
    angle = angle;
    second_radius = second_radius;
    second_angle = second_angle;
    axis = axis;
    is_line = is_line;
    is_area = is_area;
  })

-- the options that they say; points in any order are no task that can be said
unfoldable pub options_of : List (List ℕ) → Option Options
options_of fields = do
  any_order ← flag_of (said (codes "RandomOrder") (codes "0") fields)
  opens ← time_of (said (codes "NoStart") (codes "00:00:00") fields)
  time ← time_of (said (codes "TaskTime") (codes "00:00:00") fields)
  if any_order then None else Some (record { opens = opens; time = time })
