-- The used fixes and the events of a recording. Each line is judged by the lines above it, which
-- are listed upwards here: the nearest line comes first, and so does the latest fix.
use Rattle.std.specs.Prelude.{ℕ, ◌+◌, ◌*◌, ◌/◌, ◌%◌, nat_lt, ◌==◌, ◌&&◌, codes, nat_eq, if◌then◌else◌, List, [], ◌∷◌, ◌++◌, length, drop, reverse, slice_index, option_map, unwrap_or, Option, None, Some, Bool, true}
use Rattle.std.specs.List.{starts_with}
use Rattle.std.specs.Option.{option_to_list}
use Rattle.std.specs.Str.{byte}
use Rattle.gl_igc.specs.Columns.{day, half_day, time_of_day}
use Rattle.gl_igc.specs.Extension.{Extension, extension_of_line, no_extension}
use Rattle.gl_igc.specs.FirstOf.{first_of}
use Rattle.gl_igc.specs.FixLine.{Observation, observation_of}

-- a used fix: the number of its line, where the text's first line is 1; its own second; and what
-- its line says
pub record UsedFix : Type 0 where
  pub line : ℕ
  pub own : ℕ
  pub seen : Observation

-- own seconds are below this
abbrev pub seconds_limit : ℕ
seconds_limit = 300_000

-- the own second of a time of day, where that of the last used fix is given: on the same day, or on
-- the next one where the time is more than half a day earlier
unfoldable pub own_second : Option ℕ → ℕ → ℕ
own_second None time = time
own_second (Some last) time =
    day * (last / day) + time + (if nat_lt (time + half_day) (last % day) then day else 0)

-- an own second may follow that of the last used fix
unfoldable pub may_follow : Option ℕ → ℕ → Bool
may_follow None own = true
may_follow (Some last) own = nat_lt last own && nat_lt own seconds_limit

-- the own second of the last used fix
abbrev pub last_own : List UsedFix → Option ℕ
last_own [] = None
last_own (fix ∷ fixes) = Some fix.own

-- the used fixes with those of one line more
unfoldable pub with_line : ℕ → Option Observation → List UsedFix → List UsedFix
with_line number None used = used
with_line number (Some seen) used =
    let own = own_second (last_own used) seen.time in
    if may_follow (last_own used) own
    then record { line = number; own = own; seen = seen } ∷ used else used

-- the fields that hold below some lines: those of their first undamaged I line
unfoldable pub extension_below : List (List ℕ) → Extension
extension_below lines = unwrap_or (first_of extension_of_line lines) no_extension

-- the used fixes of a line and those above it
unfoldable pub used_upwards : List (List ℕ) → List UsedFix
used_upwards [] = []
used_upwards (line ∷ above) =
    let extension = extension_below (reverse above) in
    with_line (length above + 1) (observation_of extension line) (used_upwards above)

-- the used fixes of a text's lines
unfoldable pub used_fixes : List (List ℕ) → List UsedFix
used_fixes lines = reverse (used_upwards (reverse lines))

-- the time of day of a PEV event; none of any other line
unfoldable pub event_time : List ℕ → Option ℕ
event_time line =
    if (slice_index line 0 == byte "E") && starts_with nat_eq (drop 7 line) (codes "PEV")
    then time_of_day line else None

-- the own seconds of the events of a line and those above it, each by the last used fix above it
unfoldable pub events_upwards : List (List ℕ) → List ℕ
events_upwards [] = []
events_upwards (line ∷ above) =
    let last = last_own (used_upwards above) in
    option_to_list (option_map (own_second last) (event_time line)) ++ events_upwards above

-- the own seconds of the events of a text's lines
unfoldable pub event_seconds : List (List ℕ) → List ℕ
event_seconds lines = reverse (events_upwards (reverse lines))
