-- The task that a text in the SeeYou form says, or the first reason why it says none.
use Rattle.std.specs.Prelude.{◌≡◌, ◌≢◌, ℕ, ◌+◌, ◌-◌, nat_lt, is_none, if◌then◌else◌}
use Rattle.std.specs.Prelude.{List, [], ◌∷◌, ◌++◌, length, map, slice_get, slice_range, unwrap_or, Option, None, Some, option_map, Result, Ok, Err}
use Rattle.std.specs.List.{find}
use Rattle.gl_sphere.specs.PlaceText.{place_of as pair_of}
use Rattle.gl_cup.specs.Choice.{choice, task_rows, waypoint_rows}
use Rattle.gl_cup.specs.Detail.{first_fault, options_among, or_else, passed_among, zone_at}
use Rattle.gl_cup.specs.Row.{is_broken, is_wide, rows_of}
use Rattle.gl_cup.specs.Waypoint.{Place, columns_of, is_damaged, place_of}
use Rattle.gl_cup.specs.declared.error.CupError.{CupError}
use Rattle.gl_cup.specs.declared.error.CupError.TheVariants as cup
use Rattle.gl_cup.specs.declared.pair.PassedKey.{PassedKey}
use Rattle.gl_cup.specs.declared.point.CupPoint.{CupPoint}
use Rattle.gl_cup.specs.declared.point.CupTask.{CupTask}
use Rattle.gl_cup.specs.declared.row.Row.{Row}
use Rattle.gl_cup.specs.declared.waypoint.Columns.{Columns}
use Rattle.gl_cup.specs.declared.zone.ObsZone.{ObsZone}
use Rattle.gl_cup.specs.declared.zone.Options.{Options}

-- a point: its name, its latitude and longitude, its zone, and the line of the zone
abbrev pub Point : Type 0
Point = List ℕ × Place × ObsZone × ℕ

abbrev pub point_said : CupPoint → Point
point_said p = (p.name, pair_of p.place, p.zone, p.line)

-- a task: its description, its points, its times, and the keys that are passed over
abbrev pub Task : Type 0
Task = List ℕ × List Point × Options × List PassedKey

abbrev pub task_said : CupTask → Task
task_said t =
    (t.title, map point_said t.points, record { opens = t.opens; time = t.time }, t.passed)

-- what follows a test, and what follows a point
abbrev pub unless : {A : Type 0} → Option CupError → Result A CupError → Result A CupError
unless None made = made
unless (Some why) made = Err why

abbrev pub with_point : {A : Type 0} → Result Point CupError → (Point → Result A CupError)
    → Result A CupError
with_point (Ok point) more = more point
with_point (Err why) more = Err why

-- the names of a task's points: all fields but the description and the take-off, and the landing
abbrev pub names_in : List (List ℕ) → List (List ℕ)
names_in fields = slice_range fields 2 (length fields - 1)

-- a fault of a point's name: a waypoint that has it has no place, or none has it, or two differ
unfoldable pub name_fault : Columns → List Row → ℕ → ℕ → List ℕ → Option CupError
name_fault columns points line n name =
    or_else (option_map (λ (row : Row). cup.Waypoint row.line) (find (is_damaged columns name) points))
    (if is_none (place_of columns name points) then Some (cup.Unknown line n) else None)

-- what is wrong with the first of names, which count from a number on, with which something is
abbrev pub first_unplaced : Columns → List Row → ℕ → ℕ → List (List ℕ) → Option CupError
first_unplaced columns points line n [] = None
first_unplaced columns points line n (name ∷ names) =
    or_else (name_fault columns points line n name)
    (first_unplaced columns points line (n + 1) names)

-- the point with a number and a name, where it has a place and a row below the task says its zone
abbrev pub point_by : ℕ → ℕ → List ℕ → Option Place → Option (ObsZone × ℕ)
    → Result Point CupError
point_by line n name None says = Err (cup.Unknown line n)
point_by line n name (Some place) None = Err (cup.NoZone line n)
point_by line n name (Some place) (Some says) = Ok (name, place, says.0, says.1)

abbrev pub point_at : Columns → List Row → List Row → ℕ → ℕ → List ℕ → Result Point CupError
point_at columns points details line n name =
    point_by line n name (place_of columns name points) (zone_at details n)

-- some points, and behind them those of names, or the first of these that is none
abbrev pub points_behind : Columns → List Row → List Row → ℕ → List Point → List (List ℕ)
    → Result (List Point) CupError
points_behind columns points details line made [] = Ok made
points_behind columns points details line made (name ∷ names) =
    with_point (point_at columns points details line (length made) name)
    (λ point. points_behind columns points details line (made ++ point ∷ []) names)

-- the points of a task on a line, unless something is wrong with a name, else with a row below it,
-- else a point has no zone
unfoldable pub points_of : Columns → List Row → ℕ → List Row → List (List ℕ)
    → Result (List Point) CupError
points_of columns points line details names =
    unless (first_unplaced columns points line 0 names)
    (unless (first_fault (length names) [] details)
    (points_behind columns points details line [] names))

-- the task with some points
abbrev pub with_points : Row → List Row → Result (List Point) CupError → Result Task CupError
with_points row details (Err why) = Err why
with_points row details (Ok points) =
    Ok (unwrap_or (slice_get row.fields 0) [], points, options_among details, passed_among details)

-- the task of a row and those below it, among rows of waypoints, unless one of these rows is broken,
-- or it has less than six fields, or its points are wrong
unfoldable pub task_by : Columns → List Row → Row → List Row → Result Task CupError
task_by columns points row details =
    unless (option_map (λ (broken : Row). cup.Row broken.line) (find is_broken (row ∷ details)))
    (if nat_lt (length row.fields) 6 then Err (cup.TooFewPoints row.line)
    else with_points row details (points_of columns points row.line details (names_in row.fields)))

-- the task that is chosen
abbrev pub task_chosen : Columns → List Row → Result (Row × List Row) CupError
    → Result Task CupError
task_chosen columns points (Err why) = Err why
task_chosen columns points (Ok task) = task_by columns points task.0 task.1

-- the task below a header on a line: the rows before the mark are waypoints, those below it tasks
abbrev pub task_below : Option ℕ → List Row → ℕ → Option Columns → Result Task CupError
task_below which rest line None = Err (cup.Header line)
task_below which rest line (Some columns) =
    task_chosen columns (waypoint_rows rest) (choice which (task_rows rest))

-- the task of rows, of which the first has to be whole and to name the columns
abbrev pub task_in : Option ℕ → List Row → Result Task CupError
task_in which [] = Err cup.Empty
task_in which (header ∷ rest) =
    if header.is_whole then task_below which rest header.line (columns_of header.fields)
    else Err (cup.Row header.line)

-- The task of a text, by its number or as the only one, or why there is none: the first of these
-- that holds. It is UTF-16; it has no row; the first row is broken; it doesn't name the columns; no
-- task can be chosen; or what is first wrong with the chosen one.
unfoldable pub task_of : Option ℕ → List ℕ → Result Task CupError
task_of which text = if is_wide text then Err cup.Wide else task_in which (rows_of text)

-- a task is the one of the text
abbrev pub IsTaskOf : List ℕ → Option ℕ → CupTask → Type 0
IsTaskOf text which task = task_of which text ≡ Ok (task_said task)

-- a cause is the one of the text, unless memory was wanting, which tells nothing of the text
abbrev pub IsRefusalOf : List ℕ → Option ℕ → CupError → Type 0
IsRefusalOf text which why = why ≢ cup.Memory → task_of which text ≡ Err why
