-- The rows of waypoints, those of tasks, and those of the chosen task.
use Rattle.std.specs.Prelude.{ℕ, ◌+◌, ◌-◌, ◌==◌, ◌||◌, not, nat_eq, if◌then◌else◌, codes, Bool, false, List, [], ◌∷◌, take, drop, Option, None, Some, position, Result, Ok, Err}
use Rattle.std.specs.List.{starts_with}
use Rattle.gl_text.specs.Forms.{is_text}
use Rattle.gl_cup.specs.declared.error.CupError as code
use Rattle.gl_cup.specs.declared.error.CupError.TheVariants as cup
use Rattle.gl_cup.specs.declared.row.Row.{Row}

-- the first field is a text, or begins with it
abbrev pub is_headed : List (List ℕ) → List ℕ → Bool
is_headed [] text = false
is_headed (field ∷ fields) text = is_text field text

abbrev pub begins_with : List (List ℕ) → List ℕ → Bool
begins_with [] text = false
begins_with (field ∷ fields) text = starts_with nat_eq field text

-- the row before the tasks
abbrev pub is_mark : Row → Bool
is_mark row = is_headed row.fields (codes "-----Related Tasks-----")

-- a row that says more of the task above it; any other row below the mark is a task
abbrev pub is_detail : Row → Bool
is_detail row =
    is_headed row.fields (codes "Options") || begins_with row.fields (codes "ObsZone=")
    || begins_with row.fields (codes "STARTS=") || begins_with row.fields (codes "Point=")
    || begins_with row.fields (codes "Version=")

abbrev pub is_task : Row → Bool
is_task row = not (is_detail row)

-- the rows before a place and behind it; where there is none, all and none
abbrev pub rows_before : List Row → Option ℕ → List Row
rows_before rows None = rows
rows_before rows (Some at) = take at rows

abbrev pub rows_behind : List Row → Option ℕ → List Row
rows_behind rows None = []
rows_behind rows (Some at) = drop (at + 1) rows

-- the rows of waypoints and those of tasks
abbrev pub waypoint_rows : List Row → List Row
waypoint_rows rows = rows_before rows (position is_mark rows)

abbrev pub task_rows : List Row → List Row
task_rows rows = rows_behind rows (position is_mark rows)

-- the rows from the task on that has so many tasks before it
abbrev pub from_task : ℕ → List Row → List Row
from_task n [] = []
from_task n (row ∷ rows) =
    if is_detail row then from_task n rows
    else (if n == 0 then row ∷ rows else from_task (n - 1) rows)

-- a task's row and those below it up to the next task
abbrev pub with_details : List Row → Option (Row × List Row)
with_details [] = None
with_details (row ∷ rows) = Some (row, rows_before rows (position is_task rows))

abbrev pub task_at : ℕ → List Row → Option (Row × List Row)
task_at n rows = with_details (from_task n rows)

-- the task of a number, from 1 on, or the only one
abbrev pub only : Option (Row × List Row) → Option (Row × List Row)
    → Result (Row × List Row) code.CupError
only None other = Err cup.NoTask
only (Some task) None = Ok task
only (Some task) (Some other) = Err cup.Several

abbrev pub numbered : Option (Row × List Row) → Result (Row × List Row) code.CupError
numbered None = Err cup.NoSuchTask
numbered (Some task) = Ok task

abbrev pub choice : Option ℕ → List Row → Result (Row × List Row) code.CupError
choice None rows = only (task_at 0 rows) (task_at 1 rows)
choice (Some n) rows = if n == 0 then Err cup.NoSuchTask else numbered (task_at (n - 1) rows)
