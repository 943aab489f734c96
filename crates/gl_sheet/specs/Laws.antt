-- What the sheet of a day is like, beside its rules.
use Rattle.std.specs.Prelude.{◌≡◌, ℕ, List}
use Rattle.gl_task.specs.declared.task.Task.{Task}
use Rattle.gl_sheet.specs.declared.row.Row.{Row}
use Rattle.gl_sheet.specs.Sheet.{IsSheet}

-- A task and its rows have one sheet: two texts that are both their sheet are one.
abbrev pub HasOneSheet : Type 0
HasOneSheet =
    (task : Task) (rows : List Row) (one other : List ℕ)
    → IsSheet task.entrants rows one → IsSheet task.entrants rows other → one ≡ other
