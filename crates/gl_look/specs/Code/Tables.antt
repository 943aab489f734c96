-- What the code makes of a text: a table or a task, or why it is none.
use Rattle.std.specs.Prelude.{◌≢◌, ℕ, List, Result, Ok, Err}
use Rattle.toml.specs.Data.{Members}
use Rattle.toml.specs.View.{table_view}
use Rattle.toml.specs.declared.de.error.Error.{Error}
use Rattle.std.specs.BTreeMap.{BTreeMap}
use Rattle.std.specs.Prelude.{String}
use Rattle.std.specs.declared.alloc.Global.{Global}
use Rattle.toml.specs.declared.value.Value.{Value}
use Rattle.gl_task.specs.declared.task.Task.{Task}
use Rattle.gl_task_file.specs.Reading.{IsDocument, IsReadFrom, IsRefusalOf}
use Rattle.gl_task_file.specs.declared.error.TaskError.{TaskError}
use Rattle.gl_task_file.specs.declared.error.TaskError.TheVariants.{Memory}

abbrev pub IsTableOrNone : List ℕ → Result (BTreeMap (String Global) Value) Error → Type 0
IsTableOrNone text (Ok table) = IsDocument text (table_view table)
IsTableOrNone text (Err error) = (file : Members) → IsDocument text file → ⊥

-- a task, or why there is none; want of memory apart
abbrev pub IsTaskOrNone : List ℕ → Result Task TaskError → Type 0
IsTaskOrNone text (Ok task) = IsReadFrom text task
IsTaskOrNone text (Err error) = (error ≢ Memory) × IsRefusalOf text error
