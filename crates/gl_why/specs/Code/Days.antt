-- What the code makes of the text of a task file: a task, or why it is none; want of memory apart.
use Rattle.std.specs.Prelude.{◌≢◌, ℕ, List, Result, Ok, Err}
use Rattle.gl_task.specs.declared.task.Task.{Task}
use Rattle.gl_task_file.specs.Reading.{IsReadFrom, IsRefusalOf}
use Rattle.gl_task_file.specs.declared.error.TaskError.{TaskError}
use Rattle.gl_task_file.specs.declared.error.TaskError.TheVariants.{Memory}

abbrev pub IsTaskKnown : List ℕ → Result Task TaskError → Type 0
IsTaskKnown text (Ok task) = IsReadFrom text task
IsTaskKnown text (Err error) = (error ≢ Memory) × IsRefusalOf text error
