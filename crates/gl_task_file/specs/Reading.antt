-- The task of a text, and why a text gives none.
use Rattle.std.specs.Prelude.{◌≡◌, ℕ, List, None, Some, IsUtf8, ⊤}
use Rattle.toml.specs.Data.{Members}
use Rattle.toml.specs.Parse.{parse_document}
use Rattle.gl_task_file.specs.declared.error.TaskError.{TaskError}
use Rattle.gl_task_file.specs.declared.error.TaskError.TheVariants.{Toml, Missing, Value, Twice, TooMany, Memory}
use Rattle.gl_task.specs.declared.task.Task.{Task}
use Rattle.gl_task_file.specs.Keys.{first_failed}
use Rattle.gl_task_file.specs.Meaning.{IsTask}
use Rattle.gl_task_file.specs.Tests.{tests}

-- a text is TOML in UTF-8, with this table
pub record IsDocument (text : List ℕ) (file : Members) : Type 0 where
  pub utf8 : IsUtf8 text
  pub reads : parse_document text ≡ Some file

-- a text whose file passes all tests, and a task that says what its keys say
pub record IsReadFrom (text : List ℕ) (task : Task) : Type 0 where
  pub file : Members
  pub document : IsDocument text file
  pub passes : first_failed (tests file) ≡ None
  pub says : IsTask file task

-- a text whose file fails a test, the first of which tells what is wrong
pub record FailsFirst (text : List ℕ) (wrong : TaskError) : Type 0 where
  pub file : Members
  pub document : IsDocument text file
  pub first : first_failed (tests file) ≡ Some wrong

-- why a text gives no task; want of memory tells nothing of the text
abbrev pub IsRefusalOf : List ℕ → TaskError → Type 0
IsRefusalOf text Toml = (file : Members) → IsDocument text file → ⊥
IsRefusalOf text (Missing k) = FailsFirst text (Missing k)
IsRefusalOf text (Value k) = FailsFirst text (Value k)
IsRefusalOf text (Twice k) = FailsFirst text (Twice k)
IsRefusalOf text (TooMany k) = FailsFirst text (TooMany k)
IsRefusalOf text Memory = ⊤
