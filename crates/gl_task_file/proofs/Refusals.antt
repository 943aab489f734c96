-- A table that a test refuses tells why its text gives no task.
use Rattle.std.proofs.Common.{◌≡◌, subst, ℕ, List, Some}
use Rattle.std.specs.Prelude.{◌≢◌, Result, Ok, Err, IfErr}
use Rattle.toml.specs.Data.{Members}
use Rattle.gl_task_file.specs.declared.error.TaskError.{TaskError}
use Rattle.gl_task_file.specs.declared.error.TaskError.TheVariants.{Toml, Missing, Value, Twice, TooMany, Memory}
use Rattle.gl_task.specs.declared.task.Task.{Task}
use Rattle.gl_task_file.specs.Keys.{first_failed}
use Rattle.gl_task_file.specs.Reading.{IsDocument, IsRefusalOf}
use Rattle.gl_task_file.specs.Tests.{tests}
use Rattle.gl_task_file.proofs.CleanLemmas.{IsKeyed, keyed_first, keyed_tests}

abbrev pub IsOther : TaskError → Type 0
IsOther Memory = ⊥
IsOther Toml = Unit {0}
IsOther (Missing k) = Unit {0}
IsOther (Value k) = Unit {0}
IsOther (Twice k) = Unit {0}
IsOther (TooMany k) = Unit {0}

pub refusal_is : (text : List ℕ) (file : Members) → IsDocument text file → (r : Result Task TaskError) → IfErr r (λ e. e ≢ Memory → first_failed (tests file) ≡ Some e) → IfErr r (IsRefusalOf text)
refusal_is text file document (Ok task) refused = tt
refusal_is text file document (Err Memory) refused = tt
refusal_is text file document (Err Toml) refused =
    absurd (subst IsKeyed (refused (λ e. subst IsOther e tt)) (keyed_first (tests file) (keyed_tests file)))
refusal_is text file document (Err (Missing k)) refused = record { file = file; document = document; first = refused (λ e. subst IsOther e tt) }
refusal_is text file document (Err (Value k)) refused = record { file = file; document = document; first = refused (λ e. subst IsOther e tt) }
refusal_is text file document (Err (Twice k)) refused = record { file = file; document = document; first = refused (λ e. subst IsOther e tt) }
refusal_is text file document (Err (TooMany k)) refused = record { file = file; document = document; first = refused (λ e. subst IsOther e tt) }
