-- A text that reads isn't refused, and has one reading.
use Rattle.std.proofs.Common.{◌≡◌, ◌∙◌, refl, sym, subst, ℕ, List, Option, None, Some}
use Rattle.toml.specs.Data.{Members}
use Rattle.gl_airspace.specs.Airspace.{IsAirspace}
use Rattle.gl_airspace.specs.Parts.{Tells}
use Rattle.gl_airspace.specs.Volumes.{Refusal, readings_of, refusal_of}
use Rattle.gl_airspace.specs.declared.error.AirError.{AirError}
use Rattle.gl_airspace.specs.declared.error.AirError.TheVariants as air
use Rattle.gl_airspace.specs.declared.volume.Airspace.{Airspace}
use Rattle.gl_task_file.specs.Keys.{Test, first_failed}
use Rattle.gl_task_file.specs.Reading.{FailsFirst, IsDocument, IsReadFrom, IsRefusalOf}
use Rattle.gl_task_file.specs.Tests.{tests}
use Rattle.gl_task_file.specs.declared.error.TaskError.{TaskError}
use Rattle.gl_task_file.specs.declared.error.TaskError.TheVariants as task
use Rattle.gl_task.specs.declared.task.Task.{Task}

-- a text has one table
pub document_same : (text : List ℕ) (a b : Members) → IsDocument text a → IsDocument text b → a ≡ b
document_same text a b is_a is_b =
    let reads_a = is_a.reads in
    let reads_b = is_b.reads in
    cc

-- what passes all tests fails none
passed_or_failed : (file : Members) (wrong : TaskError) → first_failed (tests file) ≡ None → first_failed (tests file) ≡ Some wrong → ⊥
passed_or_failed file wrong passes fails = let no : ◌≡◌ {A = Test} None (Some wrong) = sym passes ∙ fails in cc

table_fails : (text : List ℕ) (file : Members) (wrong : TaskError) → IsDocument text file → first_failed (tests file) ≡ None → FailsFirst text wrong → ⊥
table_fails text file wrong document passes fails =
    passed_or_failed fails.file wrong
    (subst (λ (other : Members). first_failed (tests other) ≡ None) (document_same text file fails.file document fails.document) passes)
    fails.first

-- a text whose table passes all tests is refused for want of memory alone
pub table_refused : (text : List ℕ) (file : Members) (error : TaskError) → IsDocument text file → first_failed (tests file) ≡ None → IsRefusalOf text error → error ≡ task.Memory
table_refused text file task.Toml document passes refused = absurd (refused file document)
table_refused text file (task.Missing key) document passes refused = absurd (table_fails text file (task.Missing key) document passes refused)
table_refused text file (task.Value key) document passes refused = absurd (table_fails text file (task.Value key) document passes refused)
table_refused text file (task.Twice key) document passes refused = absurd (table_fails text file (task.Twice key) document passes refused)
table_refused text file (task.TooMany key) document passes refused = absurd (table_fails text file (task.TooMany key) document passes refused)
table_refused text file task.Memory document passes refused = refl

-- so is a text that gives a task
pub task_refused : (text : List ℕ) (read : Task) (error : TaskError) → IsReadFrom text read → IsRefusalOf text error → error ≡ task.Memory
task_refused text read error reads refused = table_refused text reads.file error reads.document reads.passes refused

-- a text that gives airspace is refused for want of memory alone
pub airspace_refused : (text : List ℕ) (read : Airspace) (error : AirError) → IsAirspace text read → Tells (refusal_of (readings_of text)) error → error ≡ air.Memory
airspace_refused text read (air.Line line) reads tells = absurd (subst (λ (r : Option Refusal). Tells r (air.Line line)) reads.reads tells)
airspace_refused text read (air.TooMany line) reads tells = absurd (subst (λ (r : Option Refusal). Tells r (air.TooMany line)) reads.reads tells)
airspace_refused text read air.Memory reads tells = refl
