-- What a run owes, by the promise of its words.
use Rattle.std.specs.Prelude.{◌≡◌, ◌≢◌, ◌↔◌, IfNone}
use Rattle.gl_desk.specs.Answers.{CountsFaults}
use Rattle.gl_desk.specs.Desk.{Told}
use Rattle.gl_answer.specs.declared.status.Status.{Status}
use Rattle.gl_answer.specs.declared.status.Status.TheVariants.{Done, Refused, Words}
use Rattle.gl_answer.specs.Given.{Ends, SaidLine}
use Rattle.gl_answer.specs.Promise.{Promise}
use Rattle.gl_answer.specs.Statuses.{stop_at}

-- What a run owes that ends with a status, by the promise of its words, by whether they are of no
-- form, and by the rules of its stewards before and after it.
pub record IsRunOf {Rules : Type 0} (promise : Promise) (NoForm : Type 0) (stewards left : Rules)
    (status : Status) (before after : Told) : Type 0 where
  -- The answer is right for what the tests saw, on every desk, and that is what the folder has
  -- where the desk tells it. A run that was stopped gave at most a first part of such an answer.
  pub right : Ends promise status before after
  -- In a folder whose files pass every test, a run that isn't stopped has a result.
  pub complete : promise.Passes → (status ≢ Words) × (status ≢ Refused)
  -- The proof that `score`, `near` or `badge` wrote is accepted in the folder where it was made.
  pub accepted : promise.ChecksOwn → IfNone (stop_at status) (status ≡ Done)
  -- Unless stopped, a run ends with `Words` exactly where the words are of no form, and says one
  -- line where it has no result.
  pub words : IfNone (stop_at status) ((status ≡ Words) ↔ NoForm)
  pub line : IfNone (stop_at status) (status ≢ Done → SaidLine before.said after.said)
  -- `Desk` only where a call of the desk failed; at every other status none did.
  pub faults : CountsFaults (stop_at status) before.faults after.faults
  -- the stewards keep their rules
  pub kept : left ≡ stewards
