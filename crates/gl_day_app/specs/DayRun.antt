-- The promises of the commands of a day, and how a run of one ends.
use Rattle.std.specs.Prelude.{ℕ, IsNone, List, Option, None, Some}
use Rattle.gl_desk.specs.Desk.{FilesByName, Told}
use Rattle.gl_day.specs.Flight.{StewardRules}
use Rattle.gl_words.specs.DayWords.{Check, DayCommand, Score, day_command_of}
use Rattle.gl_answer.specs.declared.status.Status.{Status}
use Rattle.gl_answer.specs.Promise.{Promise, no_command}
use Rattle.gl_answer.specs.Run.{IsRunOf}
use Rattle.gl_day_claims.specs.Check.{check_promise}
use Rattle.gl_day_claims.specs.Score.{score_promise}

-- the promise of a command of a day, or of words of no such form
abbrev pub day_promise_of : Option FilesByName → List StewardRules → Option DayCommand → Promise
day_promise_of folder stewards None = no_command
day_promise_of folder stewards (Some (Score names)) = score_promise folder stewards names
day_promise_of folder stewards (Some (Check names)) = check_promise folder names

-- What a run owes of a program that has the commands of a day alone, by its words and by the rules
-- of its stewards before and after it.
abbrev pub IsDayRun : List (List ℕ) → List StewardRules → List StewardRules → Status → Told → Told
    → Type 0
IsDayRun given stewards left status before after =
    IsRunOf (day_promise_of before.folder stewards (day_command_of given))
    (IsNone (day_command_of given)) stewards left status before after
