-- The promises of the commands, and how a run ends.
use Rattle.std.specs.Prelude.{ℕ, IsNone, List, Option, None, Some}
use Rattle.gl_desk.specs.Desk.{FilesByName, Told}
use Rattle.gl_day.specs.Flight.{StewardRules}
use Rattle.gl_words.specs.DayWords.{DayCommand, day_command_of}
use Rattle.gl_words.specs.Words.{Badge, BadgeCheck, Command, Demo, Free, Near, NearCheck, Point, Replay, Series, Triangle, command_of}
use Rattle.gl_answer.specs.declared.status.Status.{Status}
use Rattle.gl_answer.specs.Promise.{Promise, no_command}
use Rattle.gl_answer.specs.Run.{IsRunOf}
use Rattle.gl_app.specs.Badge.{badge_check_promise, badge_promise}
use Rattle.gl_app.specs.Demo.{demo_promise}
use Rattle.gl_flights.specs.Free.{free_promise}
use Rattle.gl_flights.specs.Near.{near_check_promise, near_promise, point_promise}
use Rattle.gl_flights.specs.Replay.{replay_promise}
use Rattle.gl_flights.specs.Series.{series_promise}
use Rattle.gl_flights.specs.Triangle.{triangle_promise}
use Rattle.gl_day_app.specs.DayRun.{day_promise_of}

-- The promise of a command that isn't one of a day, or of words of no form. A further command has
-- its line here.
abbrev pub promise_of : Option FilesByName → List StewardRules → Option Command → Promise
promise_of folder stewards None = no_command
promise_of folder stewards (Some (Free file)) = free_promise folder file
promise_of folder stewards (Some (Triangle file)) = triangle_promise folder file
promise_of folder stewards (Some (Replay words)) = replay_promise folder words
promise_of folder stewards (Some (Near words)) = near_promise folder words
promise_of folder stewards (Some (NearCheck words)) = near_check_promise folder words
promise_of folder stewards (Some (Point words)) = point_promise folder words
promise_of folder stewards (Some (Badge words)) = badge_promise folder words
promise_of folder stewards (Some (BadgeCheck words)) = badge_check_promise folder words
promise_of folder stewards (Some (Series words)) = series_promise folder words
promise_of folder stewards (Some (Demo number)) = demo_promise folder stewards number

-- the promise of words that may be a command of a day or another one
abbrev pub either_promise : Option FilesByName → List StewardRules → Option DayCommand
    → Option Command → Promise
either_promise folder stewards None command = promise_of folder stewards command
either_promise folder stewards (Some day) command = day_promise_of folder stewards (Some day)

-- What a run owes, by its words and by the rules of its stewards before and after it.
abbrev pub IsRun : List (List ℕ) → List StewardRules → List StewardRules → Status → Told → Told
    → Type 0
IsRun given stewards left status before after =
    IsRunOf (either_promise before.folder stewards (day_command_of given) (command_of given))
    (IsNone (day_command_of given) × IsNone (command_of given)) stewards left status before after
