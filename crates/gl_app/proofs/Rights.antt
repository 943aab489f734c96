-- What the promises of commands are like, and a run by words that may be those of a day.
use Rattle.std.proofs.Common.{◌≡◌, List, Option, None, Some, Result, refl}
use Rattle.std.specs.Prelude.{◌↔◌, IfErr, IfNone, IfOk, IsNone, IsSome}
use Rattle.gl_desk.specs.Desk.{FilesByName, Told}
use Rattle.gl_desk.specs.declared.error.DeskError.{DeskError}
use Rattle.gl_day.specs.Flight.{StewardRules}
use Rattle.gl_words.specs.DayWords.{DayCommand}
use Rattle.gl_words.specs.Words.{Badge, BadgeCheck, Command, Demo, Free, Near, NearCheck, Point, Replay, Series, Triangle}
use Rattle.gl_words.proofs.CommandNames.{HasUnbrokenNames}
use Rattle.gl_answer.specs.declared.answer.Answer as code
use Rattle.gl_answer.specs.declared.status.Status.{Status}
use Rattle.gl_answer.specs.declared.status.Status.TheVariants.{Words}
use Rattle.gl_answer.specs.Given.{HasAnswered, IsStopped}
use Rattle.gl_answer.specs.Run.{IsRunOf}
use Rattle.gl_answer.specs.Statuses.{stop_at}
use Rattle.gl_answer.proofs.Promises.{IsLawful}
use Rattle.gl_answer.proofs.Runs.{HasRunLaws, lawful_runs, no_command_runs}
use Rattle.gl_app.proofs.BadgeLaws.{badge_check_lawful, badge_lawful}
use Rattle.gl_app.proofs.DemoLaws.{demo_lawful}
use Rattle.gl_flights.specs.Free.{IsFreeText}
use Rattle.gl_flights.specs.Near.{IsPointText}
use Rattle.gl_flights.specs.Triangle.{IsTriangleText}
use Rattle.gl_flights.proofs.NearLaws.{near_check_lawful, near_lawful}
use Rattle.gl_flights.proofs.OfFileLaws.{of_file_lawful}
use Rattle.gl_flights.proofs.ReplayLaws.{replay_lawful}
use Rattle.gl_flights.proofs.SeriesLaws.{series_lawful}
use Rattle.gl_day_app.specs.DayRun.{day_promise_of}
use Rattle.gl_app.specs.Run.{either_promise, promise_of}

-- Each command keeps the laws. A further command has its line here.
lawful_of : (folder : Option FilesByName) (stewards : List StewardRules) (command : Command) → HasUnbrokenNames (Some command) → IsLawful (promise_of folder stewards (Some command))
lawful_of folder stewards (Free file) named = of_file_lawful IsFreeText folder file named
lawful_of folder stewards (Triangle file) named = of_file_lawful IsTriangleText folder file named
lawful_of folder stewards (Replay words) named = replay_lawful folder words named
lawful_of folder stewards (Near words) named = near_lawful folder words named
lawful_of folder stewards (NearCheck words) named = near_check_lawful folder words named
lawful_of folder stewards (Point words) named = of_file_lawful (IsPointText words.place) folder words.flight named
lawful_of folder stewards (Badge words) named = badge_lawful folder words named
lawful_of folder stewards (BadgeCheck words) named = badge_check_lawful folder words named
lawful_of folder stewards (Series words) named = series_lawful folder words named
lawful_of folder stewards (Demo number) named = demo_lawful folder stewards number

-- so a run by words that aren't those of a day does, whether they are of a form or not
other_runs : (folder : Option FilesByName) (stewards : List StewardRules) (command : Option Command) → HasUnbrokenNames command
    → HasRunLaws (promise_of folder stewards command) (IsNone {T = DayCommand} None × IsNone command)
other_runs folder stewards None named = no_command_runs (IsNone {T = DayCommand} None × IsNone {T = Command} None) (refl, refl)
other_runs folder stewards (Some command) named =
    lawful_runs (promise_of folder stewards (Some command)) (IsNone {T = DayCommand} None × IsNone (Some command)) (lawful_of folder stewards command named) (λ none. let no = none.1 in cc)

pub no_day_runs : (folder : Option FilesByName) (stewards : List StewardRules) (day : Option DayCommand) (command : Option Command) → IsNone day → HasUnbrokenNames command
    → HasRunLaws (either_promise folder stewards day command) (IsNone day × IsNone command)
no_day_runs folder stewards None command none named = other_runs folder stewards command named
no_day_runs folder stewards (Some day) command none named = absurd (cc)

-- words of a day are of a form
no_form : (P : Type 0) (stop : Option DeskError) (day : DayCommand) (other : Type 0) → IfNone stop (P ↔ IsNone (Some day)) → IfNone stop (P ↔ (IsNone (Some day) × other))
no_form P None day other words = (λ is. let no = words.0 is in absurd (cc), λ none. words.1 none.0)
no_form P (Some stop) day other words = tt

-- a run of a command of a day is one of the words
pub day_is_run : (day : Option DayCommand) (command : Option Command) (stewards left : List StewardRules) (status : Status) (before after : Told) → IsSome day
    → IsRunOf (day_promise_of before.folder stewards day) (IsNone day) stewards left status before after
    → IsRunOf (either_promise before.folder stewards day command) (IsNone day × IsNone command) stewards left status before after
day_is_run None command stewards left status before after some run = absurd (cc)
day_is_run (Some day) command stewards left status before after some run = record {
  right = run.right;
  complete = run.complete;
  accepted = run.accepted;
  words = no_form (status ≡ Words) (stop_at status) day (IsNone command) run.words;
  line = run.line;
  faults = run.faults;
  kept = run.kept;
}

-- what words that aren't those of a day are answered, or what stops that
pub other_answered : (day : Option DayCommand) (command : Option Command) (stewards : List StewardRules) (answered : Result code.Answer DeskError) (before after : Told) → IsNone day
    → IfOk answered (HasAnswered (promise_of before.folder stewards command) before after) → IfOk answered (HasAnswered (either_promise before.folder stewards day command) before after)
other_answered None command stewards answered before after none right = right
other_answered (Some day) command stewards answered before after none right = absurd (cc)

pub other_stopped : (day : Option DayCommand) (command : Option Command) (stewards : List StewardRules) (answered : Result code.Answer DeskError) (before after : Told) → IsNone day
    → IfErr answered (IsStopped (promise_of before.folder stewards command) before after) → IfErr answered (IsStopped (either_promise before.folder stewards day command) before after)
other_stopped None command stewards answered before after none stopped = stopped
other_stopped (Some day) command stewards answered before after none stopped = absurd (cc)
