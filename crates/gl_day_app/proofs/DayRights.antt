-- What the promises of the commands of a day are like, and a run of one.
use Rattle.std.proofs.Common.{List, Option, None, Some, refl}
use Rattle.std.specs.Prelude.{IsNone}
use Rattle.gl_desk.specs.Desk.{FilesByName}
use Rattle.gl_day.specs.Flight.{StewardRules}
use Rattle.gl_words.specs.DayWords.{Check, DayCommand, Score}
use Rattle.gl_words.proofs.DayCommandNames.{HasUnbrokenDay}
use Rattle.gl_answer.proofs.Promises.{IsLawful}
use Rattle.gl_answer.proofs.Runs.{HasRunLaws, lawful_runs, no_command_runs}
use Rattle.gl_day_claims.proofs.CheckLaws.{check_lawful}
use Rattle.gl_day_claims.proofs.ScoreLaws.{score_lawful}
use Rattle.gl_day_app.specs.DayRun.{day_promise_of}

-- each command of a day keeps the laws of a promise
day_lawful : (folder : Option FilesByName) (stewards : List StewardRules) (command : DayCommand) → HasUnbrokenDay (Some command) → IsLawful (day_promise_of folder stewards (Some command))
day_lawful folder stewards (Score names) named = score_lawful folder stewards names named
day_lawful folder stewards (Check names) named = check_lawful folder names named

-- so a run by its words does, and one by words of no such form
pub day_runs : (folder : Option FilesByName) (stewards : List StewardRules) (command : Option DayCommand) → HasUnbrokenDay command
    → HasRunLaws (day_promise_of folder stewards command) (IsNone command)
day_runs folder stewards None named = no_command_runs (IsNone {T = DayCommand} None) refl
day_runs folder stewards (Some command) named =
    lawful_runs (day_promise_of folder stewards (Some command)) (IsNone (Some command)) (day_lawful folder stewards command named) (λ none. cc)
