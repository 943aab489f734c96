-- How a program ends, by the words that the system gives, and the numbers that it ends with.
use Rattle.std.specs.Prelude.{◌≡◌, ◌≢◌, ℕ, IfErr, List, [], ◌∷◌, MatchResult, Result, Ok, Err, Vec, drop, map}
use Rattle.std.specs.IoError.{error_kind}
use Rattle.std.specs.String.{string_bytes}
use Rattle.std.specs.Vec.Iter.{into_iter_items}
use Rattle.std.specs.declared.alloc.Global.{Global}
use Rattle.std.specs.declared.string.String.{String}
use Rattle.std.specs.declared.vec.IntoIter.{IntoIter}
use Rattle.std.specs.declared.io.Error.{Error}
use Rattle.std.specs.declared.io.ErrorKind.TheVariants.{OutOfMemory}
use Rattle.gl_desk.specs.Desk.{Told}
use Rattle.gl_day.specs.Flight.{StewardRules, steward_rules}
use Rattle.gl_task.specs.Ceiling.{ceiling_fed, ceiling_opening, ceiling_owed}
use Rattle.gl_task.specs.EngineNoise.{noise_fed, noise_opening, noise_owed}
use Rattle.gl_answer.specs.declared.status.Status.{Status}
use Rattle.gl_answer.specs.Statuses.{number_of_status}
use Rattle.gl_day_app.specs.declared.program.Ending.{Ending}
use Rattle.gl_day_app.specs.declared.program.Ending.TheVariants.{Ran, NoMemory, NoWords}

-- what the system gives: words, of which the first is the program's own name, or why it gives none
abbrev pub Given : Type 0
Given = Result (IntoIter (String Global) Global) Error

-- the words after the program's own name
abbrev pub given_words : IntoIter (String Global) Global → List (List ℕ)
given_words words = map string_bytes (drop 1 (into_iter_items words))

-- the rules of the program's stewards: that of the ceiling, and that of the engine
abbrev pub program_stewards : List StewardRules
program_stewards =
    steward_rules ceiling_opening ceiling_fed ceiling_owed
    ∷ steward_rules noise_opening noise_fed noise_owed ∷ []

-- what a run owes, by its words, the rules of its stewards before and after it, its status, and
-- what is told before and after it
abbrev pub Runs : Type 1
Runs = List (List ℕ) → List StewardRules → List StewardRules → Status → Told → Told → Type 0

-- the status of a run as a number; 5 where there was no memory to begin with, and 7 where the
-- system gave none
abbrev pub number_of_ending : Ending → ℕ
number_of_ending (Ran status) = number_of_status status
number_of_ending NoMemory = 5
number_of_ending NoWords = 7

-- How a program ends by its words, and what is told before and after that: as the run of them, with
-- the program's stewards. Where there is no memory for these, nothing is read, written or said.
abbrev pub IsEndingOf : Runs → List (List ℕ) → Ending → Told → Told → Type 0
IsEndingOf IsRun words (Ran status) before after =
    IsRun words program_stewards program_stewards status before after
IsEndingOf IsRun words NoMemory before after = after ≡ before
IsEndingOf IsRun words NoWords before after = ⊥

-- the program ended with the number of an ending by its words
abbrev pub EndsWith : Runs → List (List ℕ) → ℕ → Told → Told → Type 0
EndsWith IsRun words number before after = (ending : Ending)
    × IsEndingOf IsRun words ending before after × (number ≡ number_of_ending ending)

-- the words as names, or how the program ends without them
abbrev pub AreNamesGiven : Given → Result (Vec (List ℕ) Global) Ending → Type 0
AreNamesGiven given (Ok names) =
    MatchResult given (λ words. names.items ≡ given_words words) (λ error. ⊥)
AreNamesGiven given (Err (Ran status)) = ⊥
AreNamesGiven given (Err NoMemory) = IfErr given (λ error. error_kind error ≡ OutOfMemory)
AreNamesGiven given (Err NoWords) =
    MatchResult given (λ words. ⊥) (λ error. error_kind error ≢ OutOfMemory)
