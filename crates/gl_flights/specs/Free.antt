-- The right answer of the free distance of a file.
use Rattle.std.specs.Prelude.{ℕ, ◌-◌, List, length, Option, codes, pos}
use Rattle.gl_desk.specs.Desk.{FilesByName}
use Rattle.gl_igc.specs.declared.fix.Fix.{Fix}
use Rattle.gl_igc.specs.declared.recording.Recording.{Recording}
use Rattle.gl_goal.specs.Goal.{Goal}
use Rattle.gl_goal.specs.Free.{free_goal}
use Rattle.gl_flights.specs.Best.{IsBestText}
use Rattle.gl_flights.specs.OfFile.{of_file_promise}
use Rattle.gl_answer.specs.Promise.{Promise}

-- the goal over all fixes of a recording, with a loss of at most 1,000 m
abbrev pub whole_free_goal : List Fix → Goal
whole_free_goal fixes = free_goal fixes 0 (length fixes - 1) (pos 1_000)

-- The text has the greatest free distance of the recording, and legal fixes that reach it.
abbrev pub IsFreeText : Recording → List ℕ → Type 0
IsFreeText recording said =
    IsBestText (whole_free_goal recording.fixes) (codes "FREE") said

-- the promise of `free`
abbrev pub free_promise : Option FilesByName → List ℕ → Promise
free_promise = of_file_promise IsFreeText
