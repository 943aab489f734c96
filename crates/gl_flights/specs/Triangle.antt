-- The right answer of the triangle of a file.
use Rattle.std.specs.Prelude.{◌≡◌, ℕ, ◌-◌, ◌⊎◌, List, length, Option, codes}
use Rattle.gl_desk.specs.Desk.{FilesByName}
use Rattle.gl_igc.specs.declared.fix.Fix.{Fix}
use Rattle.gl_igc.specs.declared.recording.Recording.{Recording}
use Rattle.gl_goal.specs.Goal.{Goal, HasNoLegal}
use Rattle.gl_goal.specs.Triangle.{triangle_goal}
use Rattle.gl_flights.specs.Best.{IsBestText}
use Rattle.gl_flights.specs.OfFile.{of_file_promise}
use Rattle.gl_answer.specs.Promise.{Promise}
use Rattle.gl_answer.specs.Texts.{no_flight}

-- the goal over all fixes of a recording, which have to close to at most 1,000 m
abbrev pub whole_triangle_goal : List Fix → Goal
whole_triangle_goal fixes = triangle_goal fixes 0 (length fixes - 1) 100_000

-- the text has the greatest triangle, or says that no triangle is legal
abbrev pub IsTriangleOf : Goal → List ℕ → Type 0
IsTriangleOf goal said =
    IsBestText goal (codes "TRIANGLE") said ⊎ (HasNoLegal goal × (said ≡ no_flight))

-- The text has the greatest triangle of the recording and legal fixes that reach it, or says that
-- it has none.
abbrev pub IsTriangleText : Recording → List ℕ → Type 0
IsTriangleText recording said =
    IsTriangleOf (whole_triangle_goal recording.fixes) said

-- the promise of `triangle`
abbrev pub triangle_promise : Option FilesByName → List ℕ → Promise
triangle_promise = of_file_promise IsTriangleText
