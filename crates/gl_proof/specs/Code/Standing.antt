-- Words that stand at the end of a line's room while the line is written from its end to its front.
use Rattle.std.specs.Prelude.{◌≡◌, ℕ, ◌+◌, ◌*◌, ◌≤◌, List, [], ◌∷◌, ◌++◌, length, get_or, drop, map, All}
use Rattle.gl_box.specs.declared.span.Span.{Span}
use Rattle.gl_box.specs.Cell.{ends}
use Rattle.gl_proof.specs.Words.{IsSpan, spaced, span_word}

-- From this place on stand the words of the spans from axis k on, and LF. Before it there is room
-- for the words of the axes before, and for those with which a box begins.
pub record StandAt (bytes : List ℕ) (spans : List Span) (k start : ℕ) : Type 0 where
  pub each : All IsSpan (map ends (drop k spans))
  pub room : 22 * k + 5 ≤ start
  pub within : start ≤ length bytes
  pub words : drop start bytes ≡ spaced (map span_word (map ends (drop k spans))) ++ 10 ∷ []

-- for each axis from the first one on, and for the end behind the last one
abbrev pub StandFrom : List ℕ → List ℕ → List Span → ℕ → Type 0
StandFrom bytes starts spans first =
    (k : ℕ) → first ≤ k → k ≤ length spans → StandAt bytes spans k (get_or starts k 0)

-- later axes begin later
abbrev pub AreInOrder : List ℕ → ℕ → ℕ → Type 0
AreInOrder starts first last =
    (j k : ℕ) → first ≤ j → j ≤ k → k ≤ last → get_or starts j 0 ≤ get_or starts k 0
