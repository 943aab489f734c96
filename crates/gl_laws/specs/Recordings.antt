-- What the fixes of a recording are like, line by line. A good line is an undamaged B line with
-- validity A.
use Rattle.std.specs.Prelude.{◌≡◌, ◌+◌, ◌%◌, ◌<◌, ◌≤◌, ◌↔◌, ◌⊎◌, ℕ, List, [], ◌∷◌, ◌++◌, length, All, AllPairs, None, Some}
use Rattle.gl_igc.specs.FixLine.{Observation, observation_of}
use Rattle.gl_igc.specs.UsedFixes.{UsedFix, extension_below, own_second, used_fixes}

-- A fix stands at its line of a text: its number is that of the line, and it is what the line says
-- by the first undamaged I line above it.
pub record StandsIn (lines : List (List ℕ)) (fix : UsedFix) : Type 0 where
  pub above : List (List ℕ)
  pub line : List ℕ
  pub below : List (List ℕ)
  pub whole : lines ≡ above ++ line ∷ below
  pub number : fix.line ≡ length above + 1
  pub says : observation_of (extension_below above) line ≡ Some fix.seen

abbrev pub FixesStandAtTheirLines : Type 0
FixesStandAtTheirLines = (lines : List (List ℕ)) → All (StandsIn lines) (used_fixes lines)

-- of two fixes the later one has the later line and the later second
abbrev pub comes_before : UsedFix → UsedFix → Type 0
comes_before fix later = (fix.line < later.line) × (fix.own < later.own)

abbrev pub FixesComeInOrder : Type 0
FixesComeInOrder = (lines : List (List ℕ)) → AllPairs comes_before (used_fixes lines)

-- the second of a fix is the time of day of its line, but for whole days
abbrev pub FixesKeepTheTimeOfDay : Type 0
FixesKeepTheTimeOfDay =
    (lines : List (List ℕ)) → All (λ fix. fix.own % 86_400 ≡ fix.seen.time) (used_fixes lines)

-- a line below others gives no fix
abbrev pub GivesNoFix : List (List ℕ) → List ℕ → Type 0
GivesNoFix above line = used_fixes (above ++ line ∷ []) ≡ used_fixes above

-- The second of a good line isn't above that of the last fix above the line, or is 300,000 or more.
pub record IsOutOfTime (above : List (List ℕ)) (seen : Observation) : Type 0 where
  pub earlier : List UsedFix
  pub last : UsedFix
  pub fixes : used_fixes above ≡ earlier ++ last ∷ []
  pub out : (own_second (Some last.own) seen.time ≤ last.own)
      ⊎ (300_000 ≤ own_second (Some last.own) seen.time)

-- a good line gives no fix exactly where it is out of time
abbrev pub LateLinesGiveNoFix : Type 0
LateLinesGiveNoFix =
    (above : List (List ℕ)) (line : List ℕ) (seen : Observation)
    → observation_of (extension_below above) line ≡ Some seen
    → GivesNoFix above line ↔ IsOutOfTime above seen

-- A line gives one fix behind those above it, by what it says.
pub record GivesOneFix (above : List (List ℕ)) (line : List ℕ) (seen : Observation)
    : Type 0 where
  pub fix : UsedFix
  pub fixes : used_fixes (above ++ line ∷ []) ≡ used_fixes above ++ fix ∷ []
  pub number : fix.line ≡ length above + 1
  pub says : fix.seen ≡ seen

-- any other good line gives one fix
abbrev pub GoodLinesGiveOneFix : Type 0
GoodLinesGiveOneFix =
    (above : List (List ℕ)) (line : List ℕ) (seen : Observation)
    → observation_of (extension_below above) line ≡ Some seen
    → (IsOutOfTime above seen → ⊥) → GivesOneFix above line seen

-- a line that isn't good gives none
abbrev pub OtherLinesGiveNoFix : Type 0
OtherLinesGiveNoFix =
    (above : List (List ℕ)) (line : List ℕ)
    → observation_of (extension_below above) line ≡ None → GivesNoFix above line
