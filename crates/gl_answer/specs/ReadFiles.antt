-- What the code makes of a command's files, by their tests.
use Rattle.std.specs.Prelude.{◌≡◌, ◌⊎◌, ℕ, Contains, List, Option, Result, Err, Ok, IsSomeAnd, ⊤}
use Rattle.gl_desk.specs.Desk.{FilesByName, IsSeenIn}
use Rattle.gl_answer.specs.declared.halt.Halt.{Halt}
use Rattle.gl_answer.specs.declared.halt.Halt.TheVariants.{Refused, Stopped}
use Rattle.gl_answer.specs.declared.refusal.Cause.TheVariants.{NotListed}
use Rattle.gl_answer.specs.declared.refusal.Cause.TheVariants as cause
use Rattle.gl_answer.specs.Refusals.{file_refusal}
use Rattle.gl_answer.specs.FileTests.{HasTested, IsNoText, IsText, Kind, text_tests}

-- What the code made of a text: it is of the kind, and this was read; or it isn't, and its file is
-- refused.
abbrev pub HasRead : {X : Type 0} → Kind → List ℕ → List ℕ → (List ℕ → X → Type 0) → Result X Halt
    → Type 0
HasRead kind file text IsOf (Ok x) = IsText kind text × IsOf text x
HasRead kind file text IsOf (Err (Refused refusal)) =
    (refusal.file ≡ file) × IsNoText kind text refusal.cause
HasRead kind file text IsOf (Err (Stopped stop)) = ⊤

-- the same of the text of a file that is listed, which has at most so many bytes
abbrev pub HasReadFile : {X : Type 0} → Kind → ℕ → Option FilesByName → List ℕ
    → (List ℕ → X → Type 0) → Result X Halt → Type 0
HasReadFile kind most folder file IsOf result =
    HasTested (λ seen. IsSeenIn folder file seen) (λ seen. text_tests kind most file seen)
    (λ seen x. IsSomeAnd seen (λ text. IsOf text x)) result

-- what the code found among the names of a folder: the file is there, or it is refused
abbrev pub IsNeeded : List (List ℕ) → List ℕ → Result (Unit {0}) Halt → Type 0
IsNeeded names file (Ok found) = Contains names file
IsNeeded names file (Err (Refused refusal)) =
    ¬ Contains names file × (refusal ≡ file_refusal file NotListed)
IsNeeded names file (Err (Stopped stop)) = ⊤

-- the same of two files, one after the other: both are there, or the first that isn't is refused
abbrev pub AreNeeded : List (List ℕ) → List ℕ → List ℕ → Result (Unit {0}) Halt → Type 0
AreNeeded names first second (Ok found) = Contains names first × Contains names second
AreNeeded names first second (Err halt) =
    IsNeeded names first (Err halt) ⊎ (Contains names first × IsNeeded names second (Err halt))

-- it isn't there, or it is refused
abbrev pub IsUnused : List (List ℕ) → List ℕ → Result (Unit {0}) Halt → Type 0
IsUnused names file (Ok found) = ¬ Contains names file
IsUnused names file (Err (Refused refusal)) =
    Contains names file × (refusal ≡ file_refusal file cause.Listed)
IsUnused names file (Err (Stopped stop)) = ⊤
