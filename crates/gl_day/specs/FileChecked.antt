-- What is known of the claims of a proof's file that are checked as its lines come.
use Rattle.std.specs.Prelude.{◌≡◌, ◌≤◌, ℕ, ◌+◌, ◌-◌, ◌^◌, min, List, [], ◌∷◌, ◌++◌, length, slice_get, Option, None, Some, Err, MatchOption}
use Rattle.std.specs.List.{AllZip}
use Rattle.gl_answer.specs.Halts.{AreBytes}
use Rattle.gl_answer.specs.declared.halt.Halt.{Halt}
use Rattle.gl_check.specs.File.{AreLeft, HasSaid}
use Rattle.gl_check.specs.declared.claims_file.ClaimsFile.{ClaimsFile}
use Rattle.gl_desk.specs.Desk.{FilesByName}
use Rattle.gl_proof.specs.Claim.{Statement}
use Rattle.gl_proof.specs.Text.{IsTextOf}
use Rattle.gl_proof.specs.declared.version.Version.{Version}
use Rattle.gl_day.specs.Checked.{IsChecked, IsFaultAt, IsNotProved}
use Rattle.gl_day.specs.Expected.{Expected, Proves}
use Rattle.gl_day.specs.declared.fault.Checked.{Checked}
use Rattle.gl_day.specs.declared.fault.Fault.{Fault}
use Rattle.gl_day.specs.declared.fault.NotProved.{NotProved}

-- the claims of the file so far prove these, one each
pub record HasProved (folder : Option FilesByName) (file : List ℕ) (most : ℕ)
    (expected : List Expected) (claims : ClaimsFile) : Type 0 where
  pub said : List Statement
  pub each : AllZip Proves expected said
  pub has : HasSaid folder file most said claims

-- A fact of all claims of the file: it holds of those so far with whatever is left of them, unless
-- there are more than can be counted.
pub record HasFound (folder : Option FilesByName) (file : List ℕ) (most : ℕ)
    (Is : List Statement → Type 0) (claims : ClaimsFile) : Type 0 where
  pub said : List Statement
  pub has : HasSaid folder file most said claims
  pub is : (others : List Statement) → AreLeft claims others
      → length (said ++ others) + 1 ≤ 2 ^ 64 - 1 → Is (said ++ others)

-- behind some claims of the file this is wrong, whatever is left
pub record HasFault (folder : Option FilesByName) (file : List ℕ) (most : ℕ)
    (before : List Statement) (expected : Expected) (claims : ClaimsFile) (fault : Fault)
    : Type 0 where
  pub said : List Statement
  pub has : HasSaid folder file most said claims
  pub is : (others : List Statement) → AreLeft claims others
      → (rest : List Statement) × (said ++ others ≡ before ++ rest)
      × IsFaultAt expected (slice_get rest 0) fault

-- behind some claims of the file one more came, which proves what is expected, or this is wrong
abbrev pub IsFoundAhead : Option FilesByName → List ℕ → ℕ → List Statement → Expected → ClaimsFile
    → Option Fault → Type 0
IsFoundAhead folder file most before expected claims None =
    (statement : Statement) × Proves expected statement
    × HasSaid folder file most (before ++ statement ∷ []) claims
IsFoundAhead folder file most before expected claims (Some fault) =
    HasFault folder file most before expected claims fault

-- so many claims are expected, or more than can be counted
abbrev pub IsCount : ℕ → List Expected → Type 0
IsCount count expected = count ≡ min (length expected) (2 ^ 64 - 1)

-- What is said of the next claims of a file of which so many were found right, where these are
-- expected: they are proved too, or this is the first that is wrong.
abbrev pub GoesOnAhead : Option FilesByName → ℕ → List Expected → ClaimsFile → ClaimsFile
    → Option NotProved → Type 0
GoesOnAhead folder count more claims after wrong =
    (file : List ℕ) (most : ℕ) (before : List Expected) → IsCount count before
    → HasProved folder file most before claims
    → MatchOption wrong (HasProved folder file most (before ++ more) after)
    (λ first. HasFound folder file most (λ statements.
    IsNotProved (before ++ more) statements first) after)

-- what ends a command where no more of the file was read
abbrev pub HaltsAhead : Option FilesByName → ClaimsFile → Halt → Type 0
HaltsAhead folder claims halt =
    (file : List ℕ) (most : ℕ) (before : List Expected) → HasProved folder file most before claims
    → AreBytes folder file most (Err halt)

-- what is said of a file of whose claims so many are proved, where no other is expected
abbrev pub EndsAhead : ℕ → ClaimsFile → Checked → Type 0
EndsAhead count claims said =
    (folder : Option FilesByName) (file : List ℕ) (most : ℕ) (before : List Expected)
    → IsCount count before → HasProved folder file most before claims
    → HasFound folder file most (λ statements. IsChecked before statements said) claims

-- a text is a proof, and this is said of its claims
abbrev pub SaysOfText : (List Statement → Checked → Type 0) → List ℕ → Checked → Type 0
SaysOfText Says text said =
    (version : Version) × (statements : List Statement) × IsTextOf version text statements
    × Says statements said
