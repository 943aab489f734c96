-- What is said of the claims of a proof, where others, or the same, are expected.
use Rattle.std.specs.Prelude.{◌≡◌, ℕ, ◌+◌, ◌<◌, ◌⊎◌, List, ◌∷◌, ◌++◌, length, slice_get, Option, None, Some}
use Rattle.std.specs.List.{AllZip}
use Rattle.gl_check.specs.declared.verdict.Verdict.{Verdict}
use Rattle.gl_check.specs.declared.verdict.Verdict.TheVariants as verdict
use Rattle.gl_check.specs.Verdict.{IsVerdict}
use Rattle.gl_proof.specs.declared.claim.ClaimKind.{ClaimKind}
use Rattle.gl_proof.specs.Claim.{Statement}
use Rattle.gl_day.specs.declared.fault.Checked.{Checked}
use Rattle.gl_day.specs.declared.fault.Checked.TheVariants.{Accepted, Refused}
use Rattle.gl_day.specs.declared.fault.Fault.{Fault}
use Rattle.gl_day.specs.declared.fault.Fault.TheVariants.{Missing, Name, Fixes, Total, Extra, Place, Cell, Open, Surplus}
use Rattle.gl_day.specs.declared.fault.NotProved.{NotProved}
use Rattle.gl_day.specs.Expected.{Expected, Proves}

-- a statement has the number and the kind of the claim that is expected
abbrev pub IsNamed : List ℕ → ClaimKind → Statement → Type 0
IsNamed number kind statement = (statement.number ≡ number) × (statement.kind ≡ kind)

-- it has them, and the checker says this of it
abbrev pub IsSaid : Expected → Statement → Verdict → Type 0
IsSaid expected statement said =
    IsNamed expected.number expected.kind statement
    × IsVerdict expected.rule statement.total statement.fixes statement.boxes said

-- what is wrong with a statement, where a claim is expected: its name, or else what the checker
-- says
abbrev pub IsFault : Expected → Statement → Fault → Type 0
IsFault expected statement Missing = ⊥
IsFault expected statement Name = IsNamed expected.number expected.kind statement → ⊥
IsFault expected statement Fixes = IsSaid expected statement verdict.Fixes
IsFault expected statement Total = IsSaid expected statement verdict.Total
IsFault expected statement (Extra number) = IsSaid expected statement (verdict.Extra number)
IsFault expected statement (Place number) = IsSaid expected statement (verdict.Place number)
IsFault expected statement (Cell number) = IsSaid expected statement (verdict.Cell number)
IsFault expected statement Open = IsSaid expected statement verdict.Open
IsFault expected statement Surplus = ⊥

-- what is wrong where a claim is expected and this statement stands, or none
abbrev pub IsFaultAt : Expected → Option Statement → Fault → Type 0
IsFaultAt expected None fault = fault ≡ Missing
IsFaultAt expected (Some statement) fault = IsFault expected statement fault

-- The statements begin with one for each claim that is expected, in their order, and each proves
-- its claim.
pub record AreProved (expected : List Expected) (statements : List Statement)
    : Type 0 where
  pub proved : List Statement
  pub rest : List Statement
  pub are : statements ≡ proved ++ rest
  pub each : AllZip Proves expected proved

-- The first claim that is wrong: those before it are proved, and this is wrong where it is
-- expected.
-- Claims count from 1.
pub record IsNotProved (expected : List Expected) (statements : List Statement)
    (wrong : NotProved) : Type 0 where
  pub before : List Expected
  pub next : Expected
  pub behind : List Expected
  pub are : expected ≡ before ++ next ∷ behind
  pub proved : AreProved before statements
  pub number : wrong.claim ≡ length before + 1
  pub fault : IsFaultAt next (slice_get statements (length before)) wrong.fault

-- All claims that are expected are proved, and another one follows.
pub record IsSurplus (expected : List Expected) (statements : List Statement)
    (wrong : NotProved) : Type 0 where
  pub proved : AreProved expected statements
  pub more : length expected < length statements
  pub number : wrong.claim ≡ length expected + 1
  pub fault : wrong.fault ≡ Surplus

-- What is said of a proof: it is accepted where it has exactly the claims that are expected, each
-- proved, and else the first claim that is wrong is named.
abbrev pub IsChecked : List Expected → List Statement → Checked → Type 0
IsChecked expected statements (Accepted claims) =
    AllZip Proves expected statements × (claims ≡ length expected)
IsChecked expected statements (Refused wrong) =
    IsNotProved expected statements wrong ⊎ IsSurplus expected statements wrong
