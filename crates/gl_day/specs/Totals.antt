-- The totals that the claims of a flight state.
use Rattle.std.specs.Prelude.{◌≡◌, ℕ, Bool, true, false, if◌then◌else◌, List, slice_get, Option, None, Some}
use Rattle.std.specs.List.{filter_map}
use Rattle.gl_proof.specs.declared.claim.ClaimKind.{ClaimKind}
use Rattle.gl_proof.specs.declared.claim.ClaimKind.TheVariants.{Area, Out, Free, Triangle}
use Rattle.gl_proof.specs.Claim.{Statement}
use Rattle.gl_sheet.specs.declared.row.Listed.{Listed}
use Rattle.gl_sheet.specs.declared.row.Listed.TheVariants.{Unasked, Empty, Total}
use Rattle.gl_day.specs.declared.totals.Totals.{Totals}

-- a claim for the distance of the task: of a finisher in a task of areas, or of an outlanding
abbrev pub is_distance : ClaimKind → Bool
is_distance Area = true
is_distance Out = true
is_distance Free = false
is_distance Triangle = false

abbrev pub is_free : ClaimKind → Bool
is_free Area = false
is_free Out = false
is_free Free = true
is_free Triangle = false

abbrev pub is_triangle : ClaimKind → Bool
is_triangle Area = false
is_triangle Out = false
is_triangle Free = false
is_triangle Triangle = true

-- the total of a statement that is of such a kind
abbrev pub total_if : (ClaimKind → Bool) → Statement → Option ℕ
total_if test statement = if test statement.kind then statement.total else None

-- the total of the claim of a kind: the first that a claim of that kind has
abbrev pub claimed_total : (ClaimKind → Bool) → List Statement → Option ℕ
claimed_total test statements = slice_get (filter_map (total_if test) statements) 0

-- the totals are those of the claims
pub record AreTotals (statements : List Statement) (totals : Totals) : Type 0 where
  pub distance : totals.distance ≡ claimed_total is_distance statements
  pub free : totals.free ≡ claimed_total is_free statements
  pub triangle : totals.triangle ≡ claimed_total is_triangle statements

-- what a list column of the sheet has: nothing where the list isn't asked for, else the total, if
-- there is one
abbrev pub column : Bool → Option ℕ → Listed
column false total = Unasked
column true None = Empty
column true (Some total) = Total total
