-- The fixes that the distance of a flight goes by.
use Rattle.std.specs.Prelude.{◌≡◌, ℕ, ◌+◌, if◌then◌else◌, List, [], ◌∷◌, length, slice_get, Some, MatchOption}
use Rattle.std.specs.List.{flat_map}
use Rattle.gl_day.specs.Totals.{is_distance}
use Rattle.gl_igc.specs.declared.fix.Fix.{Fix}
use Rattle.gl_judge.specs.Choices.{numbers_before}
use Rattle.gl_proof.specs.Claim.{Statement}
use Rattle.gl_why.specs.Facts.{AreFound}
use Rattle.gl_why.specs.Spots.{spot_at}
use Rattle.gl_why.specs.declared.fact.Fact as code
use Rattle.gl_why.specs.declared.fact.Fact.TheVariants as fact

-- the fixes of a statement that is for the distance of the task
abbrev pub credited_in : Statement → List ℕ
credited_in statement = if is_distance statement.kind then statement.fixes else []

-- the fixes of the statement for the distance of the task, if there is one
abbrev pub credited_by : List Statement → List ℕ
credited_by statements = flat_map credited_in statements

-- what is told of the fix at a place of a choice
abbrev pub IsCreditTold : List Fix → List ℕ → ℕ → List code.Fact → Type 0
IsCreditTold fixes choice k facts =
    (number : ℕ) × (slice_get choice k ≡ Some number)
    × MatchOption (spot_at fixes number) (facts ≡ [])
    (λ at. facts ≡ fact.Credited (record { place = k + 1; at = at }) ∷ [])

-- of each of them
abbrev pub AreCreditsTold : List Fix → List ℕ → List code.Fact → Type 0
AreCreditsTold fixes choice facts =
    AreFound (IsCreditTold fixes choice) (numbers_before 0 (length choice)) facts
