-- What a steward owes after some of the fixes that it is fed.
use Rattle.std.specs.Prelude.{◌≡◌, ℕ, ◌+◌, ◌<◌, List, length, take}
use Rattle.gl_day.specs.Flight.{StewardRules, owed_for}
use Rattle.gl_igc.specs.declared.fix.Fix.{Fix}
use Rattle.gl_task.specs.declared.task.LocalRules.{LocalRules}
use Rattle.gl_why.specs.Crossings.{IsSpot}
use Rattle.gl_why.specs.declared.spot.Spot.{Spot}

-- after the fix at a place it owes so many points
pub record OwesAt (steward : StewardRules) (rules : LocalRules) (fixes : List Fix) (points k : ℕ)
    : Type 0 where
  pub inside : k < length fixes
  pub owes : owed_for rules (take (k + 1) fixes) steward ≡ points

-- this is the fix of a number
pub record IsFixAt (fixes : List Fix) (number : ℕ) (at : Spot) : Type 0 where
  pub number_is : at.number ≡ number
  pub spot : IsSpot fixes at
