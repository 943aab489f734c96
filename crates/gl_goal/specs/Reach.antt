-- How far a flight that closes can reach.
use Rattle.std.specs.Prelude.{◌≡◌, ℕ, ◌≤◌, ◌<◌, List, length, Some, slice_get}
use Rattle.gl_igc.specs.declared.fix.Fix.{Fix}
use Rattle.gl_sphere.specs.Distance.{distance}

-- A flight over some fixes closes from the place `a` or an earlier one to the place `c` or a later
-- one: the fixes at two such places are at most `closing` centimetres apart.
pub record Closes (fixes : List Fix) (closing a c : ℕ) : Type 0 where
  pub from : ℕ
  pub to : ℕ
  pub start : Fix
  pub finish : Fix
  pub start_is : slice_get fixes from ≡ Some start
  pub finish_is : slice_get fixes to ≡ Some finish
  pub from_in : from ≤ a
  pub to_in : c ≤ to
  pub near : distance start.at finish.at ≤ closing

-- the greatest place to which a flight closes from a place or an earlier one
pub record IsReach (fixes : List Fix) (closing place reach : ℕ) : Type 0 where
  pub within : reach < length fixes
  pub closes : Closes fixes closing place reach
  pub greatest : (c : ℕ) → Closes fixes closing place c → c ≤ reach
