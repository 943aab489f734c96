-- The two legs on one side of the middle fix: from an end to an inner fix, and on to the middle.
use Rattle.std.specs.Prelude.{◌≡◌, ℕ, suc, ◌+◌, ◌<◌, ◌≤◌, ◌^◌, List, length}
use Rattle.gl_igc.specs.declared.fix.Fix.{Fix}
use Rattle.gl_free.specs.declared.arm.Arm.{Arm}
use Rattle.gl_free.specs.declared.ends.Ends.{Ends}
use Rattle.gl_free.specs.Code.Ends.{Stands}
use Rattle.gl_free.specs.Code.Farthest.{IsEndOf}
use Rattle.gl_free.specs.Code.Places.{leg}

-- what the two legs are worth
abbrev pub arm_length : List Fix → ℕ → ℕ → ℕ → ℕ
arm_length fixes middle inner end = leg fixes end inner + leg fixes inner middle

-- the end is allowed, and the three places stand in time order
pub record IsArm (fixes : List Fix) (allowed_ends : Ends) (middle inner end : ℕ) : Type 0 where
  pub inner_in : inner < length fixes
  pub is_end : IsEndOf fixes allowed_ends inner end
  pub stands : Stands allowed_ends.side inner middle

-- what was found for a single middle place is an arm there, and its length is one less
pub record IsTop (fixes : List Fix) (allowed_ends : Ends) (middle : ℕ × ℕ)
    (arm : Arm) : Type 0 where
  pub inner_in : arm.inner < length fixes
  pub limited : arm.most ≤ 2 ^ 41
  pub reached : middle.0 ≡ middle.1 → 0 < arm.most
      → IsArm fixes allowed_ends middle.0 arm.inner arm.end
      × (arm.most ≡ suc (arm_length fixes middle.0 arm.inner arm.end))
