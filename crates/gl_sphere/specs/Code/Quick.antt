-- How near the quick sine comes to the written one.
use Rattle.std.specs.Prelude.{◌<◌, ◌≤◌, ℕ, ◌+◌, ◌*◌, ◌^◌, pos, ◌-ℤ◌}
use Rattle.gl_sphere.specs.Range.{IsWithin}
use Rattle.gl_sphere.specs.Sine.{quarter_sine}
use Rattle.gl_sphere.specs.Sphere.{unit}

-- the square s of an angle where `unit` is one, and its quick form, which counts in 2^44 over the
-- square of `unit`
pub record IsNearSquare (s square : ℕ) : Type 0 where
  pub most : square * 2 ^ 44 < (s + 1) * unit
  pub least : s * unit < (square + 1) * 2 ^ 44 + 4 * unit

-- a term of the written series, and the same term of the quick one
pub record IsNearTerm (t term : ℕ) : Type 0 where
  pub most : term ≤ t + 8
  pub least : t ≤ term + 8

-- how far a quick sine is at most from the written one, where `unit` is one
abbrev pub quick_error : ℕ
quick_error = 512

-- a quick sine of an angle from 0 to 90 degrees
abbrev pub IsQuickSine : ℕ → ℕ → Type 0
IsQuickSine n sine = IsWithin quick_error (pos sine -ℤ quarter_sine n)
