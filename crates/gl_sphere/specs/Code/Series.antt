-- How far the series of a sine was added up.
use Rattle.std.specs.Prelude.{◌≡◌, ℕ, ℤ, ◌+◌, ◌*◌, ◌/◌, pos, unsigned_abs}
use Rattle.gl_sphere.specs.declared.series.Series.{Series}
use Rattle.gl_sphere.specs.Sine.{half_turn_sine, quarter_sine, radians, sine_sum, sine_term}
use Rattle.gl_sphere.specs.Sphere.{unit}

-- of the sine of an angle, whatever its sign: the first term of its series and so many pairs of
-- terms
-- after it
pub record IsSummed (n : ℤ) (pairs : ℕ) (series : Series) : Type 0 where
  pub angle : ℕ
  pub same : quarter_sine angle ≡ half_turn_sine (unsigned_abs n)
  pub square_is : series.square ≡ radians angle * radians angle / unit
  pub term_is : series.term ≡ sine_term (radians angle) (2 * pairs)
  pub sum_is : pos series.sum ≡ sine_sum (radians angle) (2 * pairs + 1)
