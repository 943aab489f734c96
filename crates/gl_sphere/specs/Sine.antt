use Rattle.std.specs.Prelude.{ℕ, zero, suc, ◌+◌, ◌-◌, ◌*◌, ◌/◌, ◌%◌, ◌==◌, nat_le, if◌then◌else◌, ℤ, pos, negsuc, neg_ℤ, ◌+ℤ◌, ◌-ℤ◌, unsigned_abs}
use Rattle.std.specs.Int.{int_min}
use Rattle.gl_sphere.specs.Sphere.{unit, pi, quarter_turn, half_turn}

-- an angle in 1/100,000 minute as radians, where unit is one
unfoldable pub radians : ℕ → ℕ
radians n = n * pi / half_turn

-- term k of the sine's series at x, which is x^(2k+1) over the factorial of 2k+1, each step rounded
-- down
unfoldable pub sine_term : ℕ → ℕ → ℕ
sine_term x zero = x
sine_term x (suc k) = sine_term x k * (x * x / unit) / unit / ((2 * k + 2) * (2 * k + 3))

-- the sum of the first terms with alternating signs, the first of them positive
unfoldable pub sine_sum : ℕ → ℕ → ℤ
sine_sum x zero = pos 0
sine_sum x (suc k) =
    if k % 2 == 0 then sine_sum x k +ℤ pos (sine_term x k) else sine_sum x k -ℤ pos (sine_term x k)

-- the sine from 0 to 90 degrees: eleven terms, and at most one
unfoldable pub quarter_sine : ℕ → ℤ
quarter_sine n = int_min (pos unit) (sine_sum (radians n) 11)

-- the sine from 0 to 180 degrees
unfoldable pub half_turn_sine : ℕ → ℤ
half_turn_sine n = if nat_le n quarter_turn then quarter_sine n else quarter_sine (half_turn - n)

-- the sine from -180 to 180 degrees
unfoldable pub written_sine : ℤ → ℤ
written_sine (pos n) = half_turn_sine n
written_sine (negsuc n) = neg_ℤ (half_turn_sine (n + 1))

-- the cosine is the sine of 90 degrees less the angle without its sign
unfoldable pub written_cosine : ℤ → ℤ
written_cosine n = written_sine (pos quarter_turn -ℤ pos (unsigned_abs n))
