-- The size of a number within a range, and the sine of half a turn by that of a quarter.
use Rattle.std.proofs.Common.{◌≡◌, ℕ, ◌≤◌, ℤ, pos, negsuc, ◌<◌, ◌-◌, leb, arith}
use Rattle.std.specs.Prelude.{unsigned_abs}
use Rattle.std.proofs.lemmas.Int.{ints}
use Rattle.std.proofs.lemmas.Bool.{cond-true, cond-false, le-leb, lt-leb}
use Rattle.gl_sphere.specs.Sine.{quarter_sine, half_turn_sine}
use Rattle.gl_sphere.specs.Range.{IsWithin}

-- within m, the number without its sign is at most m
pub abs_at_most : (z : ℤ) (m : ℕ) → IsWithin m z → unsigned_abs z ≤ m
abs_at_most (pos n) m h = omega (arith, ints, h.1)
abs_at_most (negsuc n) m h = omega (arith, ints, h.0)

pub within_from_abs : (z : ℤ) (m : ℕ) → unsigned_abs z ≤ m → IsWithin m z
within_from_abs (pos n) m h = (omega (arith, ints), omega (arith, ints))
within_from_abs (negsuc n) m h = (omega (arith, ints), omega (arith, ints))

pub half_turn_sine-first : (n : ℕ) → n ≤ 540000000 → half_turn_sine n ≡ quarter_sine n
unfolding half_turn_sine
half_turn_sine-first n h = cond-true (leb n 540000000) _ _ (le-leb n 540000000 h)

pub half_turn_sine-second : (n : ℕ) → 540000000 < n
    → half_turn_sine n ≡ quarter_sine (1080000000 - n)
unfolding half_turn_sine
half_turn_sine-second n h = cond-false (leb n 540000000) _ _ (lt-leb n 540000000 h)
