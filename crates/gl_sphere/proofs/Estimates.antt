-- How near the estimate of a quotient by an inverse comes.
use Rattle.std.proofs.Common.{◌≡◌, ℕ, ◌+◌, ◌-◌, ◌*◌, ◌/◌, ◌%◌, ◌<◌, ◌≤◌, Bool, true, false, leb, sym, arith}
use Rattle.std.proofs.lemmas.Bool.{leb-true, leb-false}
use mir.Val.{bool_byte}
use Rattle.std.proofs.lemmas.Nat.{div-add-mod', mod_below}
use Rattle.std.proofs.Math.Nat.{mul-le-mul, div-eq_of_lt-le}

-- what an estimate leaves: not less than nothing, and less than two divisors
pub record IsNear (n by guess : ℕ) : Type 0 where
  pub below : guess * by ≤ n
  pub above : n < guess * by + 2 * by

near_parts : (n by inverse guess head low : ℕ) → n ≡ head * 9007199254740992 + low → low < 9007199254740992 → head < 1152921504606846976 → 9700000000000000 ≤ by
    → inverse * by ≤ 166153499473114484112975882535043072 → 166153499473114484112975882535043072 < inverse * by + by → guess * 18446744073709551616 ≤ head * inverse
    → head * inverse < guess * 18446744073709551616 + 18446744073709551616 → IsNear n by guess
near_parts n by inverse guess head low parts low_in head_in least under over under_guess over_guess =
    let a : guess * 18446744073709551616 * by ≤ head * inverse * by = mul-le-mul under_guess (omega arith) in
    let b : head * (inverse * by) ≤ head * 166153499473114484112975882535043072 = mul-le-mul (omega arith) under in
    let c : (head * inverse + 1) * by ≤ (guess * 18446744073709551616 + 18446744073709551616) * by = mul-le-mul (omega arith) (omega arith) in
    let d : head * (166153499473114484112975882535043072 + 1) ≤ head * (inverse * by + by) = mul-le-mul (omega arith) (omega arith) in
    let e : head * by ≤ 1152921504606846976 * by = mul-le-mul (omega arith) (omega arith) in
    record {
      below = omega (arith, a, b);
      above = omega (arith, c, d, e);
    }

pub estimate_near : (n by inverse : ℕ) → 9700000000000000 ≤ by → inverse * by ≤ 166153499473114484112975882535043072 → 166153499473114484112975882535043072 < inverse * by + by
    → n < 10384593717069655257060992658440192 → IsNear n by (n / 9007199254740992 * inverse / 18446744073709551616)
estimate_near n by inverse least under over small =
    let head = n / 9007199254740992 in
    let parts = div-add-mod' n 9007199254740992 in
    let low = mod_below n 9007199254740992 (omega arith) in
    let products = div-add-mod' (head * inverse) 18446744073709551616 in
    let rest = mod_below (head * inverse) 18446744073709551616 (omega arith) in
    near_parts n by inverse (head * inverse / 18446744073709551616) head (n % 9007199254740992) (omega (arith, parts)) low (omega (arith, parts, small)) least under over (omega (arith, products))
    (omega (arith, products, rest))

-- a quotient is the estimate, or one more where a divisor is left
pub made_exact : (n by guess : ℕ) (is : Bool) → leb by (n - guess * by) ≡ is → IsNear n by guess → guess + bool_byte is ≡ n / by
made_exact n by guess true is near =
    let left = leb-true by (n - guess * by) is in
    sym (div-eq_of_lt-le {k = guess + 1} by (omega (arith, near.below, near.above, left)) (omega (arith, near.below, near.above, left)))
made_exact n by guess false is near =
    let left = leb-false by (n - guess * by) is in
    sym (div-eq_of_lt-le {k = guess + 0} by (omega (arith, near.below, left)) (omega (arith, near.below, left)))
