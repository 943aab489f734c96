-- How near the terms of the quick series of a sine come to the written ones.
use Rattle.std.proofs.Common.{◌≡◌, ℕ, ◌+◌, ◌*◌, ◌/◌, ◌^◌, ◌<◌, ◌≤◌, refl, sym, ap, subst, arith}
use Rattle.std.proofs.lemmas.Nat.{div-add-mod', mod_below}
use Rattle.std.proofs.Math.Nat.{mul-le-mul, lt_of_mul-lt-mul_right, div-div-eq-div-mul}
use Rattle.gl_sphere.specs.Code.Quick.{IsNearSquare, IsNearTerm}
use Rattle.gl_sphere.specs.Sphere.{unit}

-- one in the place after a word of 64 bits
abbrev word : ℕ
word = 2 ^ 64

-- what the factors of the terms are over
abbrev whole : ℕ
whole = 2 ^ 172

-- what takes a term to the next one, in 1/2^64, beside the square of the angle over a divisor
record IsNearFactor (s by factor : ℕ) : Type 0 where
  pub most : factor * by < word * (s + 1)
  pub least : word * s < (factor + 3) * by + 4 * word

factor_near : (s square inverse by factor : ℕ) → IsNearSquare s square → square < word
    → inverse < word → inverse * (by * unit) ≤ whole → whole < (inverse + 1) * (by * unit)
    → factor * word ≤ square * inverse → square * inverse < (factor + 1) * word
    → IsNearFactor s by factor
factor_near s square inverse by factor near square_in inverse_in under over most least =
    let a : factor * word * by ≤ square * inverse * by = mul-le-mul most (omega arith) in
    let b : square * (inverse * (by * unit)) ≤ square * whole = mul-le-mul (omega arith) under in
    let c : (square + 1) * whole ≤ (square + 1) * ((inverse + 1) * (by * unit)) =
    mul-le-mul (omega arith) (omega arith) in
    let d : square * inverse * by ≤ (factor + 1) * word * by =
    mul-le-mul (omega arith) (omega arith) in
    let e : (square + inverse + 1) * by ≤ 2 * word * by = mul-le-mul (omega arith) (omega arith) in
    record {
      most = omega (arith, a, b, near.most);
      least = omega (arith, c, d, e, near.least);
    }

-- the next terms are as near as the terms before them
next_term_near : (t s by factor next term result : ℕ) → t ≤ 2 * unit → s ≤ 3 * unit
    → 6 * unit ≤ by → IsNearTerm t term → IsNearFactor s by factor → next * by ≤ t * s
    → t * s < (next + 1) * by → result * word ≤ term * factor
    → term * factor < (result + 1) * word → IsNearTerm next result
next_term_near t s by factor next term result t_in s_in by_in near near_factor under over most least =
    let a : result * word * by ≤ term * factor * by = mul-le-mul most (omega arith) in
    let b : term * (factor * by) ≤ term * (word * (s + 1)) =
    mul-le-mul (omega arith) (omega (arith, near_factor.most)) in
    let c : term * (s + 1) ≤ (t + 8) * (s + 1) = mul-le-mul near.most (omega arith) in
    let d : t * s ≤ (term + 8) * s = mul-le-mul near.least (omega arith) in
    let e : term * (word * s) ≤ term * ((factor + 3) * by + 4 * word) =
    mul-le-mul (omega arith) (omega (arith, near_factor.least)) in
    let f : term * factor * by ≤ (result + 1) * word * by =
    mul-le-mul (omega arith) (omega arith) in
    let g : term * by ≤ (2 * unit + 8) * by =
    mul-le-mul (omega (arith, near.most)) (omega arith) in
    let above : result * by < (next + 9) * by = omega (arith, a, b, c) in
    let below : next * by < (result + 9) * by = omega (arith, d, e, f, g, near.most) in
    record {
      most = omega (arith, lt_of_mul-lt-mul_right by above);
      least = omega (arith, lt_of_mul-lt-mul_right by below);
    }

-- a quotient lies between its multiples
record IsQuotient (n d q : ℕ) : Type 0 where
  pub most : q * d ≤ n
  pub least : n < (q + 1) * d

is_quotient : (n d q : ℕ) → 0 < d → q ≡ n / d → IsQuotient n d q
is_quotient n d q positive is =
    let same : q * d ≡ n / d * d = ap (λ (k : ℕ). k * d) is in
    record {
      most = omega (arith, same, div-add-mod' n d);
      least = omega (arith, same, div-add-mod' n d, mod_below n d positive);
    }

-- the same, by the quotients that the code takes
pub next_term-near : (t s term square divisor inverse factor result : ℕ) → t ≤ 2 * unit
    → s ≤ 3 * unit → 6 ≤ divisor → square < word → inverse < word
    → inverse ≡ whole / (unit * unit * divisor) → factor ≡ square * inverse / word
    → result ≡ term * factor / word → IsNearSquare s square → IsNearTerm t term
    → IsNearTerm (t * s / unit / divisor) result
next_term-near t s term square divisor inverse factor result t_in s_in divisor_in square_in inverse_in inverse_is factor_is result_is near_square near =
    let by = unit * divisor in
    let inverse_of = is_quotient whole (unit * unit * divisor) inverse (omega arith) inverse_is in
    let factor_of = is_quotient (square * inverse) word factor (omega arith) factor_is in
    let result_of = is_quotient (term * factor) word result (omega arith) result_is in
    let next_of = is_quotient (t * s) by (t * s / by) (omega arith) refl in
    let near_factor = factor_near s square inverse by factor near_square square_in inverse_in
    (omega (arith, inverse_of.most)) (omega (arith, inverse_of.least))
    factor_of.most factor_of.least in
    subst (λ (next : ℕ). IsNearTerm next result)
    (sym (div-div-eq-div-mul (t * s) unit divisor))
    (next_term_near t s by factor (t * s / by) term result t_in s_in (omega arith) near near_factor
    next_of.most next_of.least result_of.most result_of.least)
