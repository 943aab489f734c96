use Rattle.std.proofs.Common.{◌≡◌, ℕ, ◌+◌, ◌*◌, ◌/◌, ◌%◌, ◌<◌, ◌≤◌, sym, ap, ◌∙◌, arith}
use Rattle.std.proofs.lemmas.Nat.{div-add-mod', div_below, mod_below}
use Rattle.std.proofs.Math.Nat.{mul-add-div, div-div-eq-div-mul}

-- a division in two digits of base b
pub long_division : (h l b d : ℕ) → 0 < d → (h * b + l) / d ≡ h / d * b + (h % d * b + l) / d
long_division h l b d p =
    let parts : h / d * d + h % d ≡ h = div-add-mod' h d in
    let e : h * b + l ≡ d * (h / d * b) + (h % d * b + l) = ap (λ k. k * b + l) (sym parts) ∙ omega arith in
    ap (λ k. k / d) e ∙ mul-add-div p (h / d * b) (h % d * b + l)

-- the same, over a second divisor
pub long_division-over : (n b d e : ℕ) → 0 < d → (n / b / d * b + (n / b % d * b + n % b) / d) / e ≡ n / (d * e)
long_division-over n b d e p =
    ap (λ k. k / e) (sym (long_division (n / b) (n % b) b d p)) ∙ div-div-eq-div-mul (n / b * b + n % b) d e ∙ ap (λ k. k / (d * e)) (div-add-mod' n b)

-- with digits of 32 bits, the first digit of the quotient fits
pub digit-fits : (n d : ℕ) → 0 < d → n < d * 18446744073709551616 → n / 4294967296 / d * 4294967296 < 18446744073709551616
digit-fits n d p h =
    let q : n / 4294967296 / d ≡ n / (4294967296 * d) = div-div-eq-div-mul n 4294967296 d in
    let below : n / (4294967296 * d) < 4294967296 = div_below n (4294967296 * d) 4294967296 (omega arith) (omega arith) in
    omega arith

-- the rest of the first digit fits
pub rest-fits : (n d : ℕ) → 0 < d → d ≤ 4294967296 → n / 4294967296 % d * 4294967296 < 18446744073709551616
rest-fits n d p h = omega (arith, mod_below (n / 4294967296) d p)
