use Rattle.std.proofs.Common.{ℕ, ◌*◌, ◌/◌, ◌<◌, ◌≤◌, arith}
use Rattle.std.proofs.lemmas.Nat.{le-div}
use Rattle.std.proofs.Math.Nat.{mul-le-mul, div-mul-le_self, div-le_of_le-mul}

-- a quotient never falls where the dividend grows
pub div-mono : (a b d : ℕ) → 0 < d → a ≤ b → a / d ≤ b / d
div-mono a b d p h = le-div (a / d) b d p (omega (arith, div-mul-le_self a d))

-- a product of at most m and at most k divisors is at most m * k after the division
pub scaled_at_most : (a b m k d : ℕ) → a ≤ m → b ≤ d * k → a * b / d ≤ m * k
scaled_at_most a b m k d h e =
    let p : a * b ≤ m * (d * k) = mul-le-mul h e in
    let q : a * b ≤ d * (m * k) = omega arith in
    div-le_of_le-mul d q
