use Rattle.std.proofs.Common.{ℕ, ◌^◌, ◌<◌, ◌≤◌, arith, lit<}
use Rattle.std.proofs.Math.Nat.{pow-le-pow_right}
use Rattle.gl_cup.proofs.decimal.thousandths_in.Goals as goal

-- a number of at most six digits
most : (n len : ℕ) → n < 10 ^ len → len ≤ 6 → n < 1_000_000
most n len small short =
    let limit : 10 ^ len ≤ 10 ^ 6 = pow-le-pow_right {n = 10} (lit< tt) {i = len} {j = 6} short in
    omega (arith, limit)

pub joined-requires-clause-ones : goal.joined-requires-clause-ones
joined-requires-clause-ones c = most _ _ c.in_ok-ones.ensures.bound (omega arith)
