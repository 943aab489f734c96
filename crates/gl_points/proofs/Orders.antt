-- The order of fractions, and which of them are one number.
use Rattle.std.proofs.Common.{◌≡◌, ◌+◌, ◌-◌, ◌*◌, ◌/◌, ◌%◌, ◌<◌, ◌≤◌, arith}
use Rattle.std.proofs.Math.Nat.{mul-le-mul_left, mul-le-mul, le_of_mul-le-mul_left, le-div_iff_mul-le, div-mul-le_self, mul-sub}
use Rattle.std.proofs.lemmas.Nat.{div-add-mod', mod_below}
use Rattle.gl_points.specs.Fraction.{Fraction, ◌⊗◌, ◌⊘◌, ◌⊕◌, ◌⊖◌, IsAtMost, IsNearest, rounded, IsSame}

pub at_most_trans : (a b c : Fraction) → 0 < b.den → IsAtMost a b → IsAtMost b c → IsAtMost a c
at_most_trans a b c divides first second =
    let left : c.den * (a.num * b.den) ≤ c.den * (b.num * a.den) = mul-le-mul_left c.den first in
    let right : a.den * (b.num * c.den) ≤ a.den * (c.num * b.den) = mul-le-mul_left a.den second in
    let both : b.den * (a.num * c.den) ≤ b.den * (c.num * a.den) = omega arith in
    le_of_mul-le-mul_left both divides

-- two fractions of which each is at most the other are one number, and the other way round
pub same_from : (a b : Fraction) → IsAtMost a b → IsAtMost b a → IsSame a b
same_from a b first second = omega arith

pub at_most_from : (a b : Fraction) → IsSame a b → IsAtMost a b
at_most_from a b same = omega arith

pub same_sym : (a b : Fraction) → IsSame a b → IsSame b a
same_sym a b same = omega arith

pub same_trans : (a b c : Fraction) → 0 < b.den → IsSame a b → IsSame b c → IsSame a c
same_trans a b c divides first second =
    same_from a c (at_most_trans a b c divides (omega arith) (omega arith)) (at_most_trans c b a divides (omega arith) (omega arith))

-- a product grows with its factors
pub times_at_most : (a b c d : Fraction) → IsAtMost a b → IsAtMost c d → IsAtMost (a ⊗ c) (b ⊗ d)
times_at_most a b c d first second =
    let both : (a.num * b.den) * (c.num * d.den) ≤ (b.num * a.den) * (d.num * c.den) = mul-le-mul first second in
    omega arith

pub times_same : (a b c d : Fraction) → IsSame a b → IsSame c d → IsSame (a ⊗ c) (b ⊗ d)
times_same a b c d first second =
    same_from (a ⊗ c) (b ⊗ d) (times_at_most a b c d (omega arith) (omega arith)) (times_at_most b a d c (omega arith) (omega arith))

-- a sum grows with its parts
pub plus_at_most : (a b c d : Fraction) → IsAtMost a b → IsAtMost c d → IsAtMost (a ⊕ c) (b ⊕ d)
plus_at_most a b c d first second =
    let left : (c.den * d.den) * (a.num * b.den) ≤ (c.den * d.den) * (b.num * a.den) = mul-le-mul_left (c.den * d.den) first in
    let right : (a.den * b.den) * (c.num * d.den) ≤ (a.den * b.den) * (d.num * c.den) = mul-le-mul_left (a.den * b.den) second in
    omega arith

-- the greater of two fractions rounds to no less
pub rounded_at_most : (a b : Fraction) → 0 < a.den → 0 < b.den → IsAtMost a b → rounded a ≤ rounded b
rounded_at_most a b left right low =
    let n = rounded a in
    let under : n * (2 * a.den) ≤ 2 * a.num + a.den = div-mul-le_self (2 * a.num + a.den) (2 * a.den) in
    let more : b.den * (n * (2 * a.den)) ≤ b.den * (2 * a.num + a.den) = mul-le-mul_left b.den under in
    let held : a.den * (n * (2 * b.den)) ≤ a.den * (2 * b.num + b.den) = omega arith in
    let fits : n * (2 * b.den) ≤ 2 * b.num + b.den = le_of_mul-le-mul_left held left in
    (le-div_iff_mul-le (omega arith)).1 fits

pub rounded_same : (a b : Fraction) → 0 < a.den → 0 < b.den → IsSame a b → rounded a ≡ rounded b
rounded_same a b left right same =
    let first = rounded_at_most a b left right (omega arith) in
    let second = rounded_at_most b a right left (omega arith) in
    omega (arith, first, second)

-- a difference grows with what it is taken from, and shrinks with what is taken
pub less_at_most : (a b c d : Fraction) → IsAtMost a b → IsAtMost d c → IsAtMost (a ⊖ c) (b ⊖ d)
less_at_most a b c d first second =
    let left : (c.den * d.den) * (a.num * b.den) ≤ (c.den * d.den) * (b.num * a.den) = mul-le-mul_left (c.den * d.den) first in
    let right : (a.den * b.den) * (d.num * c.den) ≤ (a.den * b.den) * (c.num * d.den) = mul-le-mul_left (a.den * b.den) second in
    let e : (b.den * d.den) * (a.num * c.den - c.num * a.den) ≡ (b.den * d.den) * (a.num * c.den) - (b.den * d.den) * (c.num * a.den) = mul-sub (b.den * d.den) (a.num * c.den) (c.num * a.den) in
    let f : (a.den * c.den) * (b.num * d.den - d.num * b.den) ≡ (a.den * c.den) * (b.num * d.den) - (a.den * c.den) * (d.num * b.den) = mul-sub (a.den * c.den) (b.num * d.den) (d.num * b.den) in
    let g : (b.den * d.den) * (a.num * c.den) - (b.den * d.den) * (c.num * a.den) ≤ (a.den * c.den) * (b.num * d.den) - (a.den * c.den) * (d.num * b.den) = omega arith in
    omega arith

-- a quotient grows with what is divided, and shrinks with what it is divided by
pub over_at_most : (a b c d : Fraction) → IsAtMost a b → IsAtMost d c → IsAtMost (a ⊘ c) (b ⊘ d)
over_at_most a b c d first second =
    let both : (a.num * b.den) * (d.num * c.den) ≤ (b.num * a.den) * (c.num * d.den) = mul-le-mul first second in
    omega arith

-- a share of a fraction is no more than the fraction
pub part_at_most : (a share : Fraction) → share.num ≤ share.den → IsAtMost (a ⊗ share) a
part_at_most a share low =
    let more : (a.num * a.den) * share.num ≤ (a.num * a.den) * share.den = mul-le-mul_left (a.num * a.den) low in
    omega arith

-- a fraction is no more than a sum with it
pub added_at_most : (a b : Fraction) → IsAtMost a (b ⊕ a)
added_at_most a b = omega arith

pub at_most_itself : (a : Fraction) → IsAtMost a a
at_most_itself a = omega arith

-- the rounded fraction is the nearest whole number
pub rounded_nearest : (a : Fraction) → 0 < a.den → IsNearest a (rounded a)
rounded_nearest a divides =
    let whole = 2 * a.num + a.den in
    let parts : whole / (2 * a.den) * (2 * a.den) + whole % (2 * a.den) ≡ whole = div-add-mod' whole (2 * a.den) in
    let left : whole % (2 * a.den) < 2 * a.den = mod_below whole (2 * a.den) (omega arith) in
    record { below = omega arith; above = omega arith }
