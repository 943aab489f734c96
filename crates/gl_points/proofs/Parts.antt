-- The program's fractions are those of the definition.
use Rattle.std.proofs.Common.{◌≡◌, refl, ap, ℕ, ◌+◌, ◌-◌, ◌*◌, ◌<◌, ◌≤◌, min, max, Bool, true, false, cond, arith}
use Rattle.std.proofs.lemmas.Bool.Decides.{nat_tests}
use Rattle.std.proofs.Math.Nat.{mul-le-mul, mul-le-mul_left}
use Rattle.gl_points.specs.Fraction.{Fraction, ◌÷◌, ◌⊗◌, ◌⊘◌, ◌⊕◌, ◌⊖◌, is_at_most, lesser, whole, IsSame}

-- the day's factors over one denominator
factors_written : (launched far fast : ℕ) (one two : Bool) → is_at_most (whole 1) ((5 ÷ 4) ⊗ (far ÷ launched)) ≡ one → is_at_most (whole 1) ((6 ÷ 5) ⊗ (fast ÷ far) ⊕ (3 ÷ 5)) ≡ two
    → IsSame (min (5 * far) (6 * fast + 3 * far) ÷ max (4 * launched) (5 * far)) (cond one (whole 1) ((5 ÷ 4) ⊗ (far ÷ launched)) ⊗ cond two (whole 1) ((6 ÷ 5) ⊗ (fast ÷ far) ⊕ (3 ÷ 5)))
factors_written launched far fast true true first second =
    let d : 4 * launched ≤ 5 * far = grind (arith, nat_tests) in
    let n : 25 * far ≤ 30 * fast + 15 * far = grind (arith, nat_tests) in
    omega arith
factors_written launched far fast true false first second =
    let d : 4 * launched ≤ 5 * far = grind (arith, nat_tests) in
    let n : 30 * fast + 15 * far < 25 * far = grind (arith, nat_tests) in
    let e : min (5 * far) (6 * fast + 3 * far) ≡ 6 * fast + 3 * far = omega arith in
    let f : max (4 * launched) (5 * far) ≡ 5 * far = omega arith in
    rw (e, f) (omega arith)
factors_written launched far fast false true first second =
    let d : 5 * far < 4 * launched = grind (arith, nat_tests) in
    let n : 25 * far ≤ 30 * fast + 15 * far = grind (arith, nat_tests) in
    let e : min (5 * far) (6 * fast + 3 * far) ≡ 5 * far = omega arith in
    let f : max (4 * launched) (5 * far) ≡ 4 * launched = omega arith in
    rw (e, f) (omega arith)
factors_written launched far fast false false first second =
    let d : 5 * far < 4 * launched = grind (arith, nat_tests) in
    let n : 30 * fast + 15 * far < 25 * far = grind (arith, nat_tests) in
    let e : min (5 * far) (6 * fast + 3 * far) ≡ 6 * fast + 3 * far = omega arith in
    let f : max (4 * launched) (5 * far) ≡ 4 * launched = omega arith in
    rw (e, f) (omega arith)

pub factors_same : (launched far fast : ℕ) → IsSame (min (5 * far) (6 * fast + 3 * far) ÷ max (4 * launched) (5 * far))
    (lesser (whole 1) ((5 ÷ 4) ⊗ (far ÷ launched)) ⊗ lesser (whole 1) ((6 ÷ 5) ⊗ (fast ÷ far) ⊕ (3 ÷ 5)))
factors_same launched far fast = factors_written launched far fast _ _ refl refl

-- what is left of the most points when those for speed are taken off
left_over : (a b m n w : ℕ) → w + 2 * n ≡ 3 * m → a * (3 * m * b) - 2 * n * a * b ≡ a * b * w
left_over a b m n w e =
    let f : a * b * (w + 2 * n) ≡ a * b * (3 * m) = ap (λ k. a * b * k) e in
    omega arith

-- a finisher's part of the most points
finisher_written : (a b m n w s t u v l : ℕ) → l ≡ a * b * w → s * v ≡ u * t
    → (a * (2 * n * s + w * t)) * ((3 * m * b * v) * (b * (3 * m * b))) ≡ ((2 * n * a * u) * (b * (3 * m * b)) + l * (3 * m * b * v)) * (b * (3 * m * t))
finisher_written a b m n w s t u v l left same =
    let hint : 18 * n * a * m * m * b * b * b * (s * v) ≡ 18 * n * a * m * m * b * b * b * (u * t) = ap (λ k. 18 * n * a * m * m * b * b * b * k) same in
    rw left (omega arith)

pub finisher_same : (most share written : Fraction) (fast launched : ℕ) → fast ≤ launched → IsSame share written
    → IsSame (most ⊗ ((2 * fast * share.num + (3 * launched - 2 * fast) * share.den) ÷ (3 * launched * share.den)))
    (((2 ÷ 3) ⊗ (fast ÷ launched) ⊗ most) ⊗ written ⊕ (most ⊖ (2 ÷ 3) ⊗ (fast ÷ launched) ⊗ most))
finisher_same most share written fast launched within same =
    finisher_written most.num most.den launched fast (3 * launched - 2 * fast) share.num share.den written.num written.den _
    (left_over most.num most.den launched fast (3 * launched - 2 * fast) (omega arith)) same

-- an outlanding's part of the most points
outlanding_written : (a b m w x y l : ℕ) → l ≡ a * b * w → (a * (w * x)) * (b * (3 * m * b) * y) ≡ (l * x) * (b * (3 * m * y))
outlanding_written a b m w x y l left = rw left (omega arith)

pub outlanding_same : (most share : Fraction) (fast launched : ℕ) → fast ≤ launched
    → IsSame (most ⊗ (((3 * launched - 2 * fast) * share.num) ÷ (3 * launched * share.den))) ((most ⊖ (2 ÷ 3) ⊗ (fast ÷ launched) ⊗ most) ⊗ share)
outlanding_same most share fast launched within =
    outlanding_written most.num most.den launched (3 * launched - 2 * fast) share.num share.den _ (left_over most.num most.den launched fast (3 * launched - 2 * fast) (omega arith))

-- the share of a speed
share_written : (d p k n : ℕ) → d * (p * (3 * k) * (1 * n)) ≡ d * (3 * k) * (p * n)
share_written d p k n = omega arith

pub share_same : (speed greatest : Fraction) → IsSame ((3 * (speed.num * greatest.den) - 2 * (speed.den * greatest.num)) ÷ (speed.den * greatest.num))
    ((speed ⊖ (2 ÷ 3) ⊗ greatest) ⊘ ((1 ÷ 3) ⊗ greatest))
share_same speed greatest =
    let d = 3 * (speed.num * greatest.den) - 2 * (speed.den * greatest.num) in
    let e : speed.num * (3 * greatest.den) - 2 * greatest.num * speed.den ≡ d = omega arith in
    rw e (share_written d speed.den greatest.den greatest.num)

-- a share of a part beside the rest is no more than the whole
pub part_low : (part whole s t : ℕ) → part ≤ whole → s ≤ t → part * s + (whole - part) * t ≤ whole * t
part_low part whole s t within low =
    let more : part * s ≤ part * t = mul-le-mul_left part low in
    let e : part + (whole - part) ≡ whole = omega arith in
    let f : (part + (whole - part)) * t ≡ whole * t = ap (λ k. k * t) e in
    omega arith

-- three factors within their bounds
pub three_low : (a b c k l m : ℕ) → a ≤ k → b ≤ l → c ≤ m → a * b * c ≤ k * l * m
three_low a b c k l m first second third = mul-le-mul (mul-le-mul first second) third

-- three fractions, of which two are at most 1
pub three_parts : (a b c k l m most : ℕ) → a ≤ k → b ≤ most * l → c ≤ m → a * b * c ≤ most * (k * l * m)
three_parts a b c k l m most first second third =
    let low : a * b * c ≤ k * (most * l) * m = mul-le-mul (mul-le-mul first second) third in
    omega arith
