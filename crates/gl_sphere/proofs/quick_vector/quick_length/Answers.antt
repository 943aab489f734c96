use Rattle.std.proofs.Common.{◌≡◌, ℕ, ◌≤◌, ◌+◌, ◌/◌, pos, ◌-ℤ◌, arith}
use Rattle.std.proofs.lemmas.Int.{ints}
use Rattle.gl_sphere.specs.Code.Quick.{quick_error}
use Rattle.gl_sphere.specs.Product.{product, scaled}
use Rattle.gl_sphere.specs.Range.{IsWithin}
use Rattle.gl_sphere.specs.Sphere.{unit}
use Rattle.gl_sphere.specs.declared.quick_vector.TheConstants.{MARGIN}
use Rattle.gl_sphere.proofs.QuickLengths.{quick_length-is, own-within, length-within}
use Rattle.gl_sphere.proofs.quick_vector.quick_length.Goals as goal
use Rattle.gl_sphere.proofs.quick_vector.quick_length.Goals.{Then-above}

length-is : (c : Then-above) (p q : ℕ) → p ≤ unit → q ≤ unit
    → IsWithin quick_error (pos c.args.a -ℤ pos p) → IsWithin quick_error (pos c.args.b -ℤ pos q)
    → pos ((c.high_half-2.result + 2147483648) / 4294967296) ≡ scaled (product (pos p) (pos q))
length-is c p q p_in q_in a_near b_near =
    quick_length-is p q c.args.a c.args.b c.high_half.result c.high_half-2.result MARGIN p_in q_in
    c.requires.a_in_range c.requires.b_in_range a_near b_near c.high_half.ensures
    c.high_half.type_inv c.high_half-2.ensures (omega arith) c.if-above-ge-MARGIN.true c.if-above.true

pub returns-then-above-clause-value : goal.returns-then-above-clause-value
returns-then-above-clause-value c p q p_in q_in a_near b_near =
    omega (arith, ints, length-is c p q p_in q_in a_near b_near)

pub returns-then-above-clause-bound : goal.returns-then-above-clause-bound
returns-then-above-clause-bound c =
    let is = length-is c c.args.a c.args.b c.requires.a_in_range c.requires.b_in_range
    (own-within c.args.a) (own-within c.args.b) in
    let within = length-within c.args.a c.args.b _ c.requires.a_in_range c.requires.b_in_range is in
    (omega (arith, ints, within.0), omega (arith, ints, within.1))
