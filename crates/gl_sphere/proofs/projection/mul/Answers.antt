use Rattle.std.proofs.Common.{◌≡◌, ◌≤◌, ◌*◌, ◌/◌, true, false, pos, ap, ◌∙◌, arith}
use Rattle.std.specs.Prelude.{unsigned_abs}
use Rattle.std.proofs.lemmas.Int.{ints, to_z-of_z}
use lib.Signed.{lt_z}
use mathlib.Core.Bool.{beq}
use Rattle.gl_sphere.specs.Lemmas.Quotients.{scaled_at_most}
use Rattle.gl_sphere.specs.Lemmas.Signs.{abs_at_most}
use Rattle.gl_sphere.proofs.Signs.{product-alike, product-unlike}
use Rattle.gl_sphere.proofs.projection.mul.Goals as goal
use Rattle.gl_sphere.proofs.projection.mul.Goals.{After-over_unit-size}

-- the size of the product
size-is : (c : After-over_unit-size) → c.over_unit-size.result ≡ unsigned_abs c.args.a * unsigned_abs c.args.b / 10000000000000000
size-is c =
    let a : c.unsigned_abs.result ≡ unsigned_abs c.args.a = grind (arith, to_z-of_z, c.unsigned_abs.ensures.value) in
    let b : c.unsigned_abs-2.result ≡ unsigned_abs c.args.b = grind (arith, to_z-of_z, c.unsigned_abs-2.ensures.value) in
    c.over_unit-size.ensures ∙ ap (λ n. n * c.unsigned_abs-2.result / 10000000000000000) a ∙ ap (λ n. unsigned_abs c.args.a * n / 10000000000000000) b

size-fits : (c : After-over_unit-size) → c.over_unit-size.result ≤ 10000000000000000
size-fits c =
    omega (
      arith,
      size-is c,
      scaled_at_most (unsigned_abs c.args.a) (unsigned_abs c.args.b) 10000000000000000 1 10000000000000000 (abs_at_most c.args.a _ c.requires.a_in_range)
          (omega (arith, abs_at_most c.args.b 10000000000000000 c.requires.b_in_range)),
    )

pub returns-then-a-b-clause-value : goal.returns-then-a-b-clause-value
returns-then-a-b-clause-value c =
    let alike : beq (lt_z c.args.a (pos 0)) (lt_z c.args.b (pos 0)) ≡ true = simp (to_z-of_z, c.ranges.a, c.ranges.b) at c.if-a-b.true in
    omega (arith, ints, size-is c.before, size-fits c.before, product-alike c.args.a c.args.b alike)

pub returns-else-a-b-clause-value : goal.returns-else-a-b-clause-value
returns-else-a-b-clause-value c =
    let unlike : beq (lt_z c.args.a (pos 0)) (lt_z c.args.b (pos 0)) ≡ false = simp (to_z-of_z, c.ranges.a, c.ranges.b) at c.if-a-b.false in
    omega (arith, ints, size-is c.before, size-fits c.before, product-unlike c.args.a c.args.b unlike)
