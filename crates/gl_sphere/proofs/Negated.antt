use Rattle.std.proofs.Common.{◌≡◌, ◌<◌, ◌^◌, ℤ, pos, neg_ℤ, ◌-ℤ◌, to_z, of_z, w64, ap, ◌∙◌, arith}
use Rattle.std.specs.Prelude.{unsigned_abs}
use Rattle.std.proofs.lemmas.Int.{ints, to_z-of_z}
use Rattle.gl_sphere.specs.Lemmas.Signs.{abs_at_most}
use Rattle.gl_sphere.specs.Range.{IsWithin}
use Rattle.gl_sphere.specs.Sphere.{unit}

kept : (m : ℤ) → unsigned_abs m < 2 ^ 63 → to_z w64 (of_z w64 m) ≡ m
kept m small = grind (arith, ints, to_z-of_z)

-- the machine's negative of a sine, a cosine or a product of two
pub negated : (m : ℤ) → IsWithin unit m → to_z w64 (of_z w64 (pos 0 -ℤ to_z w64 (of_z w64 m))) ≡ neg_ℤ m
negated m within =
    let small = abs_at_most m unit within in
    let e : to_z w64 (of_z w64 m) ≡ m = kept m (omega arith) in
    let n : pos 0 -ℤ m ≡ neg_ℤ m = omega (arith, ints) in
    ap (λ z. to_z w64 (of_z w64 (pos 0 -ℤ z))) e ∙ ap (λ z. to_z w64 (of_z w64 z)) n ∙ kept (neg_ℤ m) (omega (arith, ints))
