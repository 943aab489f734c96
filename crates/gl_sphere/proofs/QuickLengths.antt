-- How a quick length is rounded beside the written one.
use Rattle.std.proofs.Common.{◌≡◌, ℕ, ◌+◌, ◌*◌, ◌/◌, ◌%◌, ◌^◌, ◌-◌, ◌<◌, ◌≤◌, ℤ, pos, ◌-ℤ◌, refl, sym, ap, ◌∙◌, subst, arith}
use Rattle.std.proofs.lemmas.Int.{ints}
use Rattle.std.proofs.Math.Nat.{mul-le-mul, div-eq_of_lt-le}
use Rattle.gl_sphere.specs.Lemmas.Bounds.{natural-within, product-within, scaled-within}
use Rattle.gl_sphere.specs.Product.{with_sign_of, product, scaled}
use Rattle.gl_sphere.specs.Range.{IsWithin}
use Rattle.gl_sphere.specs.Sphere.{radius, unit}

-- one in the place after a word of 64 bits
abbrev word : ℕ
word = 2 ^ 64

-- the products of two sines, and of two that are within the error of those
record IsNearProduct (written quick : ℕ) : Type 0 where
  pub most : quick ≤ written + 2 * 512 * unit + 512 * 512
  pub least : written ≤ quick + 2 * 512 * unit + 512 * 512

near_product : (p q a b : ℕ) → p ≤ unit → q ≤ unit → a ≤ unit → b ≤ unit → a ≤ p + 512
    → p ≤ a + 512 → b ≤ q + 512 → q ≤ b + 512 → IsNearProduct (p * q) (a * b)
near_product p q a b p_in q_in a_in b_in a_most a_least b_most b_least =
    let above : a * b ≤ (p + 512) * (q + 512) = mul-le-mul a_most b_most in
    let below : p * q ≤ (a + 512) * (b + 512) = mul-le-mul a_least b_least in
    record { most = omega (arith, above); least = omega (arith, below) }

-- m is the written product over `unit`; the quick length is so many whole centimetres and a rest
-- that is at least the margin away from the next ones
rounded_alike : (written quick m high length centimetres rest margin : ℕ)
    → IsNearProduct written quick
    → m * unit ≤ written → written < (m + 1) * unit → high * 2 ^ 44 ≤ quick
    → quick < (high + 1) * 2 ^ 44 → length * word ≤ high * 8879877978739912502
    → high * 8879877978739912502 < (length + 1) * word → high < word
    → length + 2 ^ 31 ≡ centimetres * 2 ^ 32 + rest → 280750 ≤ margin
    → margin ≤ rest → rest + margin ≤ 2 ^ 32
    → centimetres ≡ (2 * m * radius + unit) / (2 * unit)
rounded_alike written quick m high length centimetres rest margin near m_under m_over high_under high_over length_under length_over high_in parts enough least most =
    let below : centimetres * (2 * unit) ≤ 2 * m * radius + unit = omega (arith, near.most) in
    let above : 2 * m * radius + unit < (centimetres + 1) * (2 * unit) =
    omega (arith, near.least) in
    sym (div-eq_of_lt-le {k = centimetres} (2 * unit) below above)

-- the written length of a product of two sines
scaled-product : (p q : ℕ)
    → scaled (product (pos p) (pos q)) ≡ pos ((2 * (p * q / unit) * radius + unit) / (2 * unit))
unfolding scaled product with_sign_of
scaled-product p q = refl

pub quick_length-is : (p q a b high length margin : ℕ) → p ≤ unit → q ≤ unit → a ≤ unit → b ≤ unit
    → IsWithin 512 (pos a -ℤ pos p) → IsWithin 512 (pos b -ℤ pos q)
    → high ≡ a * 1024 * (b * 1024) / word → high < word
    → length ≡ high * 8879877978739912502 / word
    → 280750 ≤ margin → margin ≤ (length + 2 ^ 31) % 2 ^ 32
    → (length + 2 ^ 31) % 2 ^ 32 ≤ 2 ^ 32 - margin
    → pos ((length + 2 ^ 31) / 2 ^ 32) ≡ scaled (product (pos p) (pos q))
quick_length-is p q a b high length margin p_in q_in a_in b_in a_near b_near high_is high_in length_is enough least most =
    let near = near_product p q a b p_in q_in a_in b_in (omega (arith, ints, a_near.1))
    (omega (arith, ints, a_near.0)) (omega (arith, ints, b_near.1)) (omega (arith, ints, b_near.0)) in
    let is = rounded_alike (p * q) (a * b) (p * q / unit) high length ((length + 2 ^ 31) / 2 ^ 32)
    ((length + 2 ^ 31) % 2 ^ 32) margin near (omega arith) (omega arith) (omega arith) (omega arith)
    (omega arith) (omega arith) high_in (omega arith) enough least (omega arith) in
    ap pos is ∙ sym (scaled-product p q)

-- a sine is within the error of itself
pub own-within : (a : ℕ) → IsWithin 512 (pos a -ℤ pos a)
own-within a = (omega (arith, ints), omega (arith, ints))

pub length-within : (a b : ℕ) (r : ℤ) → a ≤ unit → b ≤ unit
    → r ≡ scaled (product (pos a) (pos b)) → IsWithin radius r
length-within a b r a_in b_in is =
    subst (IsWithin radius) (sym is)
    (scaled-within _ (product-within _ _ (natural-within a unit a_in) (natural-within b unit b_in)))
