use Rattle.std.proofs.Common.{◌≡◌, ℕ, ◌+◌, ◌*◌, ◌/◌, ◌<◌, ◌≤◌, refl, sym, ap, ◌∙◌, arith, ⊎_elim}
use Rattle.std.proofs.lemmas.Bool.{cases_lt}
use Rattle.std.proofs.Math.Nat.{mul-le-mul, mul-div-mul_left, div-div-eq-div-mul}
use Rattle.gl_sphere.specs.Distance.{second_term_of, third_term_of, fourth_term_of, arc_over, written_distance, floor_root}
use Rattle.gl_sphere.specs.Lemmas.Quotients.{div-mono}
use Rattle.gl_sphere.proofs.Roots.{IsRoot-floor_root, floor_root-mono}

pub second_term_of-mono : (c e : ℕ) → c ≤ e → second_term_of c ≤ second_term_of e
unfolding second_term_of
second_term_of-mono c e h =
    div-mono (c * c * c) (e * e * e) _ (omega arith) (mul-le-mul (mul-le-mul h h) h)

pub third_term_of-mono : (c e : ℕ) → c ≤ e → third_term_of c ≤ third_term_of e
unfolding third_term_of
third_term_of-mono c e h =
    let t = second_term_of-mono c e h in
    div-mono (9 * second_term_of c * (c * c)) (9 * second_term_of e * (e * e)) _ (omega arith) (mul-le-mul (omega arith) (mul-le-mul h h))

pub fourth_term_of-mono : (c e : ℕ) → c ≤ e → fourth_term_of c ≤ fourth_term_of e
unfolding fourth_term_of
fourth_term_of-mono c e h =
    let t = third_term_of-mono c e h in
    div-mono (25 * third_term_of c * (c * c)) (25 * third_term_of e * (e * e)) _ (omega arith) (mul-le-mul (omega arith) (mul-le-mul h h))

pub arc_over-mono : (c e : ℕ) → c ≤ e → arc_over c ≤ arc_over e
unfolding arc_over
arc_over-mono c e h =
    omega (arith, second_term_of-mono c e h, third_term_of-mono c e h, fourth_term_of-mono c e h)

-- the distance never falls where the squared chord grows
pub written_distance-mono : (q r : ℕ) → q ≤ r → written_distance q ≤ written_distance r
unfolding written_distance
written_distance-mono q r h = arc_over-mono (floor_root q) (floor_root r) (floor_root-mono q r h)

-- a chord within the greatest square has a root within the greatest root
chord_at_most : (c : ℕ) → c * c ≤ 4870756920000000000 → c ≤ 2206979139
chord_at_most c h =
    ⊎_elim
    (λ (lt : 2206979139 < c). let ge : 2206979140 ≤ c = omega arith in let p : 2206979140 * 2206979140 ≤ c * c = mul-le-mul ge ge in absurd (omega arith))
    (λ (le : c ≤ 2206979139). le)
    (cases_lt 2206979139 c)

pub second_term_of_bound : (c : ℕ) → c * c ≤ 4870756920000000000 → second_term_of c ≤ 1103489569
unfolding second_term_of
second_term_of_bound c h = second_term_of-mono c 2206979139 (chord_at_most c h)

pub third_term_of_bound : (c : ℕ) → c * c ≤ 4870756920000000000 → third_term_of c ≤ 1489710918
unfolding second_term_of third_term_of
third_term_of_bound c h = third_term_of-mono c 2206979139 (chord_at_most c h)

pub fourth_term_of_bound : (c : ℕ) → c * c ≤ 4870756920000000000 → fourth_term_of c ≤ 2660198067
unfolding second_term_of third_term_of fourth_term_of
fourth_term_of_bound c h = fourth_term_of-mono c 2206979139 (chord_at_most c h)

-- the terms that are 0 over a short chord
pub third_term_of-short : (c : ℕ) → c < 32000000 → third_term_of c ≡ 0
unfolding second_term_of third_term_of
third_term_of-short c h =
    let p : third_term_of c ≤ 0 = third_term_of-mono c 32000000 (omega arith) in
    omega arith

pub fourth_term_of-short : (c : ℕ) → c < 99000000 → fourth_term_of c ≡ 0
unfolding second_term_of third_term_of fourth_term_of
fourth_term_of-short c h =
    let p : fourth_term_of c ≤ 0 = fourth_term_of-mono c 99000000 (omega arith) in
    omega arith

pub arc_over_bound : (c : ℕ) → c * c ≤ 4870756920000000000 → arc_over c ≤ 7460377693
unfolding arc_over
arc_over_bound c h =
    omega (arith, chord_at_most c h, second_term_of_bound c h, third_term_of_bound c h, fourth_term_of_bound c h)

-- a product over a chord's square, with a factor that is at most m
pub product_at_most : (c a m : ℕ) → c * c ≤ 4870756920000000000 → a ≤ m → a * (c * c) ≤ m * 4870756920000000000
product_at_most c a m h k = mul-le-mul k h

pub cube_at_most : (c : ℕ) → c * c ≤ 4870756920000000000 → c * (c * c) ≤ 2206979139 * 4870756920000000000
cube_at_most c h = mul-le-mul (chord_at_most c h) h

pub second_term_of-is : (c r : ℕ) → r ≡ c * (c * c) / 9741513840000000000 → r ≡ second_term_of c
unfolding second_term_of
second_term_of-is c r h = h ∙ ap (λ n. n / 9741513840000000000) (omega arith)

pub third_term_of-is : (c t r : ℕ) → t ≡ second_term_of c → r ≡ 9 * t * (c * c) / 32471712800000000000 → r ≡ third_term_of c
unfolding third_term_of
third_term_of-is c t r t_is h = h ∙ ap (λ n. 9 * n * (c * c) / 32471712800000000000) t_is

pub fourth_term_of-is : (c t r : ℕ) → t ≡ third_term_of c → r ≡ t * (c * c) / 2727623875200000000 → r ≡ fourth_term_of c
unfolding fourth_term_of
fourth_term_of-is c t r t_is h =
    let wide : 25 * (t * (c * c)) / (25 * 2727623875200000000) ≡ t * (c * c) / 2727623875200000000 = mul-div-mul_left (t * (c * c)) 2727623875200000000 (omega arith) in
    h ∙ sym wide ∙ ap (λ n. n / 68190596880000000000) (omega arith) ∙ ap (λ n. 25 * n * (c * c) / 68190596880000000000) t_is

pub arc_over-sum : (c : ℕ) → arc_over c ≡ c + second_term_of c + third_term_of c + fourth_term_of c
unfolding arc_over
arc_over-sum c = refl

-- the arc over a short chord has two terms
pub arc_over-two : (c : ℕ) → c < 32000000 → arc_over c ≡ c + second_term_of c
arc_over-two c h = omega (arith, arc_over-sum c, third_term_of-short c h, fourth_term_of-short c (omega arith))

-- over a longer one it has three
pub arc_over-three : (c : ℕ) → c < 99000000 → arc_over c ≡ c + second_term_of c + third_term_of c
arc_over-three c h = omega (arith, arc_over-sum c, fourth_term_of-short c h)

-- over a short chord in two divisions
pub second_term_of-short : (c r : ℕ) → r ≡ c * (c * c) / 8192 / 1189149638671875 → r ≡ second_term_of c
second_term_of-short c r h =
    second_term_of-is c r (h ∙ div-div-eq-div-mul (c * (c * c)) 8192 1189149638671875)

-- a distance is at most the one of the greatest square
pub written_distance-bound : (q : ℕ) → q ≤ 4870756920000000000 → written_distance q ≤ 7460377693
unfolding written_distance
written_distance-bound q h =
    arc_over_bound (floor_root q) (omega (arith, (IsRoot-floor_root q).square_at_most, h))
