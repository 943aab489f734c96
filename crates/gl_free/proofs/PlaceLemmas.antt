-- What the hulls of two spans say of the fixes in them.
use Rattle.std.proofs.Common.{◌≡◌, ◌∙◌, ap, sym, subst, ℕ, ◌<◌, ◌≤◌, List, [], ◌∷◌, length, Option, None, Some, slice_get, ℤ, ◌-ℤ◌, arith}
use Rattle.std.specs.Prelude.{unsigned_abs}
use Rattle.std.proofs.lemmas.Int.{ints}
use Rattle.std.proofs.lemmas.Option.{get_or_from_slice_get}
use Rattle.gl_sphere.proofs.Arcs.{written_distance-bound, written_distance-mono}
use Rattle.gl_sphere.proofs.Chords.{squared_chord-bound}
use Rattle.gl_sphere.specs.Distance.{squared_chord, squared_gap, written_distance}
use Rattle.gl_igc.specs.declared.fix.Fix.{Fix}
use Rattle.gl_goal.specs.Lemmas.Spans.{fixes_in-single}
use Rattle.gl_goal.specs.Box.{Box, IsBetween, fixes_in, hull_of}
use Rattle.gl_goal.specs.Chords.{greatest_chord, reach, squared}
use Rattle.gl_goal.specs.Near.{IsPlaceOf}
use Rattle.gl_goal.specs.Lemmas.ChordBounds.{squared_chord-at_most}
use Rattle.gl_goal.specs.Lemmas.Held.{IsHeld, fix_box, hull_of-holds, hull_of-single, named}
use Rattle.gl_free.specs.Code.Places.{IsMost, altitude_at, altitude_of, chord, chord_of, leg}

abbrev hull_at : List Fix → ℕ × ℕ → Box
hull_at fixes span = hull_of (fixes_in fixes span)

pub chord-is : (fixes : List Fix) (i j : ℕ) (f g : Fix) → slice_get fixes i ≡ Some f → slice_get fixes j ≡ Some g → chord fixes i j ≡ squared_chord f.at g.at
unfolding chord
chord-is fixes i j f g hi hj = λ k. chord_of (hi k) (hj k)

pub altitude-is : (fixes : List Fix) (i : ℕ) (f : Fix) → slice_get fixes i ≡ Some f → altitude_at fixes i ≡ f.alt
unfolding altitude_at
altitude-is fixes i f hi = ap altitude_of hi

reach-single : (a b : ℤ) → squared (reach (a, a) (b, b)) ≡ squared_gap a b
unfolding reach squared_gap
reach-single a b =
    let same : reach (a, a) (b, b) ≡ unsigned_abs (a -ℤ b) = omega (arith, ints) in
    ap squared same

greatest_chord-single : (f g : Fix) → greatest_chord (fix_box f) (fix_box g) ≡ squared_chord f.at g.at
unfolding greatest_chord squared_chord
greatest_chord-single f g =
    let x = reach-single f.at.x g.at.x in
    let y = reach-single f.at.y g.at.y in
    let z = reach-single f.at.z g.at.z in
    cc

-- the hull of a span of one place is the box of its fix
hull-single : (fixes : List Fix) (span : ℕ × ℕ) (fix : Fix) → span.0 ≡ span.1 → span.0 < length fixes → slice_get fixes span.0 ≡ Some fix → hull_at fixes span ≡ fix_box fix
hull-single fixes span fix same within is =
    ap (λ (n : ℕ). hull_at fixes (span.0, n)) (sym same)
    ∙ ap hull_of (fixes_in-single fixes span.0 fix within ∙ ap (λ (f : Fix). f ∷ []) (get_or_from_slice_get fixes span.0 fix fix is))
    ∙ hull_of-single fix

pub held : (fixes : List Fix) (span : ℕ × ℕ) (place : ℕ) (fix : Fix) → IsPlaceOf span place → span.1 < length fixes → slice_get fixes place ≡ Some fix → IsHeld (hull_at fixes span) fix
held fixes span place fix inside within is = hull_of-holds fixes span place fix inside.0 inside.1 within (get_or_from_slice_get fixes place fix fix is)

-- the greatest chord between two hulls is the most that places of the spans can have
pub chord-most : (fixes : List Fix) (from to : ℕ × ℕ) (most : ℕ) → from.0 ≤ from.1 → from.1 < length fixes → to.0 ≤ to.1 → to.1 < length fixes
    → most ≡ greatest_chord (hull_at fixes from) (hull_at fixes to) → IsMost (chord fixes) from to most
chord-most fixes from to most order within to_order to_within is = record {
  at_most = λ i j in_from in_to.
      let f = named fixes i (omega (arith, in_from.1)) in
      let g = named fixes j (omega (arith, in_to.1)) in
      omega (
        arith,
        is,
        chord-is fixes i j f.0 g.0 f.1 g.1,
        squared_chord-at_most (hull_at fixes from) (hull_at fixes to) f.0.at g.0.at (held fixes from i f.0 in_from within f.1).inside
            (held fixes to j g.0 in_to to_within g.1).inside,
      );
  single = λ one other.
      let f = named fixes from.0 (omega arith) in
      let g = named fixes to.0 (omega arith) in
      is
      ∙ (λ k. greatest_chord (hull-single fixes from f.0 one (omega arith) f.1 k) (hull-single fixes to g.0 other (omega arith) g.1 k))
      ∙ greatest_chord-single f.0 g.0 ∙ sym (chord-is fixes from.0 to.0 f.0 g.0 f.1 g.1);
}

-- and the distance of the greatest chord is the most that they can be apart
pub leg-most : (fixes : List Fix) (from to : ℕ × ℕ) (square most : ℕ) → IsMost (chord fixes) from to square → most ≡ written_distance square → IsMost (leg fixes) from to most
unfolding leg
leg-most fixes from to square most chords is = record {
  at_most = λ i j in_from in_to. omega (arith, is, written_distance-mono (chord fixes i j) square (chords.at_most i j in_from in_to));
  single = λ one other. is ∙ ap written_distance (chords.single one other);
}

-- the altitudes of a hull hold those of its places, and a single place has no other
pub altitude-between : (fixes : List Fix) (span : ℕ × ℕ) (place : ℕ) → IsPlaceOf span place → span.1 < length fixes → IsBetween (hull_at fixes span).alt (altitude_at fixes place)
altitude-between fixes span place inside within =
    let f = named fixes place (omega (arith, inside.1)) in
    subst (IsBetween (hull_at fixes span).alt) (sym (altitude-is fixes place f.0 f.1)) (held fixes span place f.0 inside within f.1).altitude

pub altitude-single : (fixes : List Fix) (span : ℕ × ℕ) → span.0 ≡ span.1 → span.1 < length fixes → (hull_at fixes span).alt ≡ (altitude_at fixes span.0, altitude_at fixes span.0)
altitude-single fixes span same within =
    let f = named fixes span.0 (omega arith) in
    ap (λ (box : Box). box.alt) (hull-single fixes span f.0 same (omega arith) f.1) ∙ ap (λ (z : ℤ). (z, z)) (sym (altitude-is fixes span.0 f.0 f.1))

chord_of-limited : (from to : Option Fix) → chord_of from to ≤ 4870756920000000000
chord_of-limited None to = omega arith
chord_of-limited (Some f) None = omega arith
chord_of-limited (Some f) (Some g) = squared_chord-bound f.at g.at

pub chord-limited : (fixes : List Fix) (i j : ℕ) → chord fixes i j ≤ 4870756920000000000
unfolding chord
chord-limited fixes i j = chord_of-limited (slice_get fixes i) (slice_get fixes j)

-- no distance is greater than half the way round the sphere
pub leg-limited : (fixes : List Fix) (i j : ℕ) → leg fixes i j ≤ 7460377693
unfolding leg chord
leg-limited fixes i j = written_distance-bound (chord fixes i j) (chord_of-limited (slice_get fixes i) (slice_get fixes j))
