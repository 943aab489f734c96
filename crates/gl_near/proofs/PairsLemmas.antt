-- A cell that is closed by time has no pair that fits, and no pair of a cell is nearer than its
-- hulls; a single pair that isn't closed by time fits, and is just as near as its hulls.
use Rattle.std.proofs.Common.{◌≡◌, ◌∙◌, sym, ap, refl, ℕ, zero, suc, ◌-◌, ◌<◌, ◌≤◌, inl, inr, List, [], ◌∷◌, length, Some, slice_get, ℤ, pos, ◌-ℤ◌, ◌≤ℤ◌, ◌<ℤ◌, arith}
use Rattle.std.specs.Prelude.{◌⊎◌, unsigned_abs}
use Rattle.std.proofs.lemmas.Bool.{cases_lt}
use Rattle.std.specs.Int.{int_max}
use Rattle.std.proofs.lemmas.Int.{int_max_is, ints}
use Rattle.std.proofs.lemmas.Option.{get_or_from_slice_get}
use Rattle.gl_sphere.proofs.Arcs.{written_distance-mono}
use Rattle.gl_sphere.specs.declared.place.Vec3.{Vec3}
use Rattle.gl_sphere.specs.Distance.{squared_chord, written_distance, distance}
use Rattle.gl_igc.specs.declared.fix.Fix.{Fix}
use Rattle.gl_igc.proofs.SecondsLemmas.{later}
use Rattle.gl_goal.specs.Box.{Box, IsInside, fixes_in, hull_of, point_box}
use Rattle.gl_goal.specs.Chords.{least_chord}
use Rattle.gl_goal.specs.Lemmas.Spans.{fixes_in-single}
use Rattle.gl_goal.specs.Lemmas.ChordBounds.{gap-at, squared_chord-at_least}
use Rattle.gl_goal.specs.Lemmas.Held.{fix_box, hull_of-holds, hull_of-single, named, point_box-inside}
use Rattle.gl_box.specs.Cell.{Covers, Holds, point}
use Rattle.gl_box.specs.Halves.{span_at}
use Rattle.gl_box.proofs.Held.{covers_at, holds_at, holds_whole, length-covers}
use Rattle.gl_near.specs.Pairing.{AreApart, AreFixesAt, AreRising, Fits, IsAfter, IsApart, IsPairing, IsReached, Pairing, flights, least, least_distance, place, whole_cell}

pub slice_get_below : (fixes : List Fix) (k : ℕ) (fix : Fix) → slice_get fixes k ≡ Some fix → k < length fixes
slice_get_below [] k fix there = absurd (cc)
slice_get_below (f ∷ fs) zero fix there = omega arith
slice_get_below (f ∷ fs) (suc k) fix there = omega (arith, slice_get_below fs k fix there)

-- two fixes that a number names are the same
pub same_fix : (fixes : List Fix) (k : ℕ) (a b : Fix) → slice_get fixes k ≡ Some a → slice_get fixes k ≡ Some b → a ≡ b
same_fix fixes k a b one other = let both : Some a ≡ Some b = sym one ∙ other in cc

not_earlier : (fixes : List Fix) (i j : ℕ) (a b : Fix) → AreRising fixes → i ≤ j → slice_get fixes i ≡ Some a → slice_get fixes j ≡ Some b → a.second ≤ℤ b.second
not_earlier fixes i j a b rising order first second =
    elim (cases_lt i j) [
      | inl less ↦ omega (arith, ints, later fixes i j a b rising less first second)
      | inr not_less ↦
          let at : i ≡ j = omega arith in
          let same = same_fix fixes j a b (ap (λ k. slice_get fixes k) (sym at) ∙ first) second in
          omega (arith, ints, ap (λ (fix : Fix). fix.second) same)
    ]

-- where fixes are apart in time, a later one of the one and an earlier one of the other are too
after_wider : (one other : List Fix) (apart first second i j : ℕ) (a b : Fix) → AreRising one → AreRising other → IsAfter one other apart first second → first ≤ i → j ≤ second
    → slice_get one i ≡ Some a → slice_get other j ≡ Some b → pos apart <ℤ (a.second -ℤ b.second)
after_wider one other apart first second i j a b rising others after low high there other_there =
    omega (arith, ints, after.after, not_earlier one first i after.fix a rising low after.there there, not_earlier other j second b after.other_fix others high other_there after.other_there)

too_far : (apart : ℕ) (s t : ℤ) → pos apart <ℤ (s -ℤ t) → unsigned_abs (s -ℤ t) ≤ apart → ⊥
too_far apart s t after near = omega (arith, ints)

too_far_back : (apart : ℕ) (s t : ℤ) → pos apart <ℤ (t -ℤ s) → unsigned_abs (s -ℤ t) ≤ apart → ⊥
too_far_back apart s t after near = omega (arith, ints)

-- a cell that is closed by time has no pair that fits
pub apart_none : (pairing : Pairing) (cell : List (ℕ × ℕ)) (first second : ℕ) → IsPairing pairing → Covers (whole_cell pairing) cell → IsApart pairing cell → Holds cell (first ∷ second ∷ [])
    → Fits pairing first second → ⊥
apart_none (flights one other apart) cell first second is covers (inl after) held fits =
    let long = length-covers (whole_cell (flights one other apart)) cell covers in
    let a = holds_at cell (first ∷ second ∷ []) 0 held (omega (arith, long)) in
    let b = holds_at cell (first ∷ second ∷ []) 1 held (omega (arith, long)) in
    too_far apart fits.1.fix.second fits.1.other_fix.second (after_wider one other apart _ _ first second fits.1.fix fits.1.other_fix is.rising is.others_rising after a.0 b.1 fits.1.there
    fits.1.other_there) fits.1.near_in_time
apart_none (flights one other apart) cell first second is covers (inr after) held fits =
    let long = length-covers (whole_cell (flights one other apart)) cell covers in
    let a = holds_at cell (first ∷ second ∷ []) 0 held (omega (arith, long)) in
    let b = holds_at cell (first ∷ second ∷ []) 1 held (omega (arith, long)) in
    too_far_back apart fits.1.fix.second fits.1.other_fix.second (after_wider other one apart _ _ second first fits.1.other_fix fits.1.fix is.others_rising is.rising after b.0 a.1 fits.1.other_there
    fits.1.there) fits.1.near_in_time
apart_none (place flight point) cell first second is covers apart held fits = absurd apart

-- the hull of a span holds the point of each fix of the span
held_point : (fixes : List Fix) (span : ℕ × ℕ) (k : ℕ) (fix : Fix) → span.0 ≤ k → k ≤ span.1 → span.1 < length fixes → slice_get fixes k ≡ Some fix → IsInside (hull_of (fixes_in fixes span)) fix.at
held_point fixes span k fix low high within there =
    (hull_of-holds fixes span k fix low high within (get_or_from_slice_get fixes k fix fix there)).inside

distance-at_least : (a b : Box) (p q : Vec3) → IsInside a p → IsInside b q → least_distance a b ≤ distance p q
distance-at_least a b p q h k = written_distance-mono (least_chord a b) (squared_chord p q) (squared_chord-at_least a b p q h k)

-- no pair of a cell is nearer than its hulls
pub least_within : (pairing : Pairing) (cell : List (ℕ × ℕ)) (total first second : ℕ) → IsPairing pairing → Covers (whole_cell pairing) cell → Holds cell (first ∷ second ∷ [])
    → IsReached pairing total first second → least pairing cell ≤ total
least_within (flights one other apart) cell total first second is covers held reached =
    let whole = whole_cell (flights one other apart) in
    let long = length-covers whole cell covers in
    let a = holds_at cell (first ∷ second ∷ []) 0 held (omega (arith, long)) in
    let b = holds_at cell (first ∷ second ∷ []) 1 held (omega (arith, long)) in
    let within = covers_at whole cell 0 covers (omega arith) in
    let within_other = covers_at whole cell 1 covers (omega arith) in
    let near = distance-at_least _ _ reached.fix.at reached.other_fix.at
    (held_point one (span_at cell 0) first reached.fix a.0 a.1 (omega (arith, within.1, is.some_fix)) reached.there)
    (held_point other (span_at cell 1) second reached.other_fix b.0 b.1 (omega (arith, within_other.1, is.some_other)) reached.other_there) in
    omega (arith, near, reached.is)
least_within (place flight point) cell total first second is covers held reached =
    let whole = whole_cell (place flight point) in
    let long = length-covers whole cell covers in
    let a = holds_at cell (first ∷ second ∷ []) 0 held (omega (arith, long)) in
    let within = covers_at whole cell 0 covers (omega arith) in
    let near = distance-at_least _ _ reached.fix.at point
    (held_point flight (span_at cell 0) first reached.fix a.0 a.1 (omega (arith, within.1, is)) reached.there)
    (point_box-inside point) in
    omega (arith, near, reached.is)

-- the hull of a single fix is its point
single_hull : (fixes : List Fix) (k : ℕ) (fix : Fix) → k < length fixes → slice_get fixes k ≡ Some fix → hull_of (fixes_in fixes (k, k)) ≡ fix_box fix
single_hull fixes k fix below there =
    ap hull_of (fixes_in-single fixes k fix below ∙ ap (λ f. f ∷ []) (get_or_from_slice_get fixes k fix fix there)) ∙ hull_of-single fix

least_chord-fixes : (a b : Fix) → least_chord (fix_box a) (fix_box b) ≡ squared_chord a.at b.at
unfolding least_chord squared_chord
least_chord-fixes a b =
    let x = gap-at a.at.x b.at.x _ _ refl refl in
    let y = gap-at a.at.y b.at.y _ _ refl refl in
    let z = gap-at a.at.z b.at.z _ _ refl refl in
    cc

least_chord-place : (a : Fix) (at : Vec3) → least_chord (fix_box a) (point_box at) ≡ squared_chord a.at at
unfolding least_chord squared_chord
least_chord-place a at =
    let x = gap-at a.at.x at.x _ _ refl refl in
    let y = gap-at a.at.y at.y _ _ refl refl in
    let z = gap-at a.at.z at.z _ _ refl refl in
    cc

-- by how much one number is above another, 0 where it isn't
over : ℤ → ℤ → ℕ
over d limit = unsigned_abs (int_max (d -ℤ limit) (pos 0))

over_some : (d : ℤ) (apart : ℕ) → 0 < over d (pos apart) → pos apart <ℤ d
unfolding over
over_some d apart some = omega (arith, ints, int_max_is (d -ℤ pos apart) (pos 0))

over_none : (d : ℤ) (apart : ℕ) → over d (pos apart) ≤ 0 → d ≤ℤ pos apart
unfolding over
over_none d apart none = omega (arith, ints, int_max_is (d -ℤ pos apart) (pos 0))

near_both : (apart : ℕ) (s t : ℤ) → (s -ℤ t) ≤ℤ pos apart → (t -ℤ s) ≤ℤ pos apart → unsigned_abs (s -ℤ t) ≤ apart
near_both apart s t one other = omega (arith, ints)

near_or_after : (apart : ℕ) (s t : ℤ) → (unsigned_abs (s -ℤ t) ≤ apart) ⊎ ((pos apart <ℤ (s -ℤ t)) ⊎ (pos apart <ℤ (t -ℤ s)))
near_or_after apart s t =
    elim (cases_lt 0 (over (s -ℤ t) (pos apart))) [
      | inl some ↦ inr (inl (over_some (s -ℤ t) apart some))
      | inr none ↦ elim (cases_lt 0 (over (t -ℤ s) (pos apart))) [
        | inl some ↦ inr (inr (over_some (t -ℤ s) apart some))
        | inr none_back ↦ inl (near_both apart s t (over_none (s -ℤ t) apart none) (over_none (t -ℤ s) apart none_back))
      ]
    ]

-- two points have no other distance than their own
pub least_distance-points : (p q : Vec3) → least_distance (point_box p) (point_box q) ≡ distance p q
unfolding least_chord squared_chord
least_distance-points p q =
    let x = gap-at p.x q.x _ _ refl refl in
    let y = gap-at p.y q.y _ _ refl refl in
    let z = gap-at p.z q.z _ _ refl refl in
    let same : least_chord (point_box p) (point_box q) ≡ squared_chord p q = cc in
    ap written_distance same

-- fixes of which neither is too long after the other are near in time
pub together_near : (one other : List Fix) (apart first second : ℕ) (a b : Fix) → slice_get one first ≡ Some a → slice_get other second ≡ Some b → (IsAfter one other apart first second → ⊥)
    → (IsAfter other one apart second first → ⊥) → unsigned_abs (a.second -ℤ b.second) ≤ apart
together_near one other apart first second a b there other_there not_one not_other =
    elim (near_or_after apart a.second b.second) [
      | inl near ↦ near
      | inr (inl after) ↦ absurd (not_one (record { fix = a; other_fix = b; there = there; other_there = other_there; after = after }))
      | inr (inr after) ↦ absurd (not_other (record { fix = b; other_fix = a; there = other_there; other_there = there; after = after }))
    ]

-- whether a fix is after another is told by their seconds
pub after_seconds : (one other : List Fix) (apart first second : ℕ) (a b : Fix) → slice_get one first ≡ Some a → slice_get other second ≡ Some b → IsAfter one other apart first second
    → pos apart <ℤ (a.second -ℤ b.second)
after_seconds one other apart first second a b there other_there after =
    let same = same_fix one first after.fix a after.there there in
    let same_other = same_fix other second after.other_fix b after.other_there other_there in
    omega (arith, ints, after.after, ap (λ (fix : Fix). fix.second) same, ap (λ (fix : Fix). fix.second) same_other)

-- a pair of two flights that isn't closed by time fits
fixes_reached : (one other : List Fix) (apart first second : ℕ) (a b : Fix) → first < length one → second < length other → slice_get one first ≡ Some a → slice_get other second ≡ Some b
    → (AreApart one other apart (first, first) (second, second) → ⊥) → AreFixesAt one other apart
    (least_distance (hull_of (fixes_in one (first, first))) (hull_of (fixes_in other (second, second)))) first second
fixes_reached one other apart first second a b below other_below there other_there together =
    record {
      fix = a;
      other_fix = b;
      there = there;
      other_there = other_there;
      near_in_time = together_near one other apart first second a b there other_there (λ after. together (inl after)) (λ after. together (inr after));
      is = ap written_distance (sym (least_chord-fixes a b))
          ∙ (λ i. least_distance (sym (single_hull one first a below there) i) (sym (single_hull other second b other_below other_there) i));
    }

-- a single pair that isn't closed by time fits, and its distance is that of its hulls
pub single_reached : (pairing : Pairing) (first second : ℕ) → IsPairing pairing → Covers (whole_cell pairing) (point (first ∷ second ∷ [])) → (IsApart pairing (point (first ∷ second ∷ [])) → ⊥)
    → IsReached pairing (least pairing (point (first ∷ second ∷ []))) first second
single_reached (flights one other apart) first second is covers together =
    let below : first < length one = omega (arith, covers.1, is.some_fix) in
    let other_below : second < length other = omega (arith, covers.2.1, is.some_other) in
    let a = named one first below in
    let b = named other second other_below in
    fixes_reached one other apart first second a.0 b.0 below other_below a.1 b.1 together
single_reached (place flight at) first second is covers together =
    let below : first < length flight = omega (arith, covers.1, is) in
    let a = named flight first below in
    record {
      fix = a.0;
      there = a.1;
      only = omega (arith, covers.2.1);
      is = ap written_distance (sym (least_chord-place a.0 at)) ∙ (λ i. least_distance (sym (single_hull flight first a.0 below a.1) i) (point_box at));
    }

-- a pair has one distance
pub reached_once : (pairing : Pairing) (total other first second : ℕ) → IsReached pairing total first second → IsReached pairing other first second → total ≡ other
reached_once (flights one others apart) total other first second a b =
    let same = same_fix one first a.fix b.fix a.there b.there in
    let same_other = same_fix others second a.other_fix b.other_fix a.other_there b.other_there in
    sym a.is ∙ (λ i. distance (same i).at (same_other i).at) ∙ b.is
reached_once (place flight point) total other first second a b =
    let same = same_fix flight first a.fix b.fix a.there b.there in
    sym a.is ∙ ap (λ (fix : Fix). distance fix.at point) same ∙ b.is

-- where there is a pair it lies in the whole cell
pub reached_held : (pairing : Pairing) (total first second : ℕ) → IsPairing pairing → IsReached pairing total first second → Holds (whole_cell pairing) (first ∷ second ∷ [])
reached_held (flights one other apart) total first second is reached =
    let below = slice_get_below one first reached.fix reached.there in
    let other_below = slice_get_below other second reached.other_fix reached.other_there in
    holds_whole (0, length one - 1) ((0, length other - 1) ∷ []) first (second ∷ []) (omega arith) (omega arith) (holds_whole (0, length other - 1) [] second [] (omega arith) (omega arith) refl)
reached_held (place flight point) total first second is reached =
    let below = slice_get_below flight first reached.fix reached.there in
    holds_whole (0, length flight - 1) ((0, 0) ∷ []) first (second ∷ []) (omega arith) (omega arith) (holds_whole (0, 0) [] second [] (omega arith) (omega (arith, reached.only)) refl)
