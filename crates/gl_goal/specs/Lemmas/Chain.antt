-- What the boxes of a chain say of the fixes in them.
use Rattle.std.proofs.Common.{◌≡◌, ◌∙◌, sym, ap, refl, subst, ℕ, zero, suc, ◌+◌, ◌*◌, ◌<◌, ◌≤◌, List, [], ◌∷◌, length, map, take, get_or, Some, slice_get, ℤ, ◌-ℤ◌, arith, ◌++◌}
use Rattle.std.specs.Prelude.{All, unsigned_abs}
use Rattle.std.specs.List.{AllZip, cons_option}
use Rattle.std.proofs.lemmas.Int.{ints}
use Rattle.std.proofs.lemmas.List.{length-map}
use Rattle.std.proofs.lemmas.Option.{get_or_from_slice_get}
use Rattle.gl_sphere.proofs.Arcs.{written_distance-bound, written_distance-mono}
use Rattle.gl_sphere.proofs.Chords.{squared_chord-bound}
use Rattle.gl_sphere.specs.declared.place.Vec3.{Vec3}
use Rattle.gl_sphere.specs.Distance.{squared_chord, squared_gap, written_distance, distance}
use Rattle.gl_igc.specs.declared.fix.Fix.{Fix}
use Rattle.gl_goal.specs.Lemmas.Spans.{fixes_in-single}
use Rattle.gl_goal.specs.Box.{Box, IsInside, fixes_in, hull_of, point_box}
use Rattle.gl_goal.specs.Chords.{greatest_chord, least_chord, reach, squared}
use Rattle.gl_goal.specs.Lemmas.ChordBounds.{gap-at, squared_chord-at_least, squared_chord-at_most}
pub use Rattle.gl_goal.specs.Lemmas.Held.{IsHeld, fix_box, hull_of-holds, hull_of-single, named, point_box-inside}
use Rattle.gl_box.specs.Cell.{Covers, Holds, point}
use Rattle.gl_box.proofs.Held.{holds_parts}
use Rattle.gl_goal.specs.Goal.{IsTuple, chosen, whole_cell}
use Rattle.gl_goal.specs.Lemmas.Points.{length-chosen}
use Rattle.gl_goal.specs.Lists.{AreNamed}
use Rattle.gl_goal.specs.Chain.{fixes_at, greatest_distance, greatest_legs, hulls_of, last_of, legs, points_of, least_distance}
use Rattle.std.proofs.lemmas.List.Elements.{All-tail}

-- no legs are longer than the greatest ones from box to box
pub legs-at_most : (boxes : List Box) (points : List Vec3) → AllZip IsInside boxes points
    → legs points ≤ greatest_legs boxes
legs-at_most [] [] inside = omega arith
legs-at_most [] (p ∷ ps) inside = absurd inside
legs-at_most (b ∷ bs) [] inside = absurd inside
legs-at_most (b ∷ []) (p ∷ []) inside = omega arith
legs-at_most (b ∷ []) (p ∷ q ∷ ps) inside = absurd inside.1
legs-at_most (b ∷ d ∷ bs) (p ∷ []) inside = absurd inside.1
legs-at_most (b ∷ d ∷ bs) (p ∷ q ∷ ps) inside =
    omega (
      arith,
      written_distance-mono _ _ (squared_chord-at_most b d p q inside.0 inside.1.0),
      legs-at_most (d ∷ bs) (q ∷ ps) inside.1,
    )

-- the greatest distance that two points can have
pub distance-bound : (a b : Vec3) → distance a b ≤ 7460377693
distance-bound a b = written_distance-bound (squared_chord a b) (squared_chord-bound a b)

-- what the legs can be worth
pub legs-limited : (points : List Vec3) → legs points ≤ 7460377693 * length points
legs-limited [] = omega arith
legs-limited (a ∷ []) = omega arith
legs-limited (a ∷ b ∷ points) = omega (arith, distance-bound a b, legs-limited (b ∷ points))

next_named : (fixes : List Fix) (number : ℕ) (numbers : List ℕ) → AreNamed fixes (number ∷ numbers)
    → AreNamed fixes numbers
next_named fixes number numbers all k d below = all (suc k) d (omega arith)

pub fixes_at-cons : (fixes : List Fix) (number : ℕ) (numbers : List ℕ) (fix : Fix)
    → slice_get fixes number ≡ Some fix
    → fixes_at fixes (number ∷ numbers) ≡ fix ∷ fixes_at fixes numbers
fixes_at-cons fixes number numbers fix is =
    ap (λ found. cons_option found (fixes_at fixes numbers)) is

pub length-fixes_at : (fixes : List Fix) (numbers : List ℕ) → AreNamed fixes numbers
    → length (fixes_at fixes numbers) ≡ length numbers
length-fixes_at fixes [] all = refl
length-fixes_at fixes (number ∷ numbers) all =
    let fix = named fixes number (all 0 0 (omega arith)) in
    ap length (fixes_at-cons fixes number numbers fix.0 fix.1)
    ∙ ap suc (length-fixes_at fixes numbers (next_named fixes number numbers all))

-- the fix at a place of a list of numbers
pub get_or-fixes_at : (fixes : List Fix) (numbers : List ℕ) (place : ℕ) (d : Fix)
    → AreNamed fixes numbers → place < length numbers
    → get_or (fixes_at fixes numbers) place d ≡ get_or fixes (get_or numbers place 0) d
get_or-fixes_at fixes [] place d all below = absurd (omega arith)
get_or-fixes_at fixes (number ∷ numbers) zero d all below =
    let fix = named fixes number (all 0 0 (omega arith)) in
    ap (λ fs. get_or fs 0 d) (fixes_at-cons fixes number numbers fix.0 fix.1)
    ∙ sym (get_or_from_slice_get fixes number fix.0 d fix.1)
get_or-fixes_at fixes (number ∷ numbers) (suc place) d all below =
    let fix = named fixes number (all 0 0 (omega arith)) in
    ap (λ fs. get_or fs (suc place) d) (fixes_at-cons fixes number numbers fix.0 fix.1)
    ∙ get_or-fixes_at fixes numbers place d (next_named fixes number numbers all) (omega arith)

-- the fixes that a tuple chooses are named
pub chosen-named : (fixes : List Fix) (axes : List (List ℕ)) (tuple : List ℕ)
    → All (AreNamed fixes) axes → IsTuple axes tuple → AreNamed fixes (chosen axes tuple)
chosen-named fixes [] tuple all fits k d below = absurd (omega arith)
chosen-named fixes (axis ∷ axes) [] all fits k d below = absurd fits
chosen-named fixes (axis ∷ axes) (place ∷ places) all fits zero d below =
    all 0 [] (omega arith) place 0 fits.0
chosen-named fixes (axis ∷ axes) (place ∷ places) all fits (suc k) d below =
    chosen-named fixes axes places (λ j e inside. all (suc j) e (omega arith)) fits.1 k d
    (omega arith)

-- the fix of an axis and a place there
pub named_at : (fixes : List Fix) (axis : List ℕ) (place : ℕ) → AreNamed fixes axis
    → place < length axis → (fix : Fix) × (slice_get fixes (get_or axis place 0) ≡ Some fix)
    × (get_or (fixes_at fixes axis) place fix ≡ fix)
named_at fixes axis place all below =
    let fix = named fixes (get_or axis place 0) (all place 0 below) in (
      fix.0,
      fix.1,
      get_or-fixes_at fixes axis place fix.0 all below
          ∙ get_or_from_slice_get fixes (get_or axis place 0) fix.0 fix.0 fix.1,
    )

-- the hulls of a cell hold the fixes of each tuple in it
pub hulls_of-hold : (fixes : List Fix) (axes : List (List ℕ)) (cell : List (ℕ × ℕ)) (tuple : List ℕ)
    → All (AreNamed fixes) axes → Covers (whole_cell axes) cell → Holds cell tuple
    → IsTuple axes tuple → AllZip IsHeld (hulls_of fixes axes cell)
    (fixes_at fixes (chosen axes tuple))
hulls_of-hold fixes [] [] [] all covers held fits = tt
hulls_of-hold fixes [] [] (place ∷ places) all covers held fits = absurd fits
hulls_of-hold fixes [] (span ∷ spans) tuple all covers held fits = absurd covers
hulls_of-hold fixes (axis ∷ axes) [] tuple all covers held fits = absurd covers
hulls_of-hold fixes (axis ∷ axes) (span ∷ spans) [] all covers held fits = absurd fits
hulls_of-hold fixes (axis ∷ axes) (span ∷ spans) (place ∷ places) all covers held fits =
    let parts = holds_parts span spans place places held in
    let here = all 0 [] (omega arith) in
    let fix = named_at fixes axis place here fits.0 in
    let one : IsHeld (hull_of (fixes_in (fixes_at fixes axis) span)) fix.0 =
    hull_of-holds (fixes_at fixes axis) span place fix.0 parts.0 parts.1
    (omega (arith, length-fixes_at fixes axis here, covers.1, fits.0)) fix.2 in
    let rest = hulls_of-hold fixes axes spans places
    (All-tail (AreNamed fixes) axis axes all) covers.2 parts.2 fits.1 in
    let P : List Fix → Type 0 = AllZip IsHeld (hulls_of fixes (axis ∷ axes) (span ∷ spans)) in
    subst P (sym (fixes_at-cons fixes (get_or axis place 0) (chosen axes places) fix.0 fix.1))
    (one, rest)

-- boxes that hold fixes hold their points
pub points-inside : (boxes : List Box) (fixes : List Fix) → AllZip IsHeld boxes fixes
    → AllZip IsInside boxes (points_of fixes)
points-inside [] [] held = tt
points-inside [] (fix ∷ fixes) held = absurd held
points-inside (box ∷ boxes) [] held = absurd held
points-inside (box ∷ boxes) (fix ∷ fixes) held = (held.0.inside, points-inside boxes fixes held.1)

-- the hulls of a single tuple are the boxes of its fixes
pub hulls_of-point : (fixes : List Fix) (axes : List (List ℕ)) (tuple : List ℕ)
    → All (AreNamed fixes) axes → IsTuple axes tuple
    → hulls_of fixes axes (point tuple) ≡ map fix_box (fixes_at fixes (chosen axes tuple))
hulls_of-point fixes [] [] all fits = refl
hulls_of-point fixes [] (place ∷ places) all fits = absurd fits
hulls_of-point fixes (axis ∷ axes) [] all fits = absurd fits
hulls_of-point fixes (axis ∷ axes) (place ∷ places) all fits =
    let here = all 0 [] (omega arith) in
    let fix = named_at fixes axis place here fits.0 in
    let one : hull_of (fixes_in (fixes_at fixes axis) (place, place)) ≡ fix_box fix.0 =
    ap hull_of (fixes_in-single (fixes_at fixes axis) place fix.0
    (omega (arith, length-fixes_at fixes axis here, fits.0)) ∙ ap (λ f. f ∷ []) fix.2)
    ∙ hull_of-single fix.0 in
    let rest = hulls_of-point fixes axes places (All-tail (AreNamed fixes) axis axes all) fits.1 in
    ap (λ box. box ∷ hulls_of fixes axes (point places)) one
    ∙ ap (λ boxes. fix_box fix.0 ∷ boxes) rest
    ∙ sym (ap (map fix_box) (fixes_at-cons fixes (get_or axis place 0)
    (chosen axes places) fix.0 fix.1))

-- a box is that of a single point, at any altitude
pub record IsAt (box : Box) (at : Vec3) : Type 0 where
  pub x : box.x ≡ (at.x, at.x)
  pub y : box.y ≡ (at.y, at.y)
  pub z : box.z ≡ (at.z, at.z)

pub point_box-at : (at : Vec3) → IsAt (point_box at) at
point_box-at at = record { x = refl; y = refl; z = refl }

pub fix_boxes-at : (fixes : List Fix) → AllZip IsAt (map fix_box fixes) (points_of fixes)
fix_boxes-at [] = tt
fix_boxes-at (fix ∷ fixes) = (record { x = refl; y = refl; z = refl }, fix_boxes-at fixes)

reach-at : (a b : ℤ) (one other : ℤ × ℤ) → one ≡ (a, a) → other ≡ (b, b)
    → squared (reach one other) ≡ squared_gap a b
unfolding reach squared_gap
reach-at a b one other one_is other_is =
    let same : reach (a, a) (b, b) ≡ unsigned_abs (a -ℤ b) = omega (arith, ints) in
    (λ i. squared (reach (one_is i) (other_is i))) ∙ ap squared same

greatest_chord-at : (a b : Box) (p q : Vec3) → IsAt a p → IsAt b q
    → greatest_chord a b ≡ squared_chord p q
unfolding greatest_chord squared_chord
greatest_chord-at a b p q h k =
    let x = reach-at p.x q.x a.x b.x h.x k.x in
    let y = reach-at p.y q.y a.y b.y h.y k.y in
    let z = reach-at p.z q.z a.z b.z h.z k.z in
    cc

-- the greatest legs of single points are their legs
pub greatest_legs-at : (boxes : List Box) (points : List Vec3) → AllZip IsAt boxes points
    → greatest_legs boxes ≡ legs points
greatest_legs-at [] [] at = refl
greatest_legs-at [] (p ∷ ps) at = absurd at
greatest_legs-at (b ∷ bs) [] at = absurd at
greatest_legs-at (b ∷ []) (p ∷ []) at = refl
greatest_legs-at (b ∷ []) (p ∷ q ∷ ps) at = absurd at.1
greatest_legs-at (b ∷ d ∷ bs) (p ∷ []) at = absurd at.1
greatest_legs-at (b ∷ d ∷ bs) (p ∷ q ∷ ps) at =
    ap (λ n. written_distance n + greatest_legs (d ∷ bs)) (greatest_chord-at b d p q at.0 at.1.0)
    ∙ ap (λ n. distance p q + n) (greatest_legs-at (d ∷ bs) (q ∷ ps) at.1)

pub greatest_legs-point : (fixes : List Fix)
    → greatest_legs (map fix_box fixes) ≡ legs (points_of fixes)
greatest_legs-point fixes = greatest_legs-at (map fix_box fixes) (points_of fixes)
    (fix_boxes-at fixes)

-- no distance is less than the least one of the boxes, and it is that of single points
pub distance-at_least : (a b : Box) (p q : Vec3) → IsInside a p → IsInside b q
    → least_distance a b ≤ distance p q
distance-at_least a b p q h k =
    written_distance-mono (least_chord a b) (squared_chord p q) (squared_chord-at_least a b p q h k)

pub least_distance-at : (a b : Box) (p q : Vec3) → IsAt a p → IsAt b q
    → least_distance a b ≡ distance p q
unfolding least_chord squared_chord
least_distance-at a b p q h k =
    let x = gap-at p.x q.x a.x b.x h.x k.x in
    let y = gap-at p.y q.y a.y b.y h.y k.y in
    let z = gap-at p.z q.z a.z b.z h.z k.z in
    let same : least_chord a b ≡ squared_chord p q = cc in
    ap written_distance same

pub greatest_distance-at : (a b : Box) (p q : Vec3) → IsAt a p → IsAt b q
    → greatest_distance a b ≡ distance p q
greatest_distance-at a b p q h k = ap written_distance (greatest_chord-at a b p q h k)

pub distance-at_most : (a b : Box) (p q : Vec3) → IsInside a p → IsInside b q
    → distance p q ≤ greatest_distance a b
distance-at_most a b p q h k = written_distance-mono _ _ (squared_chord-at_most a b p q h k)

-- a chain that goes on to one point more is longer by the leg to it
pub legs-last : (a : Vec3) (points : List Vec3) (next : Vec3)
    → legs (a ∷ points ++ next ∷ []) ≡ legs (a ∷ points) + distance (last_of a points) next
legs-last a [] next = omega arith
legs-last a (b ∷ points) next = omega (arith, legs-last b points next)

pub greatest_legs-last : (a : Box) (boxes : List Box) (next : Box)
    → greatest_legs (a ∷ boxes ++ next ∷ [])
    ≡ greatest_legs (a ∷ boxes) + greatest_distance (last_of a boxes) next
greatest_legs-last a [] next = omega arith
greatest_legs-last a (b ∷ boxes) next = omega (arith, greatest_legs-last b boxes next)

-- what holds along two chains holds of their ends
pub AllZip-end : {A B : Type 0} (R : A → B → Type 0) (x : A) (xs : List A) (y : B) (ys : List B)
    → R x y → AllZip R xs ys → R (last_of x xs) (last_of y ys)
AllZip-end R x [] y [] first all = first
AllZip-end R x [] y (q ∷ ys) first all = absurd all
AllZip-end R x (p ∷ xs) y [] first all = absurd all
AllZip-end R x (p ∷ xs) y (q ∷ ys) first all = AllZip-end R p xs q ys all.0 all.1

-- and of their first links
pub AllZip-take : {A B : Type 0} (R : A → B → Type 0) (n : ℕ) (xs : List A) (ys : List B)
    → AllZip R xs ys → AllZip R (take n xs) (take n ys)
AllZip-take R zero xs ys all = tt
AllZip-take R (suc n) [] [] all = tt
AllZip-take R (suc n) [] (q ∷ ys) all = absurd all
AllZip-take R (suc n) (p ∷ xs) [] all = absurd all
AllZip-take R (suc n) (p ∷ xs) (q ∷ ys) all = (all.0, AllZip-take R n xs ys all.1)

-- the number of points that a tuple chooses
pub length-points : (fixes : List Fix) (axes : List (List ℕ)) (tuple : List ℕ)
    → All (AreNamed fixes) axes → IsTuple axes tuple
    → length (points_of (fixes_at fixes (chosen axes tuple))) ≡ length axes
length-points fixes axes tuple all fits =
    length-map (fixes_at fixes (chosen axes tuple)) (λ (fix : Fix). fix.at)
    ∙ length-fixes_at fixes (chosen axes tuple) (chosen-named fixes axes tuple all fits)
    ∙ length-chosen axes tuple fits
