-- Seconds that are moved one by one.
use Rattle.std.proofs.Common.{◌≡◌, ◌∙◌, sym, ap, subst, ℕ, ◌+◌, ◌<◌, List, [], ◌∷◌, length, map, get_or, set, take, drop, arith, refl, ℤ, pos, ◌≤ℤ◌, ◌<ℤ◌, ◌+ℤ◌, to_z, of_z, w32, length-drop}
use Rattle.std.specs.Prelude.{option_map, neg_ℤ}
use Rattle.std.proofs.lemmas.Int.{ints, to_z-of_z}
use Rattle.std.proofs.lemmas.List.{map-append, drop_more, take_more, take_more_set, drop-set-lt}
use Rattle.std.proofs.lemmas.Grind.{drop_more_same}
use Rattle.std.proofs.lemmas.Option.{slice_get-get_or, slice_get-map}
use Rattle.gl_sphere.specs.Range.{IsWithin}
use Rattle.gl_igc.specs.Columns.{day}
use Rattle.gl_igc.specs.Code.Parts.{shifted}
use Rattle.gl_igc.specs.Recording.{sighting_of}
use Rattle.gl_igc.specs.Code.Seconds.{AreBelow}
use Rattle.gl_igc.specs.declared.fix.Fix.{Fix}

-- a small number is what its 32 bits say
pub plain : (x : ℤ) → neg_ℤ (pos 1_000_000) ≤ℤ x → x ≤ℤ pos 1_000_000 → to_z w32 (of_z w32 x) ≡ x
plain x low high = to_z-of_z w32 x (grind (arith, ints))

-- the items that are left are those of the list at first
pub left-within : {X : Type 0} (now old : List X) (i : ℕ) → drop i now ≡ drop i old → i < length now → i < length old
left-within now old i left within = omega (arith, ap length left, length-drop i now, length-drop i old)

pub left-item : {X : Type 0} (now old : List X) (i : ℕ) (d : X) → drop i now ≡ drop i old → i < length now → get_or now i d ≡ get_or old i d
left-item now old i d left within =
    let all : get_or now i d ∷ drop (i + 1) now ≡ get_or old i d ∷ drop (i + 1) old =
    sym (drop_more now i d within) ∙ left ∙ drop_more old i d (left-within now old i left within) in
    cc

pub left-more : {X : Type 0} (now old : List X) (i : ℕ) (v : X) → drop i now ≡ drop i old → drop (i + 1) (set now i v) ≡ drop (i + 1) old
left-more now old i v left = drop-set-lt (i + 1) now i v (omega arith) ∙ drop_more_same now old i left

pub moved-more : {X : Type 0} (f : X → X) (now old : List X) (i : ℕ) (v d : X) → take i now ≡ map f (take i old) → drop i now ≡ drop i old → i < length now → v ≡ f (get_or now i d)
    → take (i + 1) (set now i v) ≡ map f (take (i + 1) old)
moved-more f now old i v d moved left within is =
    let item : v ≡ f (get_or old i d) = is ∙ ap f (left-item now old i d left within) in
    take_more_set now i v within ∙ rw (moved, item) (sym (ap (map f) (take_more old i d (left-within now old i left within)) ∙ map-append f (take i old) (get_or old i d ∷ [])))

pub fix-more : (shift : ℤ) (now old : List Fix) (i : ℕ) (v d : Fix) → map sighting_of (take i now) ≡ map (shifted shift) (map sighting_of (take i old)) → drop i now ≡ drop i old → i < length now
    → sighting_of v ≡ shifted shift (sighting_of (get_or now i d)) → map sighting_of (take (i + 1) (set now i v)) ≡ map (shifted shift) (map sighting_of (take (i + 1) old))
fix-more shift now old i v d moved left within is =
    let item : sighting_of v ≡ shifted shift (sighting_of (get_or old i d)) = is ∙ ap (λ (fix : Fix). shifted shift (sighting_of fix)) (left-item now old i d left within) in
    let before = ap (map sighting_of) (take_more_set now i v within) ∙ map-append sighting_of (take i now) (v ∷ []) in
    let after = ap (λ (fixes : List Fix). map (shifted shift) (map sighting_of fixes)) (take_more old i d (left-within now old i left within))
    ∙ ap (map (shifted shift)) (map-append sighting_of (take i old) (get_or old i d ∷ [])) ∙ map-append (shifted shift) (map sighting_of (take i old)) (sighting_of (get_or old i d) ∷ []) in
    before ∙ rw (moved, item) refl ∙ sym after

-- a second that is left is in its range
pub second-below : (limit : ℕ) (now old : List ℤ) (i : ℕ) (d : ℤ) → AreBelow limit old → drop i now ≡ drop i old → i < length now → (pos 0 ≤ℤ get_or now i d) × (get_or now i d <ℤ pos limit)
second-below limit now old i d below left within =
    let there = slice_get-get_or old i d (left-within now old i left within) in
    let range = below i (get_or old i d) there in
    subst (λ (second : ℤ). (pos 0 ≤ℤ second) × (second <ℤ pos limit)) (sym (left-item now old i d left within)) range

pub fix-below : (limit : ℕ) (now old : List Fix) (i : ℕ) (d : Fix) → AreBelow limit (map (λ fix. fix.second) old) → drop i now ≡ drop i old → i < length now
    → (pos 0 ≤ℤ (get_or now i d).second) × ((get_or now i d).second <ℤ pos limit)
fix-below limit now old i d below left within =
    let there = slice_get-map (λ (fix : Fix). fix.second) old i ∙ ap (option_map (λ (fix : Fix). fix.second)) (slice_get-get_or old i d (left-within now old i left within)) in
    let range = below i (get_or old i d).second there in
    subst (λ (fix : Fix). (pos 0 ≤ℤ fix.second) × (fix.second <ℤ pos limit)) (sym (left-item now old i d left within)) range

-- a moved second is what its 32 bits say
pub moved-is : (result item shift : ℤ) → result ≡ to_z w32 (of_z w32 item) +ℤ to_z w32 (of_z w32 shift) → (pos 0 ≤ℤ item) × (item <ℤ pos 500_000) → IsWithin day shift
    → to_z w32 (of_z w32 result) ≡ item +ℤ to_z w32 (of_z w32 shift)
moved-is result item shift is range within =
    let least = range.0 in
    let most = range.1 in
    let low = within.0 in
    let high = within.1 in
    let item_is = plain item (grind (arith, ints)) (grind (arith, ints)) in
    let shift_is = plain shift (grind (arith, ints)) (grind (arith, ints)) in
    let sum : result ≡ item +ℤ shift = is ∙ ap (λ (x : ℤ). x +ℤ to_z w32 (of_z w32 shift)) item_is ∙ ap (λ (x : ℤ). item +ℤ x) shift_is in
    plain result (grind (arith, ints)) (grind (arith, ints)) ∙ is ∙ ap (λ (x : ℤ). x +ℤ to_z w32 (of_z w32 shift)) item_is
