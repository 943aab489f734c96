-- The numbers of the fixes near a point, one fix after the other.
use Rattle.std.proofs.Common.{◌≡◌, ◌∙◌, sym, ap, refl, subst, ℕ, suc, ◌+◌, ◌-◌, ◌<◌, ◌≤◌, Bool, true, false, List, [], ◌∷◌, ◌++◌, length, get_or, Some, slice_get, Vec, Global, Fits, w32, arith}
use Rattle.std.specs.Prelude.{nat_le, All, IsSomeAnd, map, take}
use Rattle.std.specs.List.{filter}
use Rattle.std.proofs.lemmas.List.{length-map, length-take, map_more, take_all}
use Rattle.std.proofs.lemmas.Option.{slice_get_read}
use Rattle.std.proofs.lemmas.List.Elements.{All-more, filter-append}
use Rattle.gl_sphere.specs.declared.place.Vec3.{Vec3}
use Rattle.gl_igc.specs.declared.fix.Fix.{Fix}
use Rattle.gl_sphere.specs.Distance.{distance}
use Rattle.gl_goal.specs.Free.{numbers_from}
use Rattle.gl_goal.proofs.FreeLosses.{numbers_from-more}
use Rattle.gl_badge.specs.Course.{AreNear, IsMissed, IsReached, is_near, numbers_near}

-- those of the first so many fixes that are near a point
abbrev pub near_before : List Fix → Vec3 → ℕ → List ℕ
near_before fixes point count = filter (λ i. is_near point (slice_get fixes i)) (numbers_from 0 count)

numbers_next : (count : ℕ) → numbers_from 0 (count + 1) ≡ numbers_from 0 count ++ count ∷ []
numbers_next count =
    let last : 0 + count ≡ count = omega arith in
    let next : suc count ≡ count + 1 = omega arith in
    ap (numbers_from 0) (sym next) ∙ numbers_from-more 0 count ∙ ap (λ (n : ℕ). numbers_from 0 count ++ n ∷ []) last

one_kept : (p : ℕ → Bool) (i : ℕ) → p i ≡ true → filter p (i ∷ []) ≡ i ∷ []
one_kept p i kept = cc

one_dropped : (p : ℕ → Bool) (i : ℕ) → p i ≡ false → filter p (i ∷ []) ≡ []
one_dropped p i dropped = cc

nothing_more : (xs : List ℕ) → xs ++ [] ≡ xs
nothing_more [] = refl
nothing_more (x ∷ xs) = ap (λ (ys : List ℕ). x ∷ ys) (nothing_more xs)

more : (p : ℕ → Bool) (count : ℕ) → filter p (numbers_from 0 (count + 1)) ≡ filter p (numbers_from 0 count) ++ filter p (count ∷ [])
more p count = ap (filter p) (numbers_next count) ∙ filter-append p (numbers_from 0 count) (count ∷ [])

-- one fix more that is near
pub near-more : (fixes : List Fix) (point : Vec3) (count : ℕ) (fix : Fix) (numbers pushed : List ℕ) → slice_get fixes count ≡ Some fix → nat_le (distance fix.at point) 50_000 ≡ true
    → pushed ≡ numbers ++ count ∷ [] → numbers ≡ near_before fixes point count → pushed ≡ near_before fixes point (count + 1)
near-more fixes point count fix numbers pushed at near is before =
    let p : ℕ → Bool = λ i. is_near point (slice_get fixes i) in
    let here : p count ≡ true = ap (is_near point) at ∙ near in
    is ∙ ap (λ (ns : List ℕ). ns ++ count ∷ []) before ∙ ap (λ (ns : List ℕ). near_before fixes point count ++ ns) (sym (one_kept p count here)) ∙ sym (more p count)

-- one that isn't
pub near-same : (fixes : List Fix) (point : Vec3) (count : ℕ) (fix : Fix) (numbers : List ℕ) → slice_get fixes count ≡ Some fix → nat_le (distance fix.at point) 50_000 ≡ false
    → numbers ≡ near_before fixes point count → numbers ≡ near_before fixes point (count + 1)
near-same fixes point count fix numbers at far before =
    let p : ℕ → Bool = λ i. is_near point (slice_get fixes i) in
    let here : p count ≡ false = ap (is_near point) at ∙ far in
    before ∙ sym (nothing_more (near_before fixes point count)) ∙ ap (λ (ns : List ℕ). near_before fixes point count ++ ns) (sym (one_dropped p count here)) ∙ sym (more p count)

-- the invariant of the points gone over: each was reached, and has its list
abbrev pub AreReachedBefore : List Fix → List Vec3 → ℕ → List (List ℕ) → Type 0
AreReachedBefore fixes points count lists =
    All (IsReached fixes) (take count points) × (lists ≡ map (numbers_near fixes) (take count points))

-- a point that no fix is near
pub one-missed : (fixes : List Fix) (points : List Vec3) (count number : ℕ) (point : Vec3) (lists : List (List ℕ)) → count < length points → point ≡ get_or points count point → length lists ≡ number
    → numbers_near fixes point ≡ [] → AreReachedBefore fixes points count lists → IsMissed fixes points (number + 1)
one-missed fixes points count number point lists within at size none before =
    let long : length (take count points) ≡ count = omega (arith, length-take count points) in
    let same : number + 1 - 1 ≡ count = omega (arith, size, ap length before.1, length-map (take count points) (numbers_near fixes), long) in
    let found : slice_get points count ≡ Some point = slice_get_read points (length points) count point refl within at in
    let here : slice_get points (number + 1 - 1) ≡ Some point = ap (slice_get points) same ∙ found in
    record {
      from_one = omega arith;
      missed = subst (λ o. IsSomeAnd o (λ p. numbers_near fixes p ≡ [])) (sym here) none;
      first = subst (λ (n : ℕ). All (IsReached fixes) (take n points)) (sym same) before.0;
    }

-- one point more that a fix is near
pub one-reached : (fixes : List Fix) (points : List Vec3) (count : ℕ) (point : Vec3) (list : List ℕ) (lists pushed : List (List ℕ)) → count < length points → point ≡ get_or points count point
    → list ≡ numbers_near fixes point → 0 < length list → pushed ≡ lists ++ list ∷ [] → AreReachedBefore fixes points count lists → AreReachedBefore fixes points (count + 1) pushed
one-reached fixes points count point list lists pushed within at list_is some is before =
    let near : List Fix → Vec3 → List ℕ = numbers_near in
    let reached : IsReached fixes (get_or points count point) = subst (IsReached fixes) at (omega (arith, some, ap length list_is)) in
    let longer : map (near fixes) (take (count + 1) points) ≡ map (near fixes) (take count points) ++ near fixes (get_or points count point) ∷ [] = map_more (near fixes) points count point within in (
      All-more (IsReached fixes) points count point within before.0 reached,
      is ∙ ap (λ (ls : List (List ℕ)). ls ++ list ∷ []) before.1 ∙ ap (λ (l : List ℕ). map (near fixes) (take count points) ++ l ∷ []) (list_is ∙ ap (near fixes) at) ∙ sym longer,
    )

-- all of them were
pub all-reached : (fixes : List Fix) (points list : List Vec3) (count : ℕ) (lists : List (List ℕ)) → list ≡ points → length list ≤ count → AreReachedBefore fixes points count lists
    → AreNear fixes points lists
all-reached fixes points list count lists same past before =
    let long : length points ≤ count = subst (λ (ps : List Vec3). length ps ≤ count) same past in
    let whole = take_all count points long in
    record { reached = subst (All (IsReached fixes)) whole before.0; near = before.1 ∙ ap (map (numbers_near fixes)) whole }

-- there are no more lists than points
pub few-lists : (fixes : List Fix) (points : List Vec3) (count : ℕ) (lists : List (List ℕ)) → length points ≤ 10 → AreReachedBefore fixes points count lists → length lists ≤ 10
few-lists fixes points count lists few before = omega (arith, ap length before.1, length-map (take count points) (numbers_near fixes), length-take count points)

pub few-counted : (n len : ℕ) (lists : List (Vec ℕ Global)) → n ≡ len → len ≡ length lists → length (map (λ (list : Vec ℕ Global). list.items) lists) ≤ 10 → n ≤ 10
few-counted n len lists is counted few = omega (arith, length-map lists (λ (list : Vec ℕ Global). list.items))

pub fits-few : (n : ℕ) → n ≤ 10 → Fits w32 n
fits-few n few = omega arith

pub fits-one_more : (n : ℕ) → n ≤ 10 → Fits w32 (n + 1)
fits-one_more n few = omega arith

pub empty_list : (xs : List ℕ) → length xs ≡ 0 → xs ≡ []
empty_list [] none = refl
empty_list (x ∷ xs) none = absurd (omega arith)
