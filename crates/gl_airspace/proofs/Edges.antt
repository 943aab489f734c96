-- Edges that count for a place, by the sides of it on which their ends are.
use Rattle.std.proofs.Common.{◌≡◌, ◌∙◌, refl, sym, ap, subst, ℕ, zero, suc, ◌+◌, ◌-◌, ◌*◌, ◌%◌, ◌==◌, ◌<◌, ◌≤◌, Bool, true, false, cond, List, [], ◌∷◌, length, get_or, ℤ, pos, negsuc, neg_ℤ, ◌*ℤ◌, ◌-ℤ◌, ◌≤ℤ◌, ◌<ℤ◌, Option, Some, None, All, arith}
use Rattle.std.proofs.lemmas.Int.{ints}
use Rattle.std.proofs.lemmas.Nat.{mul-le}
use Rattle.std.proofs.lemmas.Option.{slice_get_within, get_or_from_slice_get}
use Rattle.std.proofs.lemmas.List.Elements.{All-head, All-tail, All-get_or}
use Rattle.std.proofs.lemmas.List.Sums.{sum_by-cons}
use Rattle.std.specs.Prelude.{int_lt, int_le, not, ◌&&◌, count_by, slice_get}
use Rattle.gl_sphere.specs.declared.place.Grid.{Grid}
use Rattle.gl_airspace.specs.declared.polygon.Bounds.{Bounds}
use Rattle.gl_airspace.specs.Bounds.{IsBounded}
use Rattle.gl_airspace.specs.Code.Bounds.{is_beside}
use Rattle.gl_airspace.specs.Inside.{counts, edges_from, edges_round, is_in_polygon, is_west_of}

pub none_on_one_side : (place from to : Grid) → int_lt place.lat from.lat ≡ int_lt place.lat to.lat → counts place (from, to) ≡ false
none_on_one_side place from to same = grind (arith, ints)

pub counts_up : (place from to : Grid) → int_lt place.lat from.lat ≡ false → int_lt place.lat to.lat ≡ true → counts place (from, to) ≡ is_west_of from to place
counts_up place from to f t = grind (arith, ints)

pub counts_down : (place from to : Grid) → int_lt place.lat from.lat ≡ true → int_lt place.lat to.lat ≡ false → counts place (from, to) ≡ is_west_of to from place
counts_down place from to f t = grind (arith, ints)

-- no edge between two of some places counts
abbrev NoneCounts : Grid → (Grid → Type 0) → Type 0
NoneCounts place P = (from to : Grid) → P from → P to → counts place (from, to) ≡ false

none_more : (place from to : Grid) (edges : List (Grid × Grid)) → counts place (from, to) ≡ false → count_by (counts place) edges ≡ 0 → count_by (counts place) ((from, to) ∷ edges) ≡ 0
none_more place from to edges off none = sum_by-cons (λ (e : Grid × Grid). cond (counts place e) 1 0) (from, to) edges ∙ rw (off, none) refl

none_from : (place : Grid) (P : Grid → Type 0) → NoneCounts place P → (corner : Grid) (corners : List Grid) → P corner → All P corners → count_by (counts place) (edges_from corner corners) ≡ 0
none_from place P none corner [] is all = refl
none_from place P none corner (next ∷ corners) is all =
    let there : P next = All-head P next corners all in
    none_more place corner next (edges_from next corners) (none corner next is there) (none_from place P none next corners there (All-tail P next corners all))

none_round : (place : Grid) (P : Grid → Type 0) → NoneCounts place P → (last : Option Grid) (corners : List Grid) → slice_get corners (length corners - 1) ≡ last → All P corners
    → count_by (counts place) (edges_round last corners) ≡ 0
none_round place P none None corners is all = refl
none_round place P none (Some last) corners is all =
    let there : P last = subst P (get_or_from_slice_get corners (length corners - 1) last last is)
    (All-get_or P corners (length corners - 1) last (slice_get_within corners (length corners - 1) last is) all) in
    none_from place P none last corners there all

none_inside : (count : ℕ) → count ≡ 0 → (count % 2 == 1) ≡ false
none_inside count none = rw none refl

-- a place for which no edge counts is outside
pub is_outside : (place : Grid) (P : Grid → Type 0) → NoneCounts place P → (corners : List Grid) → All P corners → is_in_polygon corners place ≡ false
unfolding is_in_polygon
is_outside place P none corners all = none_inside _ (none_round place P none (slice_get corners (length corners - 1)) corners refl all)

south_of_all : (bounds : Bounds) (place : Grid) → int_le bounds.south place.lat ≡ false → NoneCounts place (IsBounded bounds)
south_of_all bounds place beside from to f t =
    let a : int_lt place.lat from.lat ≡ true = grind (arith, ints, f.south) in
    let b : int_lt place.lat to.lat ≡ true = grind (arith, ints, t.south) in
    none_on_one_side place from to (a ∙ sym b)

north_of_all : (bounds : Bounds) (place : Grid) → int_lt place.lat bounds.north ≡ false → NoneCounts place (IsBounded bounds)
north_of_all bounds place beside from to f t =
    let a : int_lt place.lat from.lat ≡ false = grind (arith, ints, f.north) in
    let b : int_lt place.lat to.lat ≡ false = grind (arith, ints, t.north) in
    none_on_one_side place from to (a ∙ sym b)

not_below : (m n : ℕ) → int_lt (pos m) (neg_ℤ (pos n)) ≡ false
not_below m zero = grind arith
not_below m (suc n) = refl

-- a product isn't less than one of two lesser factors
not_less : (a d h t : ℤ) → pos 0 ≤ℤ a → d ≤ℤ a → pos 0 ≤ℤ t → t ≤ℤ h → int_lt (a *ℤ h) (d *ℤ t) ≡ false
not_less (pos a) (pos d) (pos h) (pos t) p q r s = let le : d * t ≤ a * h = mul-le d t a h (omega (arith, ints)) (omega (arith, ints)) in grind arith
not_less (pos a) (negsuc d) (pos h) (pos t) p q r s = not_below (a * h) (suc d * t)
not_less (negsuc a) d h t p q r s = absurd (omega (arith, ints))
not_less (pos a) d h (negsuc t) p q r s = absurd (omega (arith, ints))
not_less (pos a) d (negsuc h) (pos t) p q r s = absurd (omega (arith, ints))

not_west : (lower upper place : Grid) → lower.lon ≤ℤ place.lon → upper.lon ≤ℤ place.lon → lower.lat ≤ℤ place.lat → place.lat <ℤ upper.lat → is_west_of lower upper place ≡ false
not_west lower upper place a b c d =
    not_less (place.lon -ℤ lower.lon) (upper.lon -ℤ lower.lon) (upper.lat -ℤ lower.lat) (place.lat -ℤ lower.lat) (omega (arith, ints)) (omega (arith, ints)) (omega (arith, ints)) (omega (arith, ints))

sides_east : (place from to : Grid) (f t : Bool) → int_lt place.lat from.lat ≡ f → int_lt place.lat to.lat ≡ t → from.lon ≤ℤ place.lon → to.lon ≤ℤ place.lon → counts place (from, to) ≡ false
sides_east place from to true true f t a b = none_on_one_side place from to (f ∙ sym t)
sides_east place from to false false f t a b = none_on_one_side place from to (f ∙ sym t)
sides_east place from to false true f t a b =
    let low : from.lat ≤ℤ place.lat = grind (arith, ints) in
    let high : place.lat <ℤ to.lat = grind (arith, ints) in
    counts_up place from to f t ∙ not_west from to place a b low high
sides_east place from to true false f t a b =
    let low : to.lat ≤ℤ place.lat = grind (arith, ints) in
    let high : place.lat <ℤ from.lat = grind (arith, ints) in
    counts_down place from to f t ∙ not_west to from place b a low high

east_of_all : (bounds : Bounds) (place : Grid) → int_lt place.lon bounds.east ≡ false → NoneCounts place (IsBounded bounds)
east_of_all bounds place beside from to f t =
    let a : from.lon ≤ℤ place.lon = grind (arith, ints, f.east) in
    let b : to.lon ≤ℤ place.lon = grind (arith, ints, t.east) in
    sides_east place from to (int_lt place.lat from.lat) (int_lt place.lat to.lat) refl refl a b

-- whether two tests differ, and whether a number is odd
abbrev differ : Bool → Bool → Bool
differ true b = not b
differ false b = b

abbrev is_odd : ℕ → Bool
is_odd n = n % 2 == 1

differ_itself : (b : Bool) → differ b b ≡ false
differ_itself true = refl
differ_itself false = refl

differ_on : (a b c : Bool) → differ (differ a b) (differ b c) ≡ differ a c
differ_on true true c = refl
differ_on true false true = refl
differ_on true false false = refl
differ_on false true true = refl
differ_on false true false = refl
differ_on false false c = refl

odd_more : (b : Bool) (n : ℕ) → is_odd (cond b 1 0 + n) ≡ differ b (is_odd n)
odd_more true n = grind arith
odd_more false n = grind arith

minus_below : (n m : ℕ) → 0 < n → int_lt (neg_ℤ (pos n)) (pos m) ≡ true
minus_below zero m some = absurd (omega arith)
minus_below (suc n) m some = refl

minuses : (m n : ℕ) → n < m → int_lt (neg_ℤ (pos m)) (neg_ℤ (pos n)) ≡ true
minuses zero n less = absurd (omega arith)
minuses (suc m) zero less = refl
minuses (suc m) (suc n) less = grind arith

-- a negative product is less than one of a greater and a lesser factor
less_product : (a d h t : ℤ) → a <ℤ pos 0 → a <ℤ d → pos 0 ≤ℤ t → t <ℤ h → int_lt (a *ℤ h) (d *ℤ t) ≡ true
less_product (negsuc a) (pos d) (pos h) (pos t) p q r s =
    let some : 1 * 1 ≤ suc a * h = mul-le 1 1 (suc a) h (omega arith) (omega (arith, ints)) in
    minus_below (suc a * h) (d * t) (omega arith)
less_product (negsuc a) (negsuc d) (pos h) (pos t) p q r s =
    let le : suc d * t ≤ suc a * t = mul-le (suc d) t (suc a) t (omega (arith, ints)) (omega arith) in
    let more : suc a * (t + 1) ≤ suc a * h = mul-le (suc a) (t + 1) (suc a) h (omega arith) (omega (arith, ints)) in
    minuses (suc a * h) (suc d * t) (omega arith)
less_product (pos a) d h t p q r s = absurd (omega (arith, ints))
less_product (negsuc a) d h (negsuc t) p q r s = absurd (omega (arith, ints))
less_product (negsuc a) d (negsuc h) (pos t) p q r s = absurd (omega (arith, ints))

west : (lower upper place : Grid) → place.lon <ℤ lower.lon → place.lon <ℤ upper.lon → lower.lat ≤ℤ place.lat → place.lat <ℤ upper.lat → is_west_of lower upper place ≡ true
west lower upper place a b c d =
    less_product (place.lon -ℤ lower.lon) (upper.lon -ℤ lower.lon) (upper.lat -ℤ lower.lat) (place.lat -ℤ lower.lat) (omega (arith, ints)) (omega (arith, ints)) (omega (arith, ints))
    (omega (arith, ints))

-- an edge west of which a place lies counts where its ends are on different sides
sides_west : (place from to : Grid) (f t : Bool) → int_lt place.lat from.lat ≡ f → int_lt place.lat to.lat ≡ t → place.lon <ℤ from.lon → place.lon <ℤ to.lon → counts place (from, to) ≡ differ f t
sides_west place from to true true f t a b = none_on_one_side place from to (f ∙ sym t)
sides_west place from to false false f t a b = none_on_one_side place from to (f ∙ sym t)
sides_west place from to false true f t a b =
    let low : from.lat ≤ℤ place.lat = grind (arith, ints) in
    let high : place.lat <ℤ to.lat = grind (arith, ints) in
    counts_up place from to f t ∙ west from to place a b low high
sides_west place from to true false f t a b =
    let low : to.lat ≤ℤ place.lat = grind (arith, ints) in
    let high : place.lat <ℤ from.lat = grind (arith, ints) in
    counts_down place from to f t ∙ west to from place b a low high

west_of_all : (bounds : Bounds) (place : Grid) → int_le bounds.west place.lon ≡ false → (from to : Grid) → IsBounded bounds from → IsBounded bounds to
    → counts place (from, to) ≡ differ (int_lt place.lat from.lat) (int_lt place.lat to.lat)
west_of_all bounds place beside from to f t =
    let a : place.lon <ℤ from.lon = grind (arith, ints, f.west) in
    let b : place.lon <ℤ to.lon = grind (arith, ints, t.west) in
    sides_west place from to (int_lt place.lat from.lat) (int_lt place.lat to.lat) refl refl a b

-- the last of some corners
abbrev end_of : Grid → List Grid → Grid
end_of corner [] = corner
end_of corner (next ∷ corners) = end_of next corners

end_get : (corner : Grid) (corners : List Grid) (d : Grid) → get_or (corner ∷ corners) (length corners) d ≡ end_of corner corners
end_get corner [] d = refl
end_get corner (next ∷ corners) d = end_get next corners d

end_is : (corner : Grid) (corners : List Grid) (last : Grid) → slice_get (corner ∷ corners) (length (corner ∷ corners) - 1) ≡ Some last → end_of corner corners ≡ last
end_is corner corners last is =
    let count : length (corner ∷ corners) - 1 ≡ length corners = omega arith in
    sym (end_get corner corners last) ∙ ap (λ (k : ℕ). get_or (corner ∷ corners) k last) (sym count) ∙ get_or_from_slice_get (corner ∷ corners) (length (corner ∷ corners) - 1) last last is

odd_on : (place corner next last : Grid) (edges : List (Grid × Grid)) → counts place (corner, next) ≡ differ (int_lt place.lat corner.lat) (int_lt place.lat next.lat)
    → is_odd (count_by (counts place) edges) ≡ differ (int_lt place.lat next.lat) (int_lt place.lat last.lat)
    → is_odd (count_by (counts place) ((corner, next) ∷ edges)) ≡ differ (int_lt place.lat corner.lat) (int_lt place.lat last.lat)
odd_on place corner next last edges one others =
    ap is_odd (sum_by-cons (λ (e : Grid × Grid). cond (counts place e) 1 0) (corner, next) edges)
    ∙ odd_more (counts place (corner, next)) (count_by (counts place) edges)
    ∙ ap (λ (b : Bool). differ b (is_odd (count_by (counts place) edges))) one
    ∙ ap (differ (differ (int_lt place.lat corner.lat) (int_lt place.lat next.lat))) others
    ∙ differ_on (int_lt place.lat corner.lat) (int_lt place.lat next.lat) (int_lt place.lat last.lat)

odd_from : (bounds : Bounds) (place : Grid) → int_le bounds.west place.lon ≡ false → (corner : Grid) (corners : List Grid) → IsBounded bounds corner → All (IsBounded bounds) corners
    → is_odd (count_by (counts place) (edges_from corner corners)) ≡ differ (int_lt place.lat corner.lat) (int_lt place.lat (end_of corner corners).lat)
odd_from bounds place beside corner [] is all = sym (differ_itself (int_lt place.lat corner.lat))
odd_from bounds place beside corner (next ∷ corners) is all =
    let there : IsBounded bounds next = All-head (IsBounded bounds) next corners all in
    odd_on place corner next (end_of next corners) (edges_from next corners) (west_of_all bounds place beside corner next is there)
    (odd_from bounds place beside next corners there (All-tail (IsBounded bounds) next corners all))

even_round : (bounds : Bounds) (place : Grid) → int_le bounds.west place.lon ≡ false → (last : Option Grid) (corners : List Grid) → slice_get corners (length corners - 1) ≡ last
    → All (IsBounded bounds) corners
    → is_odd (count_by (counts place) (edges_round last corners)) ≡ false
even_round bounds place beside None corners is all = refl
even_round bounds place beside (Some last) [] is all = refl
even_round bounds place beside (Some last) (corner ∷ corners) is all =
    let same : end_of corner corners ≡ last = end_is corner corners last is in
    let all_of : length (corner ∷ corners) - 1 < length (corner ∷ corners) = slice_get_within (corner ∷ corners) (length (corner ∷ corners) - 1) last is in
    let there : IsBounded bounds last = subst (IsBounded bounds) (get_or_from_slice_get (corner ∷ corners) (length (corner ∷ corners) - 1) last last is)
    (All-get_or (IsBounded bounds) (corner ∷ corners) (length (corner ∷ corners) - 1) last all_of all) in
    odd_from bounds place beside last (corner ∷ corners) there all
    ∙ ap (λ (g : Grid). differ (int_lt place.lat last.lat) (int_lt place.lat g.lat)) same
    ∙ differ_itself (int_lt place.lat last.lat)

is_outside_east : (bounds : Bounds) (place : Grid) → int_le bounds.west place.lon ≡ false → (corners : List Grid) → All (IsBounded bounds) corners → is_in_polygon corners place ≡ false
unfolding is_in_polygon
is_outside_east bounds place beside corners all = even_round bounds place beside (slice_get corners (length corners - 1)) corners refl all

by_side : (bounds : Bounds) (corners : List Grid) (place : Grid) (south north west east : Bool) → int_le bounds.south place.lat ≡ south → int_lt place.lat bounds.north ≡ north
    → int_le bounds.west place.lon ≡ west → int_lt place.lon bounds.east ≡ east
    → not ((south && north) && (west && east)) ≡ true → All (IsBounded bounds) corners → is_in_polygon corners place ≡ false
by_side bounds corners place false n w e is_south is_north is_west is_east some all = is_outside place (IsBounded bounds) (south_of_all bounds place is_south) corners all
by_side bounds corners place true false w e is_south is_north is_west is_east some all = is_outside place (IsBounded bounds) (north_of_all bounds place is_north) corners all
by_side bounds corners place true true false e is_south is_north is_west is_east some all = is_outside_east bounds place is_west corners all
by_side bounds corners place true true true false is_south is_north is_west is_east some all = is_outside place (IsBounded bounds) (east_of_all bounds place is_east) corners all
by_side bounds corners place true true true true is_south is_north is_west is_east some all = cc

-- a place beside the bounds of all corners is outside
pub beside_is_outside : (bounds : Bounds) (corners : List Grid) (place : Grid) → All (IsBounded bounds) corners → is_beside bounds place ≡ true → is_in_polygon corners place ≡ false
beside_is_outside bounds corners place all beside =
    by_side bounds corners place (int_le bounds.south place.lat) (int_lt place.lat bounds.north) (int_le bounds.west place.lon) (int_lt place.lon bounds.east) refl refl refl refl beside all
