-- What lists of fixes keep, axis by axis.
use Rattle.std.proofs.Common.{◌≡◌, ◌∙◌, sym, ap, refl, subst, ℕ, zero, suc, ◌+◌, ◌*◌, ◌^◌, ◌<◌, ◌≤◌, List, [], ◌∷◌, ◌++◌, length, map, take, drop, get_or, Some, slice_get, arith}
use Rattle.std.specs.Prelude.{All}
use Rattle.std.specs.Arc.{arc_value}
use Rattle.std.specs.List.Sorted.{IsStrictlyIncreasing}
use Rattle.std.proofs.lemmas.List.{append-nil, drop_more, get_or-map, get_or_default, length-append, length-map, map-append, take_more}
use Rattle.std.proofs.lemmas.List.Elements.{All-append, All-nil, All-tail}
use Rattle.std.proofs.lemmas.Option.{get_or_from_slice_get, slice_get-get_or, slice_get_within}
use Rattle.gl_sphere.specs.declared.place.Vec3.{Vec3}
use Rattle.gl_igc.specs.declared.fix.Fix.{Fix}
use Rattle.gl_goal.specs.Box.{Box, fixes_in, hull_of}
use Rattle.gl_box.specs.Cell.{Covers, ends, spans_of}
use Rattle.gl_box.specs.Halves.{span_at}
use Rattle.gl_box.specs.Tuple.{places_of}
use Rattle.gl_box.proofs.Held.{covers_at, length-covers}
use Rattle.gl_box.proofs.Spans.{get_or-places_of, length-places_of, length-spans_of, span_at-spans_of}
use Rattle.gl_box.specs.declared.cell.Cell.{Cell}
use Rattle.gl_box.specs.declared.span.Span.{Span}
use Rattle.gl_box.specs.declared.tuple.Tuple.{Tuple}
use Rattle.gl_goal.specs.declared.axis.Axis.{Axis}
use Rattle.gl_goal.specs.Goal.{IsDisordered, IsInTimeOrder, IsTuple, chosen, fix_at, whole_cell}
use Rattle.gl_sphere.specs.Distance.{distance}
use Rattle.gl_goal.specs.Chain.{fixes_at, greatest_distance, greatest_legs, hulls_of, last_of, legs, points_of}
use Rattle.gl_goal.specs.Lists.{AreLists, AreNamed}
use Rattle.gl_goal.specs.Code.Lists.{Listed, AreHulled, IsHulled, lists_of}
use Rattle.gl_goal.specs.Lemmas.Chain.{fixes_at-cons, greatest_legs-last, legs-last, length-fixes_at, named_at}
use Rattle.gl_goal.proofs.Seen.{IsSeen, seen_past}
use Rattle.gl_goal.specs.Lemmas.Points.{get_or-chosen, length-chosen, length-tuple, place_within}
use Rattle.gl_goal.proofs.Order.{length-whole, span_at-whole}

rising-least : (xs : List ℕ) (k : ℕ) → IsStrictlyIncreasing xs → k < length xs → k ≤ get_or xs k 0
rising-least xs zero rising below = omega arith
rising-least xs (suc k) rising below =
    let next : k + 1 ≡ suc k = omega arith in
    omega (arith, rising-least xs k rising (omega arith), rising k (omega arith), ap (λ (n : ℕ). get_or xs n 0) next)

-- there are no more numbers that rise than fixes that they name
pub rising-most : (fixes : List Fix) (numbers : List ℕ) → IsStrictlyIncreasing numbers → AreNamed fixes numbers → length numbers ≤ length fixes
rising-most fixes [] rising named = omega arith
rising-most fixes (number ∷ numbers) rising named =
    let last = length numbers in
    omega (arith, rising-least (number ∷ numbers) last rising (omega arith), named last 0 (omega arith))

-- the numbers of an axis that is read
pub axis-list : (axes : List Axis) (k : ℕ) (axis : Axis) → axis ≡ get_or axes k axis → k < length axes → get_or (lists_of axes) k [] ≡ axis.numbers.items
axis-list axes k axis is below =
    get_or-map (λ (a : Axis). a.numbers.items) axes k axis [] below ∙ ap (λ (a : Axis). a.numbers.items) (sym is)

pub axis-most : (fixes : List Fix) (axes : List Axis) (k : ℕ) (axis : Axis) → AreHulled fixes axes → axis ≡ get_or axes k axis → k < length axes → length axis.numbers.items ≤ 90_000
axis-most fixes axes k axis are is below =
    let list = axis-list axes k axis is below in
    let inside : k < length (lists_of axes) = omega (arith, length-map axes (λ (a : Axis). a.numbers.items)) in
    omega (arith, rising-most fixes (get_or (lists_of axes) k []) (are.lists.rising k [] inside) (are.lists.named k [] inside), are.most_fixes, ap length list)

pub axis-hulled : (fixes : List Fix) (axes : List Axis) (k : ℕ) (axis : Axis) → AreHulled fixes axes → axis ≡ get_or axes k axis → k < length axes
    → arc_value axis.hulls ≡ fixes_at fixes (get_or (lists_of axes) k [])
axis-hulled fixes axes k axis are is below =
    subst (IsHulled fixes) (sym is) (are.hulled k axis below) ∙ ap (fixes_at fixes) (sym (axis-list axes k axis is below))

-- fixes and axes, as contracts see them
abbrev pub listed_of : List Fix → List Axis → Listed
listed_of fixes axes = record { fixes = fixes; lists = lists_of axes }

pub listed-axis : (fixes : List Fix) (axes : List Axis) (listed : Listed) (k : ℕ) → listed_of fixes axes ≡ listed → k < length listed.lists → k < length axes
listed-axis fixes axes listed k same below =
    omega (arith, ap (λ (l : Listed). length l.lists) same, length-map axes (λ (a : Axis). a.numbers.items))

pub listed-count : (fixes : List Fix) (axes : List Axis) (listed : Listed) → listed_of fixes axes ≡ listed → length axes ≡ length listed.lists
listed-count fixes axes listed same =
    sym (length-map axes (λ (a : Axis). a.numbers.items)) ∙ ap (λ (l : Listed). length l.lists) same

-- the numbers of an axis that is read, as contracts see them
pub listed-list : (fixes : List Fix) (axes : List Axis) (listed : Listed) (k : ℕ) (axis : Axis) → listed_of fixes axes ≡ listed → axis ≡ get_or axes k axis → k < length listed.lists
    → get_or listed.lists k [] ≡ axis.numbers.items
listed-list fixes axes listed k axis same is below =
    ap (λ (l : Listed). get_or l.lists k []) (sym same) ∙ axis-list axes k axis is (listed-axis fixes axes listed k same below)

pub listed-number : (fixes : List Fix) (axes : List Axis) (listed : Listed) (k : ℕ) (axis : Axis) (place number : ℕ) → listed_of fixes axes ≡ listed → axis ≡ get_or axes k axis
    → k < length listed.lists → place < length (get_or listed.lists k []) → number ≡ get_or axis.numbers.items place number → number ≡ fix_at listed.lists k place
listed-number fixes axes listed k axis place number same is below inside number_is =
    let list = listed-list fixes axes listed k axis same is below in
    let within : place < length axis.numbers.items = omega (arith, ap length list) in
    number_is ∙ get_or_default axis.numbers.items place number 0 within ∙ ap (λ (numbers : List ℕ). get_or numbers place 0) (sym list)

pub listed-lists : (fixes : List Fix) (axes : List Axis) (listed : Listed) → listed_of fixes axes ≡ listed → AreHulled fixes axes → AreLists listed.fixes listed.lists
listed-lists fixes axes listed same are =
    let P : Listed → Type 0 = λ l. AreLists l.fixes l.lists in subst P same are.lists

-- what was made of well formed lists
pub made-lists : (fixes : List Fix) (lists : List (List ℕ)) (made : Listed) → made.fixes ≡ fixes → made.lists ≡ lists → AreLists fixes lists → AreLists made.fixes made.lists
made-lists fixes lists made fixes_are lists_are are =
    let same : Listed → Type 0 = λ l. AreLists l.fixes l.lists in
    subst same (λ i. record { fixes = sym fixes_are i; lists = sym lists_are i }) are

-- the spans of a cell in the whole, as the code reads them
pub cell-span : (lists : List (List ℕ)) (cell : Cell) (k : ℕ) (span : Span) → Covers (whole_cell lists) (spans_of cell) → k < length lists → span_at (spans_of cell) k ≡ ends (get_or cell.spans k span)
cell-span lists cell k span covers below =
    span_at-spans_of cell k span (omega (arith, length-covers (whole_cell lists) (spans_of cell) covers, length-whole lists, length-spans_of cell))

pub cell-axes : (lists : List (List ℕ)) (cell : Cell) → Covers (whole_cell lists) (spans_of cell) → cell.axes ≡ length lists
cell-axes lists cell covers =
    omega (arith, length-covers (whole_cell lists) (spans_of cell) covers, length-whole lists, length-spans_of cell)

-- each span ends at a place of its list
pub cell-within : (lists : List (List ℕ)) (cell : Cell) (k : ℕ) (span : Span) → All (λ list. 0 < length list) lists → Covers (whole_cell lists) (spans_of cell) → k < length lists
    → (get_or cell.spans k span).hi < length (get_or lists k [])
cell-within lists cell k span some covers below =
    let at = covers_at (whole_cell lists) (spans_of cell) k covers (omega (arith, length-whole lists)) in
    let top = ap (λ (s : ℕ × ℕ). s.1) (span_at-whole lists k below) in
    let read = ap (λ (s : ℕ × ℕ). s.1) (cell-span lists cell k span covers below) in
    omega (arith, at.1, top, read, some k [] below)

-- the hulls over a list end where the list ends
pub hull-within : (fixes : List Fix) (axes : List Axis) (lists : List (List ℕ)) (cell : Cell) (k : ℕ) (span : Span) (axis : Axis) → AreHulled fixes axes → lists_of axes ≡ lists
    → axis ≡ get_or axes k axis → Covers (whole_cell lists) (spans_of cell) → k < length lists → (get_or cell.spans k span).hi < length (arc_value axis.hulls)
hull-within fixes axes lists cell k span axis are same is covers below =
    let inside : k < length (lists_of axes) = omega (arith, ap length same) in
    let within : k < length axes = omega (arith, length-map axes (λ (a : Axis). a.numbers.items)) in
    let P : List (List ℕ) → Type 0 = λ ls. Covers (whole_cell ls) (spans_of cell) in
    let hulled = axis-hulled fixes axes k axis are is within in
    omega (
      arith,
      cell-within (lists_of axes) cell k span are.lists.some_number (subst P (sym same) covers) inside,
      ap length hulled,
      length-fixes_at fixes (get_or (lists_of axes) k []) (are.lists.named k [] inside),
    )

hulls_of-get : (fixes : List Fix) (lists : List (List ℕ)) (spans : List (ℕ × ℕ)) (k : ℕ) → k < length lists → length spans ≡ length lists
    → slice_get (hulls_of fixes lists spans) k ≡ Some (hull_of (fixes_in (fixes_at fixes (get_or lists k [])) (span_at spans k)))
hulls_of-get fixes [] spans k below sized = absurd (omega arith)
hulls_of-get fixes (list ∷ lists) [] k below sized = absurd (omega arith)
hulls_of-get fixes (list ∷ lists) (span ∷ spans) zero below sized = refl
hulls_of-get fixes (list ∷ lists) (span ∷ spans) (suc k) below sized = hulls_of-get fixes lists spans k (omega arith) (omega arith)

hull-of_axis : (fixes : List Fix) (axes : List Axis) (cell : Cell) (k : ℕ) (span : Span) (axis : Axis) (box : Box) → AreHulled fixes axes → axis ≡ get_or axes k axis
    → Covers (whole_cell (lists_of axes)) (spans_of cell) → k < length axes → box ≡ hull_of (fixes_in (arc_value axis.hulls) (ends (get_or cell.spans k span)))
    → slice_get (hulls_of fixes (lists_of axes) (spans_of cell)) k ≡ Some box
hull-of_axis fixes axes cell k span axis box are is covers within box_is =
    let lists = lists_of axes in
    let below : k < length lists = omega (arith, length-map axes (λ (a : Axis). a.numbers.items)) in
    let hulled = axis-hulled fixes axes k axis are is within in
    let sized : length (spans_of cell) ≡ length lists = omega (arith, length-covers (whole_cell lists) (spans_of cell) covers, length-whole lists) in
    hulls_of-get fixes lists (spans_of cell) k below sized
    ∙ ap (λ (s : ℕ × ℕ). Some (hull_of (fixes_in (fixes_at fixes (get_or lists k [])) s))) (cell-span lists cell k span covers below)
    ∙ ap (λ (fs : List Fix). Some (hull_of (fixes_in fs (ends (get_or cell.spans k span))))) (sym hulled)
    ∙ ap Some (sym box_is)

-- the hull of an axis of a cell
pub hull-at : (fixes : List Fix) (axes : List Axis) (listed : Listed) (cell : Cell) (k : ℕ) (span : Span) (axis : Axis) (box : Box) → listed_of fixes axes ≡ listed → AreHulled fixes axes
    → axis ≡ get_or axes k axis → Covers (whole_cell listed.lists) (spans_of cell) → k < length listed.lists → box ≡ hull_of (fixes_in (arc_value axis.hulls) (ends (get_or cell.spans k span)))
    → slice_get (hulls_of listed.fixes listed.lists (spans_of cell)) k ≡ Some box
hull-at fixes axes listed cell k span axis box same are is covers below box_is =
    let within = listed-axis fixes axes listed k same below in
    let P : Listed → Type 0 = λ l. Covers (whole_cell l.lists) (spans_of cell) in
    ap (λ (l : Listed). slice_get (hulls_of l.fixes l.lists (spans_of cell)) k) (sym same)
    ∙ hull-of_axis fixes axes cell k span axis box are is (subst P (sym same) covers) within box_is

-- a place of a tuple, as the code reads it
pub tuple-place : (lists : List (List ℕ)) (tuple : Tuple) (k : ℕ) → IsTuple lists (places_of tuple) → k < length lists → get_or (places_of tuple) k 0 ≡ get_or tuple.places k 0
tuple-place lists tuple k fits below =
    get_or-places_of tuple k (omega (arith, length-tuple lists (places_of tuple) fits, length-places_of tuple))

pub place-within : (lists : List (List ℕ)) (tuple : Tuple) (k : ℕ) → IsTuple lists (places_of tuple) → k < length lists → get_or tuple.places k 0 < length (get_or lists k [])
place-within lists tuple k fits below =
    omega (arith, place_within lists (places_of tuple) k fits below, tuple-place lists tuple k fits below)

pub axes-most : (lists : List (List ℕ)) (tuple : Tuple) → IsTuple lists (places_of tuple) → length lists ≤ 10
axes-most lists tuple fits =
    omega (arith, length-tuple lists (places_of tuple) fits, length-places_of tuple, tuple.ten_axes)

points-get : (fixes : List Fix) (lists : List (List ℕ)) (tuple : List ℕ) (k : ℕ) (fix : Fix) → All (AreNamed fixes) lists → IsTuple lists tuple → k < length lists
    → slice_get fixes (fix_at lists k (get_or tuple k 0)) ≡ Some fix → slice_get (points_of (fixes_at fixes (chosen lists tuple))) k ≡ Some fix.at
points-get fixes [] tuple k fix all fits below is = absurd (omega arith)
points-get fixes (list ∷ lists) [] k fix all fits below is = absurd fits
points-get fixes (list ∷ lists) (place ∷ places) zero fix all fits below is =
    ap (λ (fs : List Fix). slice_get (points_of fs) 0) (fixes_at-cons fixes (get_or list place 0) (chosen lists places) fix is)
points-get fixes (list ∷ lists) (place ∷ places) (suc k) fix all fits below is =
    let first = named_at fixes list place (all 0 [] (omega arith)) fits.0 in
    ap (λ (fs : List Fix). slice_get (points_of fs) (suc k)) (fixes_at-cons fixes (get_or list place 0) (chosen lists places) first.0 first.1)
    ∙ points-get fixes lists places k fix (All-tail (AreNamed fixes) list lists all) fits.1 (omega arith) is

-- the point of the fix that a tuple chooses on an axis
pub point-at : (fixes : List Fix) (lists : List (List ℕ)) (tuple : Tuple) (k number : ℕ) (fix : Fix) → All (AreNamed fixes) lists → IsTuple lists (places_of tuple) → k < length lists
    → number ≡ fix_at lists k (get_or tuple.places k 0) → number < length fixes → fix ≡ get_or fixes number fix
    → slice_get (points_of (fixes_at fixes (chosen lists (places_of tuple)))) k ≡ Some fix.at
point-at fixes lists tuple k number fix all fits below number_is inside fix_is =
    let place = tuple-place lists tuple k fits below in
    let same : fix_at lists k (get_or (places_of tuple) k 0) ≡ number = ap (fix_at lists k) place ∙ sym number_is in
    points-get fixes lists (places_of tuple) k fix all fits below (ap (slice_get fixes) same ∙ slice_get-get_or fixes number fix inside ∙ ap Some (sym fix_is))

last_of-last : {X : Type 0} (first : X) (others : List X) (next : X) → last_of first (others ++ next ∷ []) ≡ next
last_of-last first [] next = refl
last_of-last first (other ∷ others) next = last_of-last other others next

take-get : {X : Type 0} (xs : List X) (k : ℕ) (x : X) → slice_get xs k ≡ Some x → take (k + 1) xs ≡ take k xs ++ x ∷ []
take-get xs k x is =
    take_more xs k x (slice_get_within xs k x is) ∙ ap (λ y. take k xs ++ y ∷ []) (get_or_from_slice_get xs k x x is)

-- a way over the first points, as long as they are legs, that ends at the last of them
pub record IsWay (start : Vec3) (points : List Vec3) (count flown : ℕ) (end : Vec3) : Type 0 where
  pub legs_are : flown ≡ legs (start ∷ take count points)
  pub ends_at : end ≡ last_of start (take count points)
  pub most : flown ≤ count * 1_099_511_627_776

-- one point more
pub way_more : (start : Vec3) (points : List Vec3) (count flown : ℕ) (end next : Vec3) (leg : ℕ) → IsWay start points count flown end → slice_get points count ≡ Some next → leg ≡ distance end next
    → leg < 2 ^ 40 → IsWay start points (count + 1) (flown + leg) next
way_more start points count flown end next leg way there leg_is short =
    let longer = take-get points count next there in
    let passed = take count points in
    record {
      legs_are = omega (arith, way.legs_are, leg_is ∙ ap (λ (at : Vec3). distance at next) way.ends_at, legs-last start passed next, ap (λ (ps : List Vec3). legs (start ∷ ps)) longer);
      ends_at = sym (ap (last_of start) longer ∙ last_of-last start passed next);
      most = omega (arith, way.most);
    }

-- the same from box to box
pub record IsGreatestWay (start : Box) (boxes : List Box) (count flown : ℕ) (end : Box) : Type 0 where
  pub legs_are : flown ≡ greatest_legs (start ∷ take count boxes)
  pub ends_at : end ≡ last_of start (take count boxes)
  pub most : flown ≤ count * 1_099_511_627_776

pub greatest_way_more : (start : Box) (boxes : List Box) (count flown : ℕ) (end next : Box) (leg : ℕ) → IsGreatestWay start boxes count flown end → slice_get boxes count ≡ Some next
    → leg ≡ greatest_distance end next → leg < 2 ^ 40 → IsGreatestWay start boxes (count + 1) (flown + leg) next
greatest_way_more start boxes count flown end next leg way there leg_is short =
    let longer = take-get boxes count next there in
    let passed = take count boxes in
    record {
      legs_are = omega (
        arith,
        way.legs_are,
        leg_is ∙ ap (λ (at : Box). greatest_distance at next) way.ends_at,
        greatest_legs-last start passed next,
        ap (λ (bs : List Box). greatest_legs (start ∷ bs)) longer,
      );
      ends_at = sym (ap (last_of start) longer ∙ last_of-last start passed next);
      most = omega (arith, way.most);
    }

drop-past : (numbers : List ℕ) (count : ℕ) → length numbers ≤ count → drop count numbers ≡ []
drop-past [] zero all = refl
drop-past [] (suc count) all = refl
drop-past (number ∷ numbers) zero all = absurd (omega arith)
drop-past (number ∷ numbers) (suc count) all = drop-past numbers count (omega arith)

-- numbers so far are in time order where those from the one before on are
abbrev pub IsSameOrder : List ℕ → ℕ → ℕ → Type 0
IsSameOrder numbers before count =
    (IsInTimeOrder numbers → IsInTimeOrder (before ∷ drop count numbers))
    × (IsInTimeOrder (before ∷ drop count numbers) → IsInTimeOrder numbers)

-- the number that a tuple chooses on an axis
pub chosen-at : (lists : List (List ℕ)) (tuple : Tuple) (k number : ℕ) → IsTuple lists (places_of tuple) → k < length lists → number ≡ fix_at lists k (get_or tuple.places k 0)
    → drop k (chosen lists (places_of tuple)) ≡ number ∷ drop (k + 1) (chosen lists (places_of tuple))
chosen-at lists tuple k number fits below is =
    let numbers = chosen lists (places_of tuple) in
    let inside : k < length numbers = omega (arith, length-chosen lists (places_of tuple) fits) in
    drop_more numbers k 0 inside
    ∙ ap (λ (n : ℕ). n ∷ drop (k + 1) numbers) (get_or-chosen lists (places_of tuple) k fits below ∙ ap (fix_at lists k) (tuple-place lists tuple k fits below) ∙ sym is)

order_at_next : (numbers rest : List ℕ) (count before number : ℕ) → drop count numbers ≡ number ∷ rest → IsInTimeOrder (before ∷ drop count numbers) → (before ≤ number) × IsInTimeOrder (number ∷ rest)
order_at_next numbers rest count before number is order =
    let P : List ℕ → Type 0 = λ ns. IsInTimeOrder (before ∷ ns) in subst P is order

pub order_more : (numbers rest : List ℕ) (count before number : ℕ) → drop count numbers ≡ number ∷ rest → before ≤ number → IsSameOrder numbers before count
    → (IsInTimeOrder numbers → IsInTimeOrder (number ∷ rest)) × (IsInTimeOrder (number ∷ rest) → IsInTimeOrder numbers)
order_more numbers rest count before number is fits same =
    let P : List ℕ → Type 0 = λ ns. IsInTimeOrder (before ∷ ns) in
    (λ order. (order_at_next numbers rest count before number is (same.0 order)).1, λ order. same.1 (subst P (sym is) (fits, order)))

pub order_broken : (numbers rest : List ℕ) (count before number : ℕ) → drop count numbers ≡ number ∷ rest → number < before → IsSameOrder numbers before count → IsInTimeOrder numbers → ⊥
order_broken numbers rest count before number is past same order =
    absurd (omega (arith, (order_at_next numbers rest count before number is (same.0 order)).0))

pub order_whole : (numbers : List ℕ) (count before : ℕ) → length numbers ≤ count → IsSameOrder numbers before count → IsInTimeOrder numbers
order_whole numbers count before all same =
    let P : List ℕ → Type 0 = λ ns. IsInTimeOrder (before ∷ ns) in
    same.1 (subst P (sym (drop-past numbers count all)) tt)

-- the numbers of the fixes at the ends of the spans of a cell
abbrev pub first_fix : List (List ℕ) → Cell → ℕ → ℕ
first_fix lists cell k = fix_at lists k (span_at (spans_of cell) k).0

abbrev pub last_fix : List (List ℕ) → Cell → ℕ → ℕ
last_fix lists cell k = fix_at lists k (span_at (spans_of cell) k).1

pub first_fix-at : (lists : List (List ℕ)) (cell : Cell) (k : ℕ) (span : Span) (number : ℕ) → Covers (whole_cell lists) (spans_of cell) → k < length lists
    → number ≡ fix_at lists k (get_or cell.spans k span).lo → first_fix lists cell k ≡ number
first_fix-at lists cell k span number covers below is =
    ap (λ (s : ℕ × ℕ). fix_at lists k s.0) (cell-span lists cell k span covers below) ∙ sym is

pub last_fix-at : (lists : List (List ℕ)) (cell : Cell) (k : ℕ) (span : Span) (number : ℕ) → Covers (whole_cell lists) (spans_of cell) → k < length lists
    → number ≡ fix_at lists k (get_or cell.spans k span).hi → last_fix lists cell k ≡ number
last_fix-at lists cell k span number covers below is =
    ap (λ (s : ℕ × ℕ). fix_at lists k s.1) (cell-span lists cell k span covers below) ∙ sym is

-- a span that ends before an earlier one begins disorders the cell
pub lists_past : (lists : List (List ℕ)) (cell : Cell) (count latest : ℕ) → IsSeen (first_fix lists cell) (last_fix lists cell) count latest → count < length lists → last_fix lists cell count < latest
    → IsDisordered lists (spans_of cell)
lists_past lists cell count latest seen below past =
    let at = seen_past (first_fix lists cell) (last_fix lists cell) count latest seen past in
    record { earlier = at.0; later = count; apart = at.1; within = below; above = at.2 }

-- where all were seen the cell isn't disordered
pub lists_seen : (lists : List (List ℕ)) (cell : Cell) (count latest : ℕ) → IsSeen (first_fix lists cell) (last_fix lists cell) count latest → length lists ≤ count → IsDisordered lists (spans_of cell)
    → ⊥
lists_seen lists cell count latest seen all disordered =
    absurd (omega (arith, disordered.above, seen.ordered disordered.earlier disordered.later disordered.apart (omega (arith, disordered.within))))

at_front : (before after : List (List ℕ)) (list : List ℕ) → get_or (before ++ list ∷ after) (length before) [] ≡ list
at_front [] after list = refl
at_front (first ∷ before) after list = at_front before after list

-- the lists so far with those to come are all
list_of_next : (before after all : List (List ℕ)) (list : List ℕ) → before ++ list ∷ after ≡ all → get_or all (length before) [] ≡ list
list_of_next before after all list is = ap (λ (ls : List (List ℕ)). get_or ls (length before) []) (sym is) ∙ at_front before after list

-- the next of some lists is well formed
pub record IsListed (fixes : List Fix) (list : List ℕ) : Type 0 where
  pub some : 0 < length list
  pub rising : IsStrictlyIncreasing list
  pub named : AreNamed fixes list

pub next-listed : (fixes : List Fix) (before after all : List (List ℕ)) (list : List ℕ) → AreLists fixes all → before ++ list ∷ after ≡ all → IsListed fixes list
next-listed fixes before after all list are is =
    let same = list_of_next before after all list is in
    let inside : length before < length all = omega (arith, ap length is, length-append before (list ∷ after)) in
    let P : List ℕ → Type 0 = AreNamed fixes in
    record {
      some = omega (arith, ap length same, are.some_number (length before) [] inside);
      rising = subst IsStrictlyIncreasing same (are.rising (length before) [] inside);
      named = subst P same (are.named (length before) [] inside);
    }

-- the lists before an item of an iterator, with those of the item and after it
next_lists : {V : Type 0} (f : V → List ℕ) (before : List (List ℕ)) (old more : List V) (v : V) (all : List (List ℕ)) → before ++ map f old ≡ all → old ≡ v ∷ more → before ++ f v ∷ map f more ≡ all
next_lists f before old more v all is steps = ap (λ vs. before ++ map f vs) (sym steps) ∙ is

pub item-listed : {V : Type 0} (f : V → List ℕ) (fixes : List Fix) (before : List (List ℕ)) (old more : List V) (v : V) (all : List (List ℕ)) → AreLists fixes all → before ++ map f old ≡ all
    → old ≡ v ∷ more → IsListed fixes (f v)
item-listed f fixes before old more v all are is steps =
    next-listed fixes before (map f more) all (f v) are (next_lists f before old more v all is steps)

then_rest : (before after : List (List ℕ)) (list : List ℕ) → (before ++ list ∷ []) ++ after ≡ before ++ list ∷ after
then_rest [] after list = refl
then_rest (first ∷ before) after list = ap (λ (ls : List (List ℕ)). first ∷ ls) (then_rest before after list)

pub item-taken : {V : Type 0} (f : V → List ℕ) (axes pushed : List Axis) (axis : Axis) (old more : List V) (v : V) (all : List (List ℕ)) → pushed ≡ axes ++ axis ∷ [] → axis.numbers.items ≡ f v
    → lists_of axes ++ map f old ≡ all → old ≡ v ∷ more → lists_of pushed ++ map f more ≡ all
item-taken f axes pushed axis old more v all pushed_is list_is is steps =
    let lists : lists_of pushed ≡ lists_of axes ++ f v ∷ [] = ap lists_of pushed_is ∙ map-append (λ (a : Axis). a.numbers.items) axes (axis ∷ [])
    ∙ ap (λ (l : List ℕ). lists_of axes ++ l ∷ []) list_is in
    ap (λ (ls : List (List ℕ)). ls ++ map f more) lists ∙ then_rest (lists_of axes) (map f more) (f v) ∙ next_lists f (lists_of axes) old more v all is steps

single-hulled : (fixes : List Fix) (axis : Axis) → IsHulled fixes axis → All (IsHulled fixes) (axis ∷ [])
single-hulled fixes axis one zero d below = one
single-hulled fixes axis one (suc k) d below = absurd (omega arith)

pub hulled-more : (fixes : List Fix) (axes pushed : List Axis) (axis : Axis) → pushed ≡ axes ++ axis ∷ [] → All (IsHulled fixes) axes → IsHulled fixes axis → All (IsHulled fixes) pushed
hulled-more fixes axes pushed axis is all one =
    let P : List Axis → Type 0 = All (IsHulled fixes) in
    subst P (sym is) (All-append (IsHulled fixes) axes (axis ∷ []) all (single-hulled fixes axis one))

-- the axes before any list was taken
pub none-taken : {V : Type 0} (f : V → List ℕ) (axes : List Axis) (old all : List V) → axes ≡ [] → old ≡ all → lists_of axes ++ map f old ≡ map f all
none-taken f axes old all none same = ap (λ (list : List Axis). lists_of list ++ map f old) none ∙ ap (map f) same

pub none-hulled : (fixes : List Fix) (axes : List Axis) → axes ≡ [] → All (IsHulled fixes) axes
none-hulled fixes axes none = let P : List Axis → Type 0 = All (IsHulled fixes) in subst P (sym none) (All-nil (IsHulled fixes))

-- the axes once each list was taken
pub all-taken : {V : Type 0} (f : V → List ℕ) (axes : List Axis) (old : List V) (all : List (List ℕ)) → old ≡ [] → lists_of axes ++ map f old ≡ all → lists_of axes ≡ all
all-taken f axes old all none is =
    sym (append-nil (lists_of axes)) ∙ ap (λ vs. lists_of axes ++ map f vs) (sym none) ∙ is

pub all-hulled : (fixes kept : List Fix) (axes : List Axis) (lists : List (List ℕ)) → length fixes ≤ 90_000 → kept ≡ fixes → lists_of axes ≡ lists → AreLists fixes lists → All (IsHulled fixes) axes
    → AreHulled kept axes
all-hulled fixes kept axes lists most same lists_are are hulled =
    let P : List Fix → Type 0 = λ fs. AreHulled fs axes in
    subst P (sym same) (record { most_fixes = most; lists = subst (AreLists fixes) (sym lists_are) are; hulled = hulled })
