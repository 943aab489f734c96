-- Each list has an order in which it rises; so there is a sheet.
use Rattle.std.proofs.Common.{◌≡◌, refl, subst, ℕ, zero, suc, ◌+◌, Bool, true, false, List, [], ◌∷◌, map, get_or, arith}
use Rattle.std.specs.Cmp.{IsStrictWeakOrder}
use Rattle.std.specs.List.{All, flat_map, zip}
use Rattle.std.specs.List.Sorted.{IsPermutation, IsSortedBy}
use Rattle.std.specs.Ordering.{is_lt}
use Rattle.std.proofs.lemmas.List.Elements.{All-cons, All-nil, All-tail, All-weaker}
use Rattle.std.proofs.lemmas.List.Sorted.{All-permutation, IsPermutation-cons, IsPermutation-middle, IsPermutation-refl, IsPermutation-trans, ranks_by, sorted_far}
use Rattle.csv.specs.Writing.{default_writer, row_text}
use Rattle.gl_task.specs.declared.task.Entrant.{Entrant}
use Rattle.gl_sheet.specs.declared.row.Row.{Row}
use Rattle.gl_sheet.specs.Columns.{fields, heading}
use Rattle.gl_sheet.specs.Sheet.{IsSheet, line_cmp}
use Rattle.gl_sheet.proofs.OneOrder.{rest_sorted}
use Rattle.gl_sheet.proofs.Standing.{line_cmp_total}

-- one more in front, where none is below it
sorted_cons : {X : Type 0} (lt : X → X → Bool) (x : X) (xs : List X) → All (λ z. lt z x ≡ false) xs → IsSortedBy lt xs → IsSortedBy lt (x ∷ xs)
sorted_cons lt x xs none sorted zero d low within = none 0 d (omega (arith, within))
sorted_cons lt x xs none sorted (suc k) d low within =
    let same : suc (k + 1) ≡ suc k + 1 = omega arith in
    subst (λ (n : ℕ). lt (get_or (x ∷ xs) n d) (get_or xs k d) ≡ false) same (sorted k d (omega arith) (omega (arith, within)))

-- none of those after the first is below it
none_below_first : {X : Type 0} (lt : X → X → Bool) → IsStrictWeakOrder lt → (x : X) (xs : List X) → IsSortedBy lt (x ∷ xs) → All (λ z. lt z x ≡ false) xs
none_below_first lt order x xs sorted =
    All-tail (λ z. lt z x ≡ false) x xs (λ k d within. sorted_far lt order (x ∷ xs) sorted 0 k d (omega arith) within)

-- one item put into a list
record IsPutInto {X : Type 0} (lt : X → X → Bool) (x : X) (xs ys : List X) : Type 0 where
  moved : IsPermutation (x ∷ xs) ys
  sorted : IsSortedBy lt ys

exchanged : {X : Type 0} (x y : X) (ys : List X) → IsPermutation (x ∷ y ∷ ys) (y ∷ x ∷ ys)
exchanged x y ys = IsPermutation-middle (x ∷ []) y ys

put_tested : {X : Type 0} (lt : X → X → Bool) → IsStrictWeakOrder lt → (x y : X) (ys : List X) (test : Bool) → lt y x ≡ test → IsSortedBy lt (y ∷ ys) → (zs : List X) × IsPutInto lt x ys zs
    → (zs : List X) × IsPutInto lt x (y ∷ ys) zs
put_tested {X} lt order x y ys true is sorted rest =
    let P : X → Type 0 = λ z. lt z y ≡ false in
    let all = All-permutation P (x ∷ ys) rest.0 rest.1.moved (All-cons P x ys (order.one_way y x is) (none_below_first lt order y ys sorted)) in (
      y ∷ rest.0,
      record {
        moved = IsPermutation-trans (x ∷ y ∷ ys) (y ∷ x ∷ ys) (y ∷ rest.0) (exchanged x y ys) (IsPermutation-cons y (x ∷ ys) rest.0 rest.1.moved);
        sorted = sorted_cons lt y rest.0 all rest.1.sorted;
      },
    )
put_tested lt order x y ys false is sorted rest =
    let none = All-weaker (λ z. lt z y ≡ false) (λ z. lt z x ≡ false) (λ z below. order.chain z y x below is) ys (none_below_first lt order y ys sorted) in (
      x ∷ y ∷ ys,
      record {
        moved = IsPermutation-refl (x ∷ y ∷ ys);
        sorted = sorted_cons lt x (y ∷ ys) (All-cons (λ z. lt z x ≡ false) y ys is none) sorted;
      },
    )

-- an item has a place in a sorted list
some_place : {X : Type 0} (lt : X → X → Bool) → IsStrictWeakOrder lt → (x : X) (ys : List X) → IsSortedBy lt ys → (zs : List X) × IsPutInto lt x ys zs
some_place lt order x [] sorted =
    (x ∷ [], record { moved = IsPermutation-refl (x ∷ []); sorted = sorted_cons lt x [] (All-nil (λ z. lt z x ≡ false)) sorted })
some_place lt order x (y ∷ ys) sorted =
    put_tested lt order x y ys (lt y x) refl sorted (some_place lt order x ys (rest_sorted lt y ys sorted))

-- each list has an order in which it rises
pub some_order : {X : Type 0} (lt : X → X → Bool) → IsStrictWeakOrder lt → (xs : List X) → (ys : List X) × IsPermutation xs ys × IsSortedBy lt ys
some_order lt order [] = ([], IsPermutation-refl [], λ k d low within. absurd (omega (arith, within)))
some_order lt order (x ∷ xs) =
    let rest = some_order lt order xs in
    let put = some_place lt order x rest.0 rest.2 in
    (put.0, IsPermutation-trans (x ∷ xs) (x ∷ rest.0) put.0 (IsPermutation-cons x xs rest.0 rest.1) put.1.moved, put.1.sorted)

-- entrants and rows have a sheet
pub some_text : (entrants : List Entrant) (rows : List Row) → (text : List ℕ) × IsSheet entrants rows text
some_text entrants rows =
    let sorted = some_order (λ a b. is_lt (line_cmp a b)) (ranks_by line_cmp_total (λ (line : Entrant × Row). line)) (zip entrants rows) in
    (flat_map (row_text default_writer) (heading ∷ map (fields rows) sorted.0), record { lines = sorted.0; all = sorted.1; in_order = sorted.2; written = refl })
