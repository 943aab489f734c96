-- A list has one order in which it rises, where no two of its elements tie; so there is one sheet.
use Rattle.std.proofs.Common.{◌≡◌, refl, sym, ap, subst, ◌∙◌, ℕ, zero, suc, ◌+◌, ◌<◌, Bool, true, false, cond, List, [], ◌∷◌, ◌++◌, length, map, get_or, arith}
use Rattle.std.specs.Prelude.{IsTrue, Option, Some, is_none}
use Rattle.std.specs.declared.cmp.Ordering.{Ordering}
use Rattle.std.specs.declared.cmp.Ordering.TheVariants.{Less, Equal, Greater}
use Rattle.std.specs.Cmp.{IsStrictWeakOrder}
use Rattle.std.specs.Cmp.Lexicographic.{nat_list_eq_equiv, slice_cmp, texts_ties}
use Rattle.std.specs.List.{All, AllByRecursion, Contains, flat_map, list_any, sum_by, zip}
use Rattle.std.specs.List.Sorted.{IsSortedBy}
use Rattle.std.specs.Ordering.{is_eq, is_lt, nat_cmp, ordering_reverse, ordering_then}
use Rattle.std.proofs.lemmas.List.{get_or-map, get_or_default, length-map}
use Rattle.std.proofs.lemmas.List.Elements.{All-contains_itself, All-head, All-tail, Contains-append_left, Contains-push, recursion_from_All}
use Rattle.std.proofs.lemmas.List.Folds.{list_any_at}
use Rattle.std.proofs.lemmas.List.Sorted.{All-permutation, ranks_by, sorted_far, sum_by-IsPermutation}
use Rattle.std.proofs.lemmas.List.Sums.{sum_by-cons}
use Rattle.std.proofs.lemmas.Slice.Eq.{bytes_eq-Decides}
use Rattle.std.proofs.lemmas.Slice.Zip.{get_or-zip, length-zip}
use Rattle.csv.specs.Writing.{default_writer, row_text}
use Rattle.gl_task.specs.declared.task.Entrant.{Entrant}
use Rattle.gl_task.specs.declared.task.Task.{Task}
use Rattle.gl_text.specs.Forms.{is_text}
use Rattle.gl_task.specs.Numbers.{none_repeats, repeated_after}
use Rattle.gl_sheet.specs.declared.row.Row.{Row}
use Rattle.gl_sheet.specs.Columns.{fields, heading}
use Rattle.gl_sheet.specs.Sheet.{IsSheet, line_cmp}
use Rattle.gl_sheet.proofs.Standing.{line_cmp_total}

-- what follows the first of a sorted list is sorted
pub rest_sorted : {X : Type 0} (lt : X → X → Bool) (x : X) (xs : List X) → IsSortedBy lt (x ∷ xs) → IsSortedBy lt xs
rest_sorted lt x xs sorted = λ k d low within.
    let same : suc k + 1 ≡ suc (k + 1) = omega arith in
    subst (λ (n : ℕ). lt (get_or (x ∷ xs) n d) (get_or xs k d) ≡ false) same (sorted (suc k) d (omega arith) (omega (arith, within)))

-- 1 where a test holds, else 0
abbrev one_if : Bool → ℕ
one_if true = 1
one_if false = 0

not_counted : {X : Type 0} (lt : X → X → Bool) (x : X) (xs : List X) → AllByRecursion (λ z. lt z x ≡ false) xs → sum_by (λ z. one_if (lt z x)) xs ≡ 0
not_counted lt x [] all = refl
not_counted lt x (z ∷ zs) all =
    let first : one_if (lt z x) ≡ 0 = ap one_if all.0 in
    omega (arith, sum_by-cons (λ y. one_if (lt y x)) z zs, first, not_counted lt x zs all.1)

none_below : {X : Type 0} (lt : X → X → Bool) → IsStrictWeakOrder lt → (x : X) (xs : List X) → IsSortedBy lt (x ∷ xs) → sum_by (λ z. one_if (lt z x)) (x ∷ xs) ≡ 0
none_below lt order x xs sorted =
    not_counted lt x (x ∷ xs) (recursion_from_All (λ z. lt z x ≡ false) (x ∷ xs) (λ k d within. sorted_far lt order (x ∷ xs) sorted 0 k d (omega arith) within))

uncounted : (b : Bool) → one_if b ≡ 0 → b ≡ false
uncounted true e = absurd (omega (arith, e))
uncounted false e = refl

first_low : {X : Type 0} (lt : X → X → Bool) → IsStrictWeakOrder lt → (x y : X) (xs ys : List X) → IsSortedBy lt (x ∷ xs)
    → sum_by (λ z. one_if (lt z x)) (x ∷ xs) ≡ sum_by (λ z. one_if (lt z x)) (y ∷ ys) → lt y x ≡ false
first_low lt order x y xs ys sorted same =
    let none : sum_by (λ z. one_if (lt z x)) (x ∷ xs) ≡ 0 = none_below lt order x xs sorted in
    uncounted (lt y x) (omega (arith, none, same, sum_by-cons (λ z. one_if (lt z x)) y ys))

rest_same : {X : Type 0} (x y : X) (xs ys : List X) → x ≡ y → ((f : X → ℕ) → sum_by f (x ∷ xs) ≡ sum_by f (y ∷ ys)) → (f : X → ℕ) → sum_by f xs ≡ sum_by f ys
rest_same x y xs ys first same f =
    let e : f x ≡ f y = ap f first in
    omega (arith, e, same f, sum_by-cons f x xs, sum_by-cons f y ys)

-- two sorted lists with the same elements, none of which tie, are one
one_order : {X : Type 0} (lt : X → X → Bool) → IsStrictWeakOrder lt → (P : X → Type 0) → ((x y : X) → P x → P y → lt x y ≡ false → lt y x ≡ false → x ≡ y) → (xs ys : List X) → IsSortedBy lt xs
    → IsSortedBy lt ys → All P xs → All P ys → ((f : X → ℕ) → sum_by f xs ≡ sum_by f ys) → xs ≡ ys
one_order lt order P ties [] [] up over of_xs of_ys same = refl
one_order lt order P ties [] (y ∷ ys) up over of_xs of_ys same = absurd (omega (arith, same (λ _. 1), sum_by-cons (λ _. 1) y ys))
one_order lt order P ties (x ∷ xs) [] up over of_xs of_ys same = absurd (omega (arith, same (λ _. 1), sum_by-cons (λ _. 1) x xs))
one_order lt order P ties (x ∷ xs) (y ∷ ys) up over of_xs of_ys same =
    let first : x ≡ y = ties x y (All-head P x xs of_xs) (All-head P y ys of_ys) (first_low lt order y x ys xs over (sym (same (λ z. one_if (lt z y)))))
    (first_low lt order x y xs ys up (same (λ z. one_if (lt z x)))) in
    let rest : xs ≡ ys = one_order lt order P ties xs ys (rest_sorted lt x xs up) (rest_sorted lt y ys over) (All-tail P x xs of_xs) (All-tail P y ys of_ys) (rest_same x y xs ys first same) in
    ap (λ z. z ∷ xs) first ∙ ap (λ zs. y ∷ zs) rest

none_repeated : (test : Bool) (n : ℕ) (rest : Option ℕ) → is_none (cond test (Some n) rest) ≡ true → (test ≡ false) × (is_none rest ≡ true)
none_repeated true n rest none = absurd (cc)
none_repeated false n rest none = (refl, none)

-- where no text is repeated, none of those that come is one of those before
apart : (before texts : List (List ℕ)) (n k : ℕ) (d text : List ℕ) → is_none (repeated_after before n texts) ≡ true → k < length texts → Contains before text → get_or texts k d ≡ text → ⊥
apart before [] n k d text none within among same = omega (arith, within)
apart before (t ∷ ts) n zero d text none within among same =
    let new : list_any (is_text t) before ≡ false = (none_repeated (list_any (is_text t) before) n (repeated_after (before ++ t ∷ []) (n + 1) ts) none).0 in
    let found : list_any (is_text t) before ≡ true = list_any_at (is_text t) before among.0 text among.1 (ap (is_text t) (among.2 ∙ sym same) ∙ nat_list_eq_equiv.refl t) in
    cc
apart before (t ∷ ts) n (suc k) d text none within among same =
    let rest = (none_repeated (list_any (is_text t) before) n (repeated_after (before ++ t ∷ []) (n + 1) ts) none).1 in
    apart (before ++ t ∷ []) ts (n + 1) k d text rest (omega (arith, within)) (Contains-append_left before (t ∷ []) text among) same

-- texts that aren't repeated differ
differ : (before texts : List (List ℕ)) (n i j : ℕ) (d : List ℕ) → is_none (repeated_after before n texts) ≡ true → i < j → j < length texts → get_or texts j d ≡ get_or texts i d → ⊥
differ before [] n i j d none low within same = omega (arith, within)
differ before (t ∷ ts) n i zero d none low within same = omega (arith, low)
differ before (t ∷ ts) n zero (suc j) d none low within same =
    let rest = (none_repeated (list_any (is_text t) before) n (repeated_after (before ++ t ∷ []) (n + 1) ts) none).1 in
    apart (before ++ t ∷ []) ts (n + 1) j d t rest (omega (arith, within)) (Contains-push before t) same
differ before (t ∷ ts) n (suc i) (suc j) d none low within same =
    let rest = (none_repeated (list_any (is_text t) before) n (repeated_after (before ++ t ∷ []) (n + 1) ts) none).1 in
    differ (before ++ t ∷ []) ts (n + 1) i j d rest (omega (arith, low)) (omega (arith, within)) same

-- the place of an entrant is known by the number
one_place : (texts : List (List ℕ)) (i j : ℕ) (d : List ℕ) → is_none (repeated_after [] 1 texts) ≡ true → i < length texts → j < length texts → get_or texts i d ≡ get_or texts j d → i ≡ j
one_place texts i j d none first second same =
    let low : i < j → ⊥ = λ h. differ [] texts 1 i j d none h second (sym same) in
    let high : j < i → ⊥ = λ h. differ [] texts 1 j i d none h first same in
    omega (arith, low, high)

-- two lines whose entrants have one number are one
one_line : (entrants : List Entrant) (rows : List Row) (a b : Entrant × Row) → IsTrue (none_repeats (map (λ entrant. entrant.number) entrants)) → Contains (zip entrants rows) a
    → Contains (zip entrants rows) b → a.0.number ≡ b.0.number → a ≡ b
one_line entrants rows a b none first second same =
    let number = λ (entrant : Entrant). entrant.number in
    let i = first.0 in
    let j = second.0 in
    let i_entrant : i < length entrants = omega (arith, first.1, length-zip entrants rows) in
    let j_entrant : j < length entrants = omega (arith, second.1, length-zip entrants rows) in
    let i_row : i < length rows = omega (arith, first.1, length-zip entrants rows) in
    let j_row : j < length rows = omega (arith, second.1, length-zip entrants rows) in
    let i_pair : a ≡ (get_or entrants i a.0, get_or rows i a.1) = sym first.2 ∙ get_or-zip entrants rows i a i_entrant i_row in
    let j_pair : b ≡ (get_or entrants j b.0, get_or rows j b.1) = sym second.2 ∙ get_or-zip entrants rows j b j_entrant j_row in
    let i_number : get_or (map number entrants) i [] ≡ a.0.number = get_or-map number entrants i a.0 [] i_entrant ∙ sym (ap (λ (p : Entrant × Row). p.0.number) i_pair) in
    let j_number : get_or (map number entrants) j [] ≡ b.0.number = get_or-map number entrants j b.0 [] j_entrant ∙ sym (ap (λ (p : Entrant × Row). p.0.number) j_pair) in
    let i_in : i < length (map number entrants) = omega (arith, i_entrant, length-map entrants number) in
    let j_in : j < length (map number entrants) = omega (arith, j_entrant, length-map entrants number) in
    let place : i ≡ j = one_place (map number entrants) i j [] none i_in j_in (i_number ∙ same ∙ sym j_number) in
    sym first.2 ∙ ap (λ n. get_or (zip entrants rows) n a) place ∙ get_or_default (zip entrants rows) j a b second.1 ∙ second.2

second_equal : (first second : Ordering) → ordering_then first second ≡ Equal → second ≡ Equal
second_equal Less second e = absurd (cc)
second_equal Equal second e = e
second_equal Greater second e = absurd (cc)

neither_less : (one other : Ordering) → one ≡ ordering_reverse other → is_lt one ≡ false → is_lt other ≡ false → one ≡ Equal
neither_less Less other e up down = absurd (cc)
neither_less Equal other e up down = refl
neither_less Greater Less e up down = absurd (cc)
neither_less Greater Equal e up down = absurd (cc)
neither_less Greater Greater e up down = absurd (cc)

-- lines that tie have one number
tie_number : (a b : Entrant × Row) → is_lt (line_cmp a b) ≡ false → is_lt (line_cmp b a) ≡ false → a.0.number ≡ b.0.number
tie_number a b up down =
    let equal = neither_less (line_cmp a b) (line_cmp b a) (line_cmp_total.antisymm a b) up down in
    let bytes : slice_cmp nat_cmp a.0.number b.0.number ≡ Equal = second_equal (nat_cmp b.1.points a.1.points) (slice_cmp nat_cmp a.0.number b.0.number) equal in
    (bytes_eq-Decides a.0.number b.0.number).0 (texts_ties a.0.number b.0.number ∙ ap is_eq bytes)

pub one_text : (task : Task) (rows : List Row) (one other : List ℕ) → IsSheet task.entrants rows one → IsSheet task.entrants rows other → one ≡ other
one_text task rows one other first second =
    let pairs = zip task.entrants rows in
    let lt = λ (a b : Entrant × Row). is_lt (line_cmp a b) in
    let same : (f : Entrant × Row → ℕ) → sum_by f first.lines ≡ sum_by f second.lines = λ f. sum_by-IsPermutation f pairs first.lines first.all
    ∙ sym (sum_by-IsPermutation f pairs second.lines second.all) in
    let whole = All-contains_itself pairs in
    let ties : (a b : Entrant × Row) → Contains pairs a → Contains pairs b → lt a b ≡ false → lt b a ≡ false → a ≡ b =
    λ a b of_a of_b up down. one_line task.entrants rows a b task.numbers_differ of_a of_b (tie_number a b up down) in
    let order : first.lines ≡ second.lines = one_order lt (ranks_by line_cmp_total (λ (line : Entrant × Row). line)) (Contains pairs) ties first.lines second.lines first.in_order second.in_order
    (All-permutation (Contains pairs) pairs first.lines first.all whole) (All-permutation (Contains pairs) pairs second.lines second.all whole) same in
    first.written ∙ ap (λ (lines : List (Entrant × Row)). flat_map (row_text default_writer) (heading ∷ map (fields rows) lines)) order ∙ sym second.written
