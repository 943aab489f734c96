-- The figures of the same performances in another order.
use Rattle.std.proofs.Common.{◌≡◌, refl, sym, ap, subst, ◌∙◌, ℕ, ◌<◌, ◌≤◌, Bool, true, false, List, [], ◌∷◌, length, map, filter, cond, min, fold, Some, arith, inl, inr}
use Rattle.std.specs.Prelude.{All}
use Rattle.std.specs.List.Sorted.{IsPermutation}
use Rattle.std.proofs.lemmas.Bool.{cases_lt}
use Rattle.std.proofs.lemmas.Bool.Decides.{nat_tests}
use Rattle.std.proofs.lemmas.List.Elements.{All-nil, All-cons, All-contains, All-filter, All-head, All-map, All-tail, filter_passes}
use Rattle.std.proofs.lemmas.List.Sums.{length-filter}
use Rattle.std.proofs.lemmas.List.Sorted.{sum_by-IsPermutation}
use Rattle.gl_points.specs.declared.performance.Performance.{Performance}
use Rattle.gl_points.specs.Fraction.{Fraction, IsAtMost, is_at_most, is_same, whole, IsSame}
use Rattle.gl_points.specs.Figures.{IsGreatestFigure, least_number}
use Rattle.gl_points.proofs.Least.{fold_min_low}
use Rattle.gl_points.proofs.Held.{all_from_filter}
use Rattle.gl_points.proofs.Orders.{at_most_trans, same_trans, same_sym}

-- what passes a test in lists with the same items
pub also_filtered : {X : Type 0} (test : X → Bool) (xs ys : List X) → ((P : X → Type 0) → All P xs → All P ys) → (P : X → Type 0) → All P (filter test xs) → All P (filter test ys)
also_filtered test xs ys also P held =
    let each = All-filter test (λ x. test x ≡ true → P x) ys (also (λ x. test x ≡ true → P x) (all_from_filter P test xs held)) in
    let passes = filter_passes test ys in
    λ k d within. each k d within (passes k d within)

all_from_map : {X : Type 0} {Y : Type 0} (P : Y → Type 0) (f : X → Y) (xs : List X) → All P (map f xs) → All (λ x. P (f x)) xs
all_from_map P f [] held = All-nil (λ x. P (f x))
all_from_map P f (x ∷ xs) held = All-cons (λ y. P (f y)) x xs (All-head P (f x) (map f xs) held) (all_from_map P f xs (All-tail P (f x) (map f xs) held))

-- a figure of each
pub also_mapped : {X : Type 0} {Y : Type 0} (f : X → Y) (xs ys : List X) → ((P : X → Type 0) → All P xs → All P ys) → (P : Y → Type 0) → All P (map f xs) → All P (map f ys)
also_mapped f xs ys also P held = All-map P f ys (also (λ x. P (f x)) (all_from_map P f xs held))

-- how many pass
filter_filter : {X : Type 0} (first second : X → Bool) (xs : List X) → filter second (filter first xs) ≡ filter (λ x. cond (first x) (second x) false) xs
filter_filter first second [] = refl
filter_filter first second (x ∷ xs) = elim (first x) as (λ b. filter second (cond b (x ∷ filter first xs) (filter first xs))
    ≡ cond (cond b (second x) false) (x ∷ filter (λ y. cond (first y) (second y) false) xs) (filter (λ y. cond (first y) (second y) false) xs)) [
      | true ↦ ap (λ rest. cond (second x) (x ∷ rest) rest) (filter_filter first second xs)
      | false ↦ filter_filter first second xs
    ]

pub count_alike : {X : Type 0} (test : X → Bool) (xs ys : List X) → IsPermutation xs ys → length (filter test ys) ≡ length (filter test xs)
count_alike test xs ys same = length-filter test ys ∙ sum_by-IsPermutation (λ x. cond (test x) 1 0) xs ys same ∙ sym (length-filter test xs)

pub count_both_alike : {X : Type 0} (first second : X → Bool) (xs ys : List X) → IsPermutation xs ys → length (filter second (filter first ys)) ≡ length (filter second (filter first xs))
count_both_alike {X} first second xs ys same =
    let both : X → Bool = λ x. cond (first x) (second x) false in
    ap length (filter_filter first second ys) ∙ count_alike both xs ys same ∙ sym (ap length (filter_filter first second xs))

-- the greatest of a figure is no greater in a list with the same items
pub greatest_alike : (figure : Performance → Fraction) (xs ys : List Performance) (first second : Fraction) → ((P : Performance → Type 0) → All P ys → All P xs) → IsGreatestFigure figure xs first
    → IsGreatestFigure figure ys second → IsAtMost first second
greatest_alike figure xs ys first second also ours theirs =
    let P : Fraction → Type 0 = λ each. IsAtMost each second in
    All-contains P (whole 0 ∷ map figure xs) first (All-cons P (whole 0) (map figure xs) (omega arith) (All-map P figure xs (also (λ p. IsAtMost (figure p) second) theirs.above))) ours.among

-- the least of some numbers is one of them, and none is below it
min_held : (P : ℕ → Type 0) (x y : ℕ) → P x → P y → P (min x y)
min_held P x y first second = elim (cases_lt x y) [
  | inl less ↦ let e : x ≡ min x y = omega arith in subst P e first
  | inr more ↦ let e : y ≡ min x y = omega arith in subst P e second
]

fold_min_held : (P : ℕ → Type 0) (x : ℕ) (xs : List ℕ) → All P (x ∷ xs) → P (fold min x xs)
fold_min_held P x [] held = All-head P x [] held
fold_min_held P x (y ∷ ys) held =
    let rest = All-tail P x (y ∷ ys) held in
    fold_min_held P (min x y) ys (All-cons P (min x y) ys (min_held P x y (All-head P x (y ∷ ys) held) (All-head P y ys rest)) (All-tail P y ys rest))

fold_min_all : (x : ℕ) (xs : List ℕ) → All (λ n. fold min x xs ≤ n) (x ∷ xs)
fold_min_all x [] = All-cons (λ n. x ≤ n) x [] (omega arith) (All-nil (λ n. x ≤ n))
fold_min_all x (y ∷ ys) =
    let least = fold min (min x y) ys in
    let rest = fold_min_all (min x y) ys in
    let low : least ≤ min x y = fold_min_low (min x y) ys in
    All-cons (λ n. least ≤ n) x (y ∷ ys) (omega arith) (All-cons (λ n. least ≤ n) y ys (omega arith) (All-tail (λ n. least ≤ n) (min x y) ys rest))

pub least_alike : (xs ys : List ℕ) → ((P : ℕ → Type 0) → All P xs → All P ys) → ((P : ℕ → Type 0) → All P ys → All P xs) → least_number ys ≡ least_number xs
least_alike [] [] there back = refl
least_alike [] (y ∷ ys) there back = absurd (All-head (λ n. ⊥) y ys (there (λ n. ⊥) (All-nil (λ n. ⊥))))
least_alike (x ∷ xs) [] there back = absurd (All-head (λ n. ⊥) x xs (back (λ n. ⊥) (All-nil (λ n. ⊥))))
least_alike (x ∷ xs) (y ∷ ys) there back =
    let left : fold min x xs ≤ fold min y ys = fold_min_held (λ n. fold min x xs ≤ n) y ys (there (λ n. fold min x xs ≤ n) (fold_min_all x xs)) in
    let right : fold min y ys ≤ fold min x xs = fold_min_held (λ n. fold min y ys ≤ n) x xs (back (λ n. fold min y ys ≤ n) (fold_min_all y ys)) in
    let e : fold min y ys ≡ fold min x xs = omega (arith, left, right) in
    ap (λ n. Some n) e

-- tests of which each passes where the other does
pub tests_alike : (b c : Bool) → (b ≡ true → c ≡ true) → (c ≡ true → b ≡ true) → b ≡ c
tests_alike true c there back = sym (there refl)
tests_alike false true there back = back refl
tests_alike false false there back = refl

-- a comparison with one of two fractions that are one number
pub at_most_alike : (a b c : Fraction) → 0 < b.den → 0 < c.den → IsSame b c → is_at_most a b ≡ is_at_most a c
at_most_alike a b c first second same = tests_alike (is_at_most a b) (is_at_most a c)
    (λ low. let h : IsAtMost a b = grind (arith, nat_tests) in let k : IsAtMost a c = at_most_trans a b c first h (omega arith) in grind (arith, nat_tests))
    (λ low. let h : IsAtMost a c = grind (arith, nat_tests) in let k : IsAtMost a b = at_most_trans a c b second h (omega arith) in grind (arith, nat_tests))

pub same_alike : (a b c : Fraction) → 0 < b.den → 0 < c.den → IsSame b c → is_same a b ≡ is_same a c
same_alike a b c first second same = tests_alike (is_same a b) (is_same a c)
    (λ one. let h : IsSame a b = grind (arith, nat_tests) in let k : IsSame a c = same_trans a b c first h same in grind (arith, nat_tests))
    (λ one. let h : IsSame a c = grind (arith, nat_tests) in let k : IsSame a b = same_trans a c b second h (same_sym b c same) in grind (arith, nat_tests))
