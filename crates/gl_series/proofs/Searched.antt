-- What a search by texts finds, and which texts stand before others.
use Rattle.std.proofs.Common.{Bor, ◌≡◌, ◌≢◌, ◌∙◌, sym, ap, refl, ℕ, ◌<◌, ◌≤◌, false, List, length, map, get_or, arith, ⊎_elim}
use Rattle.std.specs.Prelude.{All, AllPairs, Contains}
use Rattle.std.specs.declared.cmp.Ordering.{Ordering}
use Rattle.std.specs.declared.cmp.Ordering.TheVariants.{Less, Equal, Greater}
use Rattle.std.specs.Cmp.{tied_itself}
use Rattle.std.specs.Cmp.Lexicographic.{nat_list_cmp_total, texts_ties}
use Rattle.std.specs.List.Sorted.{IsNonDecreasingBy, IsPartitionPoint, IsPermutation, IsSorted}
use Rattle.std.specs.Ordering.{is_eq, is_lt, ordering_index, ordering_reverse}
use Rattle.std.proofs.lemmas.Bool.{cases_lt}
use Rattle.std.proofs.lemmas.List.{get_or-map, length-map}
use Rattle.std.proofs.lemmas.List.Elements.{All-map}
use Rattle.std.proofs.lemmas.List.Sorted.{All-permutation, Contains-permutation, IsPermutation-sym, ranks_by, searchable_from_sorted, sorted_far}
use Rattle.std.proofs.lemmas.Slice.Eq.{bytes_eq-Decides}
use Rattle.gl_series.specs.Code.Tallies.{text_cmp}

pub equal_texts : (a b : List ℕ) → text_cmp a b ≡ Equal → a ≡ b
equal_texts a b equal = (bytes_eq-Decides a b).0 (texts_ties a b ∙ ap is_eq equal)

same_texts : (a b : List ℕ) → a ≡ b → text_cmp a b ≡ Equal
same_texts a b same = ap (λ (t : List ℕ). text_cmp t b) same ∙ tied_itself nat_list_cmp_total b

neither_less : (one other : Ordering) → one ≡ ordering_reverse other → is_lt one ≡ false → is_lt other ≡ false → one ≡ Equal
neither_less Less other e up down = absurd (cc)
neither_less Equal other e up down = refl
neither_less Greater Less e up down = absurd (cc)
neither_less Greater Equal e up down = absurd (cc)
neither_less Greater Greater e up down = absurd (cc)

-- texts of which neither stands before the other are the same
pub tied_texts : (a b : List ℕ) → is_lt (text_cmp a b) ≡ false → is_lt (text_cmp b a) ≡ false → a ≡ b
tied_texts a b up down = equal_texts a b (neither_less (text_cmp a b) (text_cmp b a) (nat_list_cmp_total.antisymm a b) up down)

module _ {X : Type 0} (text_of : X → List ℕ) where
  -- a search that finds no place finds no such text
  pub none_found : (xs : List X) (text : List ℕ) (i : ℕ) → IsSorted (λ one other. text_cmp (text_of one) (text_of other)) xs
      → (IsNonDecreasingBy (λ x. ordering_index (text_cmp (text_of x) text)) xs → IsPartitionPoint (λ x. text_cmp (text_of x) text ≡ Less) (λ x. text_cmp (text_of x) text ≡ Greater) xs i)
      → All (λ x. text_of x ≢ text) xs
  none_found xs text i sorted point =
      let parted = point (searchable_from_sorted nat_list_cmp_total text_of xs text sorted) in
      λ k d within same.
      let equal = same_texts (text_of (get_or xs k d)) text same in
      ⊎_elim
      (λ (before : k < i).
      let less : text_cmp (text_of (get_or xs k d)) text ≡ Less = parted.0 k d (omega arith) before in
      let clash : Less ≡ Equal = sym less ∙ equal in
      absurd (cc))
      (λ (behind : i ≤ k).
      let greater : text_cmp (text_of (get_or xs k d)) text ≡ Greater = parted.1 k d behind within in
      let clash : Greater ≡ Equal = sym greater ∙ equal in
      absurd (cc))
      (cases_lt k i)

  -- in a sorted list none stands before an earlier one
  pub sorted_pairs : (xs : List X) → IsSorted (λ one other. text_cmp (text_of one) (text_of other)) xs → AllPairs (λ one other. is_lt (text_cmp (text_of other) (text_of one)) ≡ false) xs
  sorted_pairs xs sorted = λ i j d below within.
      sorted_far (λ one other. is_lt (text_cmp (text_of one) (text_of other))) (ranks_by nat_list_cmp_total text_of) xs sorted i j d (omega (arith, below)) within

module _ {X : Type 0} (text_of : X → List ℕ) (whole : List X) (refs : List (Bor X)) (moved : IsPermutation whole (map (λ one. one.now) refs)) where
  -- so of a list whose items are looked up by their places in another order
  pub none_among : (text : List ℕ) (i : ℕ) → IsSorted (λ one other. text_cmp (text_of one.now) (text_of other.now)) refs
      → (IsNonDecreasingBy (λ x. ordering_index (text_cmp (text_of x.now) text)) refs
      → IsPartitionPoint (λ x. text_cmp (text_of x.now) text ≡ Less) (λ x. text_cmp (text_of x.now) text ≡ Greater) refs i) → All (λ x. text_of x ≢ text) whole
  none_among text i sorted point =
      let P : X → Type 0 = λ x. text_of x ≢ text in
      let back = IsPermutation-sym whole (map (λ one. one.now) refs) moved in
      All-permutation P (map (λ one. one.now) refs) whole back (All-map P (λ (one : Bor X). one.now) refs (none_found (λ (one : Bor X). text_of one.now) refs text i sorted point))

  pub one_among : (place : ℕ) (ref : Bor X) → place < length refs → ref ≡ get_or refs place ref → Contains whole ref.now
  one_among place ref inside at =
      let now : Bor X → X = λ one. one.now in
      let back = IsPermutation-sym whole (map now refs) moved in
      Contains-permutation (map now refs) whole ref.now back
      (place, omega (arith, inside, length-map refs now), get_or-map now refs place ref ref.now inside ∙ ap now (sym at))
