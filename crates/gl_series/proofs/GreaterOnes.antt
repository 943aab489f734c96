-- How many totals are greater than one, from the place behind those that aren't.
use Rattle.std.proofs.Common.{◌≡◌, ap, refl, ℕ, ◌+◌, ◌-◌, ◌<◌, ◌≤◌, Bool, true, false, leb, leb-true, List, [], ◌∷◌, length, get_or, take, drop, arith}
use Rattle.std.specs.Prelude.{All, cond, count_by, nat_lt}
use Rattle.std.specs.List.Sorted.{IsPartitionPoint}
use Rattle.std.proofs.lemmas.Bool.{le-ltb, leb-false, lt-ltb}
use Rattle.std.proofs.lemmas.List.{get_or-drop, get_or-take, length-drop, length-take-le}
use Rattle.std.proofs.lemmas.List.Elements.{All-from_get_or, All-head, All-tail}
use Rattle.std.proofs.lemmas.List.Sums.{sum_by-cons, sum_by-take-drop}
use Rattle.gl_series.specs.Totals.{rank_of}

module _ (total : ℕ) where
  abbrev worth : ℕ → ℕ
  worth other = cond (nat_lt total other) 1 0

  none_greater : (xs : List ℕ) → All (λ x. x ≤ total) xs → count_by (nat_lt total) xs ≡ 0
  none_greater [] low = refl
  none_greater (x ∷ xs) low =
      let nothing : worth x ≡ 0 = ap (λ (b : Bool). cond b 1 0) (le-ltb total x (All-head (λ y. y ≤ total) x xs low)) in
      omega (arith, nothing, sum_by-cons worth x xs, none_greater xs (All-tail (λ y. y ≤ total) x xs low))

  all_greater : (xs : List ℕ) → All (λ x. total < x) xs → count_by (nat_lt total) xs ≡ length xs
  all_greater [] high = refl
  all_greater (x ∷ xs) high =
      let one : worth x ≡ 1 = ap (λ (b : Bool). cond b 1 0) (lt-ltb total x (All-head (λ y. total < y) x xs high)) in
      omega (arith, one, sum_by-cons worth x xs, all_greater xs (All-tail (λ y. total < y) x xs high))

  pub rank_at : (totals : List ℕ) (place : ℕ) → place ≤ length totals → IsPartitionPoint (λ y. leb y total ≡ true) (λ y. leb y total ≡ false) totals place
      → rank_of totals total ≡ length totals - place + 1
  rank_at totals place within point =
      let long = length-take-le place totals within in
      let front : All (λ x. x ≤ total) (take place totals) = All-from_get_or (λ x. x ≤ total) (take place totals) 0 (λ k below.
      let before : k < place = omega (arith, below, long) in
      let is : get_or (take place totals) k 0 ≡ get_or totals k 0 = get_or-take place totals k 0 before in
      omega (arith, is, leb-true (get_or totals k 0) total (point.0 k 0 (omega arith) before))) in
      let back : All (λ x. total < x) (drop place totals) = All-from_get_or (λ x. total < x) (drop place totals) 0 (λ k below.
      let within : place + k < length totals = omega (arith, below, length-drop place totals) in
      let is : get_or (drop place totals) k 0 ≡ get_or totals (place + k) 0 = get_or-drop place totals k 0 in
      omega (arith, is, leb-false (get_or totals (place + k) 0) total (point.1 (place + k) 0 (omega arith) within))) in
      omega (arith, none_greater (take place totals) front, all_greater (drop place totals) back, sum_by-take-drop worth totals place, length-drop place totals)
