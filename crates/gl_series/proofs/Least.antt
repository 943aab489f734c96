-- The greatest sum over the choices that leave out so many is that over all but the least ones.
use Rattle.std.proofs.Common.{◌≡◌, ◌∙◌, sym, ap, subst, refl, ℕ, ◌+◌, ◌-◌, ◌<◌, ◌≤◌, List, [], ◌∷◌, ◌++◌, length, map, get_or, take, drop, arith}
use Rattle.std.specs.Prelude.{All, min, sum_by}
use Rattle.std.specs.List.Sorted.{IsNonDecreasingBy, IsPermutation}
use Rattle.std.proofs.lemmas.List.{drop-map, drop_all, get_or-drop, get_or-map, get_or-take, length-append, length-drop, length-map, length-take-le, take-append-drop, take-map}
use Rattle.std.proofs.lemmas.List.Elements.{All-drop, All-from_get_or, All-head, All-tail, All-take}
use Rattle.std.proofs.lemmas.List.Sorted.{All-permutation, IsPermutation-append_comm, IsPermutation-map, IsPermutation-sym, IsPermutation-trans, length_permutation, sum_by-IsPermutation}
use Rattle.std.proofs.lemmas.List.Sums.{sum_by-append, sum_by-cons, sum_by-take-drop}
use Rattle.gl_series.specs.declared.day.DaySheet.{DaySheet}
use Rattle.gl_series.specs.declared.scored.Scored.{Scored}
use Rattle.gl_series.specs.Choices.{IsChoice, points_on}
use Rattle.gl_series.specs.Code.Tallies.{AreInOrder, AreScored, IsTally}

module _ {X : Type 0} (p : X → ℕ) where
  -- a number for each item
  same_for_each : (t : ℕ) (xs ys : List X) → length xs ≡ length ys → sum_by (λ x. t) xs ≡ sum_by (λ x. t) ys
  same_for_each t [] [] same = refl
  same_for_each t [] (y ∷ ys) same = absurd (omega (arith, same))
  same_for_each t (x ∷ xs) [] same = absurd (omega (arith, same))
  same_for_each t (x ∷ xs) (y ∷ ys) same =
      omega (arith, same_for_each t xs ys (omega (arith, same)), sum_by-cons (λ z. t) x xs, sum_by-cons (λ z. t) y ys)

  any_sum : (t : ℕ) (xs : List X) → sum_by (λ x. t) xs ≤ sum_by p xs + sum_by (λ x. t - p x) xs
  any_sum t [] = omega arith
  any_sum t (x ∷ xs) = omega (arith, any_sum t xs, sum_by-cons (λ z. t) x xs, sum_by-cons p x xs, sum_by-cons (λ z. t - p z) x xs)

  low_sum : (t : ℕ) (xs : List X) → All (λ x. p x ≤ t) xs → sum_by p xs + sum_by (λ x. t - p x) xs ≡ sum_by (λ x. t) xs
  low_sum t [] low = refl
  low_sum t (x ∷ xs) low =
      omega (arith, All-head (λ z. p z ≤ t) x xs low, low_sum t xs (All-tail (λ z. p z ≤ t) x xs low), sum_by-cons (λ z. t) x xs, sum_by-cons p x xs, sum_by-cons (λ z. t - p z) x xs)

  high_sum : (t : ℕ) (xs : List X) → All (λ x. t ≤ p x) xs → sum_by (λ x. t - p x) xs ≡ 0
  high_sum t [] high = refl
  high_sum t (x ∷ xs) high =
      omega (arith, All-head (λ z. t ≤ p z) x xs high, high_sum t xs (All-tail (λ z. t ≤ p z) x xs high), sum_by-cons (λ z. t - p z) x xs)

  front_low : (s : List X) (d : ℕ) (x : X) → IsNonDecreasingBy p s → d < length s → All (λ y. p y ≤ p (get_or s d x)) (take d s)
  front_low s d x rising inside = All-from_get_or (λ y. p y ≤ p (get_or s d x)) (take d s) x (λ k within.
      let before : k < d = omega (arith, within, length-take-le d s (omega (arith, inside))) in
      subst (λ (y : X). p y ≤ p (get_or s d x)) (sym (get_or-take d s k x before)) (rising k d x (omega (arith, before)) inside))

  back_high : (s : List X) (d : ℕ) (x : X) → IsNonDecreasingBy p s → d < length s → All (λ y. p (get_or s d x) ≤ p y) (drop d s)
  back_high s d x rising inside = All-from_get_or (λ y. p (get_or s d x) ≤ p y) (drop d s) x (λ k within.
      subst (λ (y : X). p (get_or s d x) ≤ p y) (sym (get_or-drop d s k x)) (rising d (d + k) x (omega arith) (omega (arith, within, length-drop d s))))

  -- of a sorted list, no choice of so many sums up to less than the first ones
  least_left : (s c l : List X) (d : ℕ) (x : X) → IsNonDecreasingBy p s → d < length s → IsPermutation s (c ++ l) → length l ≡ d → sum_by p (take d s) ≤ sum_by p l
  least_left s c l d x rising inside moved many =
      let t = p (get_or s d x) in
      let gap : X → ℕ = λ y. t - p y in
      let whole = sum_by-IsPermutation gap s (c ++ l) moved in
      let parts = sum_by-append gap c l in
      let cut = sum_by-take-drop gap s d in
      let none = high_sum t (drop d s) (back_high s d x rising inside) in
      let front = low_sum t (take d s) (front_low s d x rising inside) in
      let any = any_sum t l in
      let same = same_for_each t l (take d s) (many ∙ sym (length-take-le d s (omega (arith, inside)))) in
      omega (arith, whole, parts, cut, none, front, any, same)

  pub greatest_counted : (s c l : List X) (d : ℕ) → IsNonDecreasingBy p s → IsPermutation s (c ++ l) → length l ≡ d → d < length s → sum_by p c ≤ sum_by p (drop d s)
  greatest_counted [] c l d rising moved many inside = absurd (omega (arith, inside))
  greatest_counted (x ∷ s) c l d rising moved many inside =
      let least = least_left (x ∷ s) c l d x rising inside moved many in
      omega (arith, least, sum_by-IsPermutation p (x ∷ s) (c ++ l) moved, sum_by-append p c l, sum_by-take-drop p (x ∷ s) d)

-- days with their points

abbrev day_of : Scored → DaySheet
day_of one = one.day.now

abbrev points_of : Scored → ℕ
points_of one = one.points

sums_same : (number : List ℕ) (xs : List Scored) → All (λ one. one.points ≡ points_on number one.day.now) xs → sum_by points_of xs ≡ sum_by (points_on number) (map day_of xs)
sums_same number [] are = refl
sums_same number (x ∷ xs) are =
    let P : Scored → Type 0 = λ one. one.points ≡ points_on number one.day.now in
    omega (arith, All-head P x xs are, sums_same number xs (All-tail P x xs are), sum_by-cons points_of x xs, sum_by-cons (points_on number) (day_of x) (map day_of xs))

rising_days : (number : List ℕ) (xs : List Scored) → All (λ one. one.points ≡ points_on number one.day.now) xs → IsNonDecreasingBy points_of xs → IsNonDecreasingBy (points_on number) (map day_of xs)
rising_days number [] are rising = λ i j d below within. absurd (omega (arith, within))
rising_days number (x ∷ xs) are rising = λ i j d below within.
    let ss = x ∷ xs in
    let inside : j < length ss = omega (arith, within, length-map ss day_of) in
    let early : i < length ss = omega (arith, below, inside) in
    let first = get_or-map day_of ss i x d early in
    let second = get_or-map day_of ss j x d inside in
    rw (first, second) (omega (arith, are i x early, are j x inside, rising i j x below inside))

pub scored_few : (days : List DaySheet) (s : List Scored) → IsPermutation days (map day_of s) → length days ≤ 30 → length s ≤ 30
scored_few days s moved few =
    let same : length s ≡ length days = sym (length-map s day_of) ∙ length_permutation days (map day_of s) moved in
    subst (λ (n : ℕ). n ≤ 30) (sym same) few

pub back_few : (s l : List Scored) (cut : ℕ) → l ≡ drop cut s → length s ≤ 30 → length l ≤ 30
back_few s l cut is few =
    let long : length l ≡ length s - cut = ap length is ∙ length-drop cut s in
    omega (arith, long, few)

pub front_few : (s l : List Scored) (cut : ℕ) → l ≡ take cut s → length s ≤ 30 → length l ≤ 30
front_few s l cut is few =
    let whole : length (take cut s) + length (drop cut s) ≡ length s = sym (length-append (take cut s) (drop cut s)) ∙ ap length (take-append-drop cut s) in
    let long : length l ≡ length (take cut s) = ap length is in
    omega (arith, whole, long, few)

-- days in the order of their points
pub in_order : (days : List DaySheet) (number : List ℕ) (unsorted sorted : List Scored) → AreScored number days unsorted → IsPermutation unsorted sorted → IsNonDecreasingBy points_of sorted
    → AreInOrder number days sorted
in_order days number unsorted sorted scored moved rising = record {
  days_are = subst (λ (ds : List DaySheet). IsPermutation ds (map day_of sorted)) scored.days_are (IsPermutation-map day_of unsorted sorted moved);
  points_are = All-permutation (λ one. one.points ≡ points_on number one.day.now) unsorted sorted moved scored.points_are;
  low = All-permutation (λ one. one.points ≤ 1_000) unsorted sorted moved scored.low;
  rising = rising;
}

-- the cut of a sorted list of days gives a total
pub tally_of : (days : List DaySheet) (limit : ℕ) (number : List ℕ) (sorted : List Scored) (cut total dropped : ℕ) → AreInOrder number days sorted → cut ≡ min (length sorted) limit
    → total ≡ sum_by points_of (drop cut sorted) → dropped ≡ sum_by points_of (take cut sorted) → IsTally days limit number total dropped
tally_of days limit number sorted cut total dropped scored cut_is total_is dropped_is =
    let P : Scored → Type 0 = λ one. one.points ≡ points_on number one.day.now in
    let p = points_on number in
    let are = scored.points_are in
    let s = map day_of sorted in
    let days_moved : IsPermutation days s = scored.days_are in
    let counted_sum : total ≡ sum_by p (drop cut s) = total_is ∙ sums_same number (drop cut sorted) (All-drop P cut sorted are) ∙ ap (sum_by p) (sym (drop-map day_of cut sorted)) in
    let left_sum : dropped ≡ sum_by p (take cut s) = dropped_is ∙ sums_same number (take cut sorted) (All-take P cut sorted are) ∙ ap (sum_by p) (sym (take-map day_of cut sorted)) in
    let long = length_permutation days s days_moved in
    let many = length-map sorted day_of in
    let up = rising_days number sorted are scored.rising in
    record {
      total_is = record {
        nothing = λ few.
            let none : sum_by p (drop cut s) ≡ 0 = ap (sum_by p) (drop_all cut s (omega (arith, few, long, many, cut_is))) in
            counted_sum ∙ none;
        reached = λ some.
            let all : cut ≡ limit = omega (arith, some, long, many, cut_is) in (
              drop cut s,
              record {
                left = take cut s;
                parts = IsPermutation-trans days s (drop cut s ++ take cut s) days_moved
                    (subst (λ (l : List DaySheet). IsPermutation l (drop cut s ++ take cut s)) (take-append-drop cut s) (IsPermutation-append_comm (take cut s) (drop cut s)));
                many = length-take-le cut s (omega (arith, cut_is, many)) ∙ all;
              },
              counted_sum,
            );
        greatest = λ counted choice. greatest_of counted choice days_moved up counted_sum (omega (arith, cut_is, many)) long;
      };
      dropped_is = omega (arith, counted_sum, left_sum, sum_by-take-drop p s cut, sum_by-IsPermutation p days s days_moved);
    }
  where
    greatest_of : (counted : List DaySheet) (choice : IsChoice days limit counted) → IsPermutation days (map day_of sorted) → IsNonDecreasingBy (points_on number) (map day_of sorted)
        → total ≡ sum_by (points_on number) (drop cut (map day_of sorted)) → cut ≡ min (length (map day_of sorted)) limit → length (map day_of sorted) ≡ length days
        → sum_by (points_on number) counted ≤ total
    greatest_of [] choice days_moved up counted_sum cut_is long = omega arith
    greatest_of (x ∷ counted) choice days_moved up counted_sum cut_is long =
        let s = map day_of sorted in
        let p = points_on number in
        let parted = IsPermutation-trans s days ((x ∷ counted) ++ choice.left) (IsPermutation-sym days s days_moved) choice.parts in
        let sizes = length_permutation days ((x ∷ counted) ++ choice.left) choice.parts in
        let joined = length-append (x ∷ counted) choice.left in
        let all : cut ≡ limit = omega (arith, sizes, joined, choice.many, long, cut_is) in
        let inside : cut < length s = omega (arith, sizes, joined, choice.many, long, all) in
        let most = greatest_counted p s (x ∷ counted) choice.left cut up parted (choice.many ∙ sym all) inside in
        omega (arith, most, counted_sum)
