-- Sorted lists with the same items, no two of one key, are one.
use Rattle.std.proofs.Common.{◌≡◌, ◌≢◌, ◌∙◌, sym, ap, subst, refl, inl, inr, ℕ, zero, suc, ◌<◌, ◌≤◌, Bool, true, false, List, [], ◌∷◌, length, map, get_or, arith, ⊎_elim}
use Rattle.std.specs.Prelude.{◌⊎◌, All, AllPairs, Contains, cond, count_by}
use Rattle.std.specs.declared.cmp.Ordering.{Ordering}
use Rattle.std.specs.declared.cmp.Ordering.TheVariants.{Less, Equal, Greater}
use Rattle.std.specs.Cmp.{IsTotalOrder}
use Rattle.std.specs.List.Sorted.{IsSorted}
use Rattle.std.specs.Ordering.{is_lt, ordering_reverse}
use Rattle.std.proofs.lemmas.Bool.{cases_Bool}
use Rattle.std.proofs.lemmas.List.{get_or-map, length-map}
use Rattle.std.proofs.lemmas.List.Elements.{All-cons, All-contains, All-head, All-nil, All-tail}
use Rattle.std.proofs.lemmas.List.Kept.{AllPairs-cons}
use Rattle.std.proofs.lemmas.List.Sorted.{ranks_by, sorted_far}
use Rattle.std.proofs.lemmas.List.Sums.{sum_by-cons}
use Rattle.gl_text.specs.Forms.{is_text}
use Rattle.gl_series.proofs.Beside.{text_is, text_same}
use Rattle.gl_series.proofs.Growing.{pairs_head, pairs_nil, pairs_tail}

in_cons : {X : Type 0} (y : X) (ys : List X) (x : X) (k : ℕ) → k < length (y ∷ ys) → get_or (y ∷ ys) k x ≡ x → (y ≡ x) ⊎ Contains ys x
in_cons y ys x zero inside at = inl at
in_cons y ys x (suc k) inside at = inr (k, omega (arith, inside), at)

behind : {X : Type 0} (y : X) (ys : List X) (x : X) → Contains ys x → Contains (y ∷ ys) x
behind y ys x has = (suc has.0, omega (arith, has.1), has.2)

same_items : {X : Type 0} (cmp : X → X → Ordering) → ((a b : X) → cmp a b ≡ Less → cmp b a ≡ Less → ⊥) → (xs ys : List X) → AllPairs (λ a b. cmp a b ≡ Less) xs → AllPairs (λ a b. cmp a b ≡ Less) ys
    → ((x : X) → Contains xs x → Contains ys x) → ((y : X) → Contains ys y → Contains xs y) → xs ≡ ys
same_items cmp never [] [] up over to from = refl
same_items cmp never [] (y ∷ ys) up over to from =
    let none = from y (0, omega arith, refl) in absurd (omega (arith, none.1))
same_items cmp never (x ∷ xs) [] up over to from =
    let none = to x (0, omega arith, refl) in absurd (omega (arith, none.1))
same_items {X} cmp never (x ∷ xs) (y ∷ ys) up over to from =
    let before : X → X → Type 0 = λ a b. cmp a b ≡ Less in
    let x_there = to x (0, omega arith, refl) in
    let y_there = from y (0, omega arith, refl) in
    let ahead_x = pairs_head before x xs up in
    let ahead_y = pairs_head before y ys over in
    let first : y ≡ x = ⊎_elim (λ (same : y ≡ x). same)
    (λ (later : Contains ys x). ⊎_elim (λ (same : x ≡ y). sym same)
    (λ (after : Contains xs y). absurd (never x y (All-contains (before x) xs y ahead_x after) (All-contains (before y) ys x ahead_y later)))
    (in_cons x xs y y_there.0 y_there.1 y_there.2))
    (in_cons y ys x x_there.0 x_there.1 x_there.2) in
    let rest = same_items cmp never xs ys (pairs_tail before x xs up) (pairs_tail before y ys over)
    (λ z has.
    let there = to z (behind x xs z has) in
    let ahead = All-contains (before x) xs z ahead_x has in
    ⊎_elim (λ (same : y ≡ z).
    let itself : cmp z z ≡ Less = ap (λ (a : X). cmp a z) (sym same ∙ first) ∙ ahead in
    absurd (never z z itself itself))
    (λ (later : Contains ys z). later)
    (in_cons y ys z there.0 there.1 there.2))
    (λ z has.
    let there = from z (behind y ys z has) in
    let ahead = All-contains (before y) ys z ahead_y has in
    ⊎_elim (λ (same : x ≡ z).
    let itself : cmp z z ≡ Less = ap (λ (a : X). cmp a z) (sym same ∙ sym first) ∙ ahead in
    absurd (never z z itself itself))
    (λ (later : Contains xs z). later)
    (in_cons x xs z there.0 there.1 there.2)) in
    let head = sym first in
    λ i. head i ∷ rest i

turned : (r s : Ordering) → s ≡ ordering_reverse r → is_lt r ≡ false → (r ≡ Equal → ⊥) → s ≡ Less
turned Less s is over apart = absurd (cc)
turned Equal s is over apart = absurd (apart refl)
turned Greater s is over apart = is

pairs_map : {X Y : Type 0} (f : X → Y) (R : Y → Y → Type 0) (xs : List X) → AllPairs (λ a b. R (f a) (f b)) xs → AllPairs R (map f xs)
pairs_map f R [] pairs = pairs_nil R
pairs_map {X} f R (x ∷ xs) pairs =
    AllPairs-cons R (f x) (map f xs) (all_map f (R (f x)) xs (pairs_head (λ (a b : X). R (f a) (f b)) x xs pairs)) (pairs_map f R xs (pairs_tail (λ (a b : X). R (f a) (f b)) x xs pairs))
  where
    all_map : {A B : Type 0} (g : A → B) (P : B → Type 0) (xs : List A) → All (λ a. P (g a)) xs → All P (map g xs)
    all_map g P [] all = All-nil P
    all_map g P (a ∷ xs) all = All-cons P (g a) (map g xs) (All-head (λ z. P (g z)) a xs all) (all_map g P xs (All-tail (λ z. P (g z)) a xs all))

to_map : {X Y : Type 0} (f : X → Y) (xs : List X) (x : X) → Contains xs x → Contains (map f xs) (f x)
to_map {X} f xs x has =
    (has.0, omega (arith, has.1, length-map xs f), get_or-map f xs has.0 x (f x) has.1 ∙ ap f has.2)

pub from_map : {X Y : Type 0} (f : X → Y) (xs : List X) (y : Y) (k : ℕ) → k < length (map f xs) → get_or (map f xs) k y ≡ y → (x : X) × Contains xs x × (f x ≡ y)
from_map f [] y k inside at = absurd (omega (arith, inside))
from_map f (x ∷ xs) y zero inside at = (x, (0, omega arith, refl), at)
from_map f (x ∷ xs) y (suc k) inside at =
    let found = from_map f xs y k (omega (arith, inside)) at in
    (found.0, behind x xs found.0 found.1, found.2)

module _ {X : Type 0} (key : X → List ℕ) where
  abbrev worth : List ℕ → X → ℕ
  worth text x = cond (is_text text (key x)) 1 0

  -- a key that is counted stands there
  pub counted_some : (text : List ℕ) (xs : List X) → 0 < count_by (λ x. is_text text (key x)) xs → (x : X) × Contains xs x × (text ≡ key x)
  counted_some text [] some = absurd (omega (arith, some))
  counted_some text (x ∷ xs) some =
      ⊎_elim
      (λ (is : is_text text (key x) ≡ true). (x, (0, omega arith, refl), text_same text (key x) is))
      (λ (is : is_text text (key x) ≡ false).
      let nothing : worth text x ≡ 0 = ap (λ (b : Bool). cond b 1 0) is in
      let found = counted_some text xs (omega (arith, some, nothing, sum_by-cons (worth text) x xs)) in
      (found.0, behind x xs found.0 found.1, found.2))
      (cases_Bool (is_text text (key x)))

  none_counted : (text : List ℕ) (xs : List X) → count_by (λ x. is_text text (key x)) xs ≡ 0 → All (λ x. text ≢ key x) xs
  none_counted text [] none = All-nil (λ x. text ≢ key x)
  none_counted text (x ∷ xs) none =
      let whole = sum_by-cons (worth text) x xs in
      All-cons (λ z. text ≢ key z) x xs
      (λ same.
      let one : worth text x ≡ 1 = ap (λ (b : Bool). cond b 1 0) (text_is text (key x) same) in
      absurd (omega (arith, whole, one, none)))
      (none_counted text xs (omega (arith, whole, none)))

  -- keys that are counted once differ
  pub keys_apart : (xs : List X) → All (λ x. count_by (λ z. is_text (key x) (key z)) xs ≤ 1) xs → AllPairs (λ one other. key one ≢ key other) xs
  keys_apart [] once = pairs_nil (λ (one other : X). key one ≢ key other)
  keys_apart (x ∷ xs) once =
      let P : X → Type 0 = λ y. count_by (λ z. is_text (key y) (key z)) (x ∷ xs) ≤ 1 in
      let one : worth (key x) x ≡ 1 = ap (λ (b : Bool). cond b 1 0) (text_is (key x) (key x) refl) in
      let none : count_by (λ z. is_text (key x) (key z)) xs ≡ 0 = omega (arith, one, All-head P x xs once, sum_by-cons (worth (key x)) x xs) in
      AllPairs-cons (λ (one other : X). key one ≢ key other) x xs (none_counted (key x) xs none)
      (keys_apart xs (fewer xs (All-tail P x xs once)))
    where
      fewer : (ys : List X) → All (λ y. count_by (λ z. is_text (key y) (key z)) (x ∷ xs) ≤ 1) ys → All (λ y. count_by (λ z. is_text (key y) (key z)) xs ≤ 1) ys
      fewer [] few = All-nil (λ y. count_by (λ z. is_text (key y) (key z)) xs ≤ 1)
      fewer (y ∷ ys) few =
          let P : X → Type 0 = λ w. count_by (λ z. is_text (key w) (key z)) (x ∷ xs) ≤ 1 in
          All-cons (λ w. count_by (λ z. is_text (key w) (key z)) xs ≤ 1) y ys
          (omega (arith, All-head P y ys few, sum_by-cons (worth (key y)) x xs))
          (fewer ys (All-tail P y ys few))

  module _ (cmp : X → X → Ordering) (order : IsTotalOrder cmp) (tie : (a b : X) → cmp a b ≡ Equal → key a ≡ key b) (plain : X → X) (as_plain : (a b : X) → cmp (plain a) (plain b) ≡ cmp a b) where
    strictly : (xs : List X) → IsSorted cmp xs → AllPairs (λ one other. key one ≢ key other) xs → AllPairs (λ a b. cmp (plain a) (plain b) ≡ Less) xs
    strictly xs sorted apart = λ i j d below within.
        let a = get_or xs i d in
        let b = get_or xs j d in
        let over = sorted_far (λ x y. is_lt (cmp x y)) (ranks_by order (λ (x : X). x)) xs sorted i j d (omega (arith, below)) within in
        as_plain a b ∙ turned (cmp b a) (cmp a b) (order.antisymm a b) over (λ same. apart i j d below within (sym (tie b a same)))

    never : (a b : X) → cmp a b ≡ Less → cmp b a ≡ Less → ⊥
    never a b one other =
        let clash : Less ≡ Greater = sym other ∙ order.antisymm b a ∙ ap ordering_reverse one in absurd (cc)

    -- lists in order, of which each item has one in the other list that is plainly the same
    pub one_list : (xs ys : List X) → IsSorted cmp xs → IsSorted cmp ys → AllPairs (λ one other. key one ≢ key other) xs → AllPairs (λ one other. key one ≢ key other) ys
        → ((x : X) → Contains xs x → (y : X) × Contains ys y × (plain y ≡ plain x)) → ((y : X) → Contains ys y → (x : X) × Contains xs x × (plain x ≡ plain y)) → map plain xs ≡ map plain ys
    one_list xs ys up over apart away to from =
        same_items cmp never (map plain xs) (map plain ys)
        (pairs_map plain (λ a b. cmp a b ≡ Less) xs (strictly xs up apart))
        (pairs_map plain (λ a b. cmp a b ≡ Less) ys (strictly ys over away))
        (λ z has.
        let one = from_map plain xs z has.0 has.1 has.2 in
        let other = to one.0 one.1 in
        subst (Contains (map plain ys)) (other.2 ∙ one.2) (to_map plain ys other.0 other.1))
        (λ z has.
        let one = from_map plain ys z has.0 has.1 has.2 in
        let other = from one.0 one.1 in
        subst (Contains (map plain xs)) (other.2 ∙ one.2) (to_map plain xs other.0 other.1))
