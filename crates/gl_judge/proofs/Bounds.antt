-- What isn't below or above a number.
use Rattle.std.proofs.Common.{◌≡◌, ℕ, ◌+◌, ◌<◌, ◌≤◌, Option, Some, None, true, refl, subst, arith, inl, inr}
use Rattle.std.specs.Prelude.{IfSome, IfNone, is_some}
use Rattle.std.proofs.lemmas.Bool.{cases_lt}

pub at_least : (P : ℕ → Type 0) (n from : ℕ) → ((i : ℕ) → from ≤ i → i < n → P i → ⊥) → (i : ℕ) → from ≤ i → P i → n ≤ i
at_least P n from none i after h =
    elim (cases_lt i n) as (λ _. n ≤ i) [ inl lt ↦ absurd (none i after lt h) | inr le ↦ le ]

pub at_most : (P : ℕ → Type 0) (n limit : ℕ) → ((i : ℕ) → n < i → i ≤ limit → P i → ⊥) → (i : ℕ) → i ≤ limit → P i → i ≤ n
at_most P n limit none i before h =
    elim (cases_lt n i) as (λ _. i ≤ n) [ inl lt ↦ absurd (none i lt before h) | inr le ↦ le ]

-- what holds of each number from one on, and of the one before it
pub down : (P : ℕ → Type 0) (n m limit : ℕ) → n ≡ m + 1 → ((i : ℕ) → n ≤ i → i ≤ limit → P i → ⊥) → (P m → ⊥) → (i : ℕ) → m ≤ i → i ≤ limit → P i → ⊥
down P n m limit next none here i from within h =
    elim (cases_lt m i) as (λ _. ⊥) [
      | inl lt ↦ none i (omega arith) within h
      | inr le ↦ (let same : i ≡ m = omega arith in here (subst P same h))
    ]

pub up : (P : ℕ → Type 0) (n from : ℕ) → ((i : ℕ) → from ≤ i → i < n → P i → ⊥) → (P n → ⊥) → (i : ℕ) → from ≤ i → i < n + 1 → P i → ⊥
up P n from none here i after within h =
    elim (cases_lt i n) as (λ _. ⊥) [
      | inl lt ↦ none i after lt h
      | inr le ↦ (let same : i ≡ n = omega arith in here (subst P same h))
    ]

-- what follows of the value, if there is one, and of there being none
pub some_then : {X : Type 0} (o : Option X) (P Q : X → Type 0) → ((x : X) → P x → Q x) → IfSome o P → IfSome o Q
some_then None P Q f h = h
some_then (Some x) P Q f h = f x h

pub none_then : {X : Type 0} (o : Option X) (P Q : Type 0) → (P → Q) → IfNone o P → IfNone o Q
none_then None P Q f h = f h
none_then (Some x) P Q f h = h

pub none_when : {X : Type 0} (o : Option X) (P : Type 0) → P → IfNone o P
none_when None P h = h
none_when (Some x) P h = tt

pub some_is : {X : Type 0} (o : Option X) (P : X → Type 0) → is_some o ≡ true → IfSome o P → (x : X) × P x
some_is None P is h = absurd (cc)
some_is (Some x) P is h = (x, h)

pub is_some_when : {X : Type 0} (o : Option X) (P : Type 0) → IfNone o P → (P → ⊥) → is_some o ≡ true
is_some_when None P h not = absurd (not h)
is_some_when (Some x) P h not = refl
