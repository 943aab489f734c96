-- Statements that hold or don't, and searches among numbers for one of a kind.
use Rattle.std.proofs.Common.{◌≡◌, subst, refl, ℕ, zero, suc, ◌<◌, ◌≤◌, Bool, true, false, ◌⊎◌, inl, inr, ℤ, ◌≤ℤ◌, ◌<ℤ◌, arith}
use Rattle.std.specs.Prelude.{IsTrue, int_le}
use Rattle.std.proofs.lemmas.Bool.{cases_Bool, cases_lt, false≢true}
use Rattle.std.proofs.lemmas.Int.{ints}
use Rattle.gl_judge.specs.Greatest.{IsGreatest, IsLeast}

-- a statement holds, or it doesn't
abbrev pub Decided : Type 0 → Type 0
Decided P = P ⊎ (P → ⊥)

-- a statement that holds just where a decided one does is decided
pub decided-by : (P Q : Type 0) → (P → Q) → (Q → P) → Decided P → Decided Q
decided-by P Q to from (inl is) = inl (to is)
decided-by P Q to from (inr never) = inr (λ q. never (from q))

-- two decided statements are decided together
pub decided-both : (P Q : Type 0) → Decided P → Decided Q → Decided (P × Q)
decided-both P Q (inl p) (inl q) = inl (p, q)
decided-both P Q (inl p) (inr never) = inr (λ both. never both.1)
decided-both P Q (inr never) q = inr (λ both. never both.0)

-- a test is decided
pub decided-true : (b : Bool) → Decided (IsTrue b)
decided-true true = inl refl
decided-true false = inr (λ is. false≢true is)

-- whether a number is below another is decided
pub decided-lt : (m n : ℕ) → Decided (m < n)
decided-lt m n = elim (cases_lt m n) as (λ _. Decided (m < n)) [
  | inl less ↦ inl less
  | inr most ↦ inr (λ less. omega arith)
]

-- whether a number is at most another is decided
pub decided-le : (m n : ℕ) → Decided (m ≤ n)
decided-le m n = elim (cases_lt n m) as (λ _. Decided (m ≤ n)) [
  | inl less ↦ inr (λ most. omega arith)
  | inr most ↦ inl most
]

int_le-true : (x y : ℤ) → int_le x y ≡ true → x ≤ℤ y
int_le-true x y is = grind (arith, ints)

int_le-false : (x y : ℤ) → int_le x y ≡ false → x ≤ℤ y → ⊥
int_le-false x y is le = grind (arith, ints)

int_le-over : (x y : ℤ) → int_le y x ≡ false → x <ℤ y
int_le-over x y is = grind (arith, ints)

int_le-under : (x y : ℤ) → int_le y x ≡ true → x <ℤ y → ⊥
int_le-under x y is lt = grind (arith, ints)

-- whether an integer is at most another is decided
pub decided-int_le : (x y : ℤ) → Decided (x ≤ℤ y)
decided-int_le x y = elim (cases_Bool (int_le x y)) as (λ _. Decided (x ≤ℤ y)) [
  | inl is ↦ inl (int_le-true x y is)
  | inr is ↦ inr (int_le-false x y is)
]

-- whether an integer is below another is decided
pub decided-int_lt : (x y : ℤ) → Decided (x <ℤ y)
decided-int_lt x y = elim (cases_Bool (int_le y x)) as (λ _. Decided (x <ℤ y)) [
  | inl is ↦ inr (int_le-under x y is)
  | inr is ↦ inl (int_le-over x y is)
]

-- none below a number is of a kind, nor is that number
none_more : (kind : ℕ → Type 0) (bound : ℕ) → ((i : ℕ) → i < bound → kind i → ⊥) → (kind bound → ⊥) → (i : ℕ) → i < suc bound → kind i → ⊥
none_more kind bound none never i below is = elim (cases_lt i bound) as (λ _. ⊥) [
  | inl less ↦ none i less is
  | inr most ↦ (let same : i ≡ bound = omega arith in never (subst kind same is))
]

least_more : (kind : ℕ → Type 0) (bound : ℕ) → Decided (kind bound) → ((n : ℕ) × (n < bound) × IsLeast kind n) ⊎ ((i : ℕ) → i < bound → kind i → ⊥)
    → ((n : ℕ) × (n < suc bound) × IsLeast kind n) ⊎ ((i : ℕ) → i < suc bound → kind i → ⊥)
least_more kind bound here (inl (n, below, least)) = inl (n, omega arith, least)
least_more kind bound (inl is) (inr none) = inl (
  bound,
  omega arith,
  record {
    is = is;
    least = λ i other. elim (cases_lt i bound) as (λ _. bound ≤ i)
        [ inl less ↦ absurd (none i less other) | inr most ↦ most ];
  },
)
least_more kind bound (inr never) (inr none) = inr (none_more kind bound none never)

-- the least number of a decided kind is found if there is one below a bound
pub least_below : (kind : ℕ → Type 0) (bound : ℕ) → ((i : ℕ) → i < bound → Decided (kind i)) → ((n : ℕ) × (n < bound) × IsLeast kind n) ⊎ ((i : ℕ) → i < bound → kind i → ⊥)
least_below kind zero decide = inr (λ i below is. omega arith)
least_below kind (suc bound) decide =
    least_more kind bound (decide bound (omega arith)) (least_below kind bound (λ i below. decide i (omega arith)))

-- whether a number is of a decided kind that has none from a bound on
pub decided-some : (kind : ℕ → Type 0) (bound : ℕ) → ((i : ℕ) → i < bound → Decided (kind i)) → ((i : ℕ) → kind i → i < bound) → Decided ((i : ℕ) × kind i)
decided-some kind bound decide limit = elim (least_below kind bound decide) as (λ _. Decided ((i : ℕ) × kind i)) [
  | inl at ↦ inl (at.0, at.2.is)
  | inr none ↦ inr (λ at. none at.0 (limit at.0 at.1) at.1)
]

-- a number is of a kind, and every other of that kind below a bound is at most it
abbrev IsGreatestBelow : (ℕ → Type 0) → ℕ → ℕ → Type 0
IsGreatestBelow kind bound n = kind n × ((i : ℕ) → i < bound → kind i → i ≤ n)

greatest_more : (kind : ℕ → Type 0) (bound : ℕ) → Decided (kind bound) → ((n : ℕ) × IsGreatestBelow kind bound n) ⊎ ((i : ℕ) → i < bound → kind i → ⊥)
    → ((n : ℕ) × IsGreatestBelow kind (suc bound) n) ⊎ ((i : ℕ) → i < suc bound → kind i → ⊥)
greatest_more kind bound (inl is) rest = inl (bound, (is, λ i below other. omega arith))
greatest_more kind bound (inr never) (inl (n, most)) = inl (
  n,
  (
    most.0,
    λ i below other. elim (cases_lt i bound) as (λ _. i ≤ n)
        [ inl less ↦ most.1 i less other | inr past ↦ (let same : i ≡ bound = omega arith in absurd (never (subst kind same other))) ],
  ),
)
greatest_more kind bound (inr never) (inr none) = inr (none_more kind bound none never)

greatest_below : (kind : ℕ → Type 0) (bound : ℕ) → ((i : ℕ) → i < bound → Decided (kind i)) → ((n : ℕ) × IsGreatestBelow kind bound n) ⊎ ((i : ℕ) → i < bound → kind i → ⊥)
greatest_below kind zero decide = inr (λ i below is. omega arith)
greatest_below kind (suc bound) decide =
    greatest_more kind bound (decide bound (omega arith)) (greatest_below kind bound (λ i below. decide i (omega arith)))

-- the greatest number of a decided kind that has none from a bound on is found if there is one
pub greatest_of : (kind : ℕ → Type 0) (bound : ℕ) → ((i : ℕ) → i < bound → Decided (kind i)) → ((i : ℕ) → kind i → i < bound) → ((n : ℕ) × IsGreatest kind n) ⊎ ((i : ℕ) → kind i → ⊥)
greatest_of kind bound decide limit = elim (greatest_below kind bound decide) as (λ _. ((n : ℕ) × IsGreatest kind n) ⊎ ((i : ℕ) → kind i → ⊥)) [
  | inl at ↦ inl (at.0, record { is = at.1.0; greatest = λ i is. at.1.1 i (limit i is) is })
  | inr none ↦ inr (λ i is. none i (limit i is) is)
]
