-- What holds of the best word and of all seats between any two steps of all threads.
use Rattle.std.specs.Prelude.{◌≡◌, ℕ, ◌+◌, ◌≤◌, ◌⊎◌, Bool, true, false, nat_eq, nat_lt, List, [], ◌∷◌, length, slice_index}
use mathlib.Core.Option.{some}
use lib.ListN.{get_elem?}
use Rattle.gl_best.specs.declared.rule.View.{View}

-- 1 for yes, 0 for no
abbrev pub once : Bool → ℕ
once true = 1
once false = 0

-- how often a number stands in a list
abbrev pub times : ℕ → List ℕ → ℕ
times number [] = 0
times number (first ∷ numbers) = once (nat_eq number first) + times number numbers

-- how often a number stands with seats
abbrev pub times_in : ℕ → List View → ℕ
times_in number [] = 0
times_in number (view ∷ views) = times number view.numbers + times_in number views

-- The word is 0 for none, else total plus one. A seat has raised no more than it has seen, and seen
-- no more than the word. One without a number has seen and raised nothing.
pub record IsHeard (word : ℕ) (view : View) : Type 0 where
  pub raised : view.raised ≤ view.seen
  pub seen : view.seen ≤ word
  pub idle : view.numbers ≡ [] → view.seen ≡ 0

-- some seat has raised just the word
pub record IsRaised (word : ℕ) (views : List View) : Type 0 where
  pub seat : ℕ
  pub view : View
  pub there : get_elem? views seat ≡ some view
  pub raised : view.raised ≡ word

-- There is one word. It is 0, or the greatest that a seat has raised. Each number below 16 stands
-- with one seat, and once, and no other number with any.
pub record IsKept (words : List ℕ) (views : List View) : Type 0 where
  pub one : length words ≡ 1
  pub heard :
      (seat : ℕ) (view : View) → get_elem? views seat ≡ some view
      → IsHeard (slice_index words 0) view
  pub raised : (slice_index words 0 ≡ 0) ⊎ IsRaised (slice_index words 0) views
  pub numbers : (number : ℕ) → times_in number views ≡ once (nat_lt number 16)

-- the numbers below 16
abbrev pub sixteen : List ℕ
sixteen =
    0 ∷ 1 ∷ 2 ∷ 3 ∷ 4 ∷ 5 ∷ 6 ∷ 7 ∷ 8 ∷ 9 ∷ 10 ∷ 11 ∷ 12 ∷ 13 ∷ 14 ∷ 15 ∷ []

-- the first seat has all numbers, and has seen and raised nothing
abbrev pub first_view : View
first_view = record { seen = 0; raised = 0; numbers = sixteen }
