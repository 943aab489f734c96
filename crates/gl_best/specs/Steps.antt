-- What a step on the best word changes of the view of a seat.
use Rattle.std.specs.Prelude.{ℕ, max, Bool, true, false, nat_eq, List, [], ◌∷◌, ◌++◌}
use Rattle.gl_best.specs.declared.rule.View.{View}

-- the greatest of some numbers
abbrev pub greatest : List ℕ → ℕ
greatest [] = 0
greatest (number ∷ numbers) = max number (greatest numbers)

abbrev pub unless_is : Bool → ℕ → List ℕ → List ℕ → List ℕ
unless_is true first numbers others = numbers
unless_is false first numbers others = first ∷ others

-- a list without the first place that has a number
abbrev pub without : ℕ → List ℕ → List ℕ
without number [] = []
without number (first ∷ numbers) =
    unless_is (nat_eq number first) first numbers (without number numbers)

-- a seat that shares loses its greatest number
abbrev pub kept_of : View → View
kept_of view = record {
  seen = view.seen;
  raised = view.raised;
  numbers = without (greatest view.numbers) view.numbers;
}

-- which the new seat has, that has seen as much and raised nothing
abbrev pub given_of : View → View
given_of view = record { seen = view.seen; raised = 0; numbers = greatest view.numbers ∷ [] }

-- a seat that takes another in has seen and raised the greater of both, and has the numbers of both
abbrev pub both_of : View → View → View
both_of one other = record {
  seen = max one.seen other.seen;
  raised = max one.raised other.raised;
  numbers = one.numbers ++ other.numbers;
}
