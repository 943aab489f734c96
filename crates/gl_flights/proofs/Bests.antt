-- The text of the best of a goal, for another name of the goal.
use Rattle.std.proofs.Common.{◌≡◌, subst, ℕ, List}
use Rattle.gl_goal.specs.Goal.{Goal}
use Rattle.gl_flights.specs.Best.{IsBestText}

pub best_of_goal : (rule goal : Goal) (word text : List ℕ) → rule ≡ goal → IsBestText rule word text → IsBestText goal word text
best_of_goal rule goal word text same best = subst (λ (r : Goal). IsBestText r word text) same best
