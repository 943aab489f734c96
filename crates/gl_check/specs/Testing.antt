-- What a check of the boxes of a goal has seen.
use Rattle.std.specs.Prelude.{ℕ, List, Vec}
use Rattle.std.specs.declared.alloc.Global.{Global}
use Rattle.gl_box.specs.declared.checking.BoxCheck.{BoxCheck}
use Rattle.gl_box.specs.declared.closed.Why.{Why}
use Rattle.gl_box.specs.Passing.{IsChecking}
use Rattle.gl_goal.specs.declared.leg.Leg.{Leg}
use Rattle.gl_goal.specs.Goal.{Goal, whole_cell}
use Rattle.gl_check.specs.declared.boxes.GoalTest.{GoalTest}
use Rattle.gl_check.specs.Verdict.{IsBoxClosed}

-- a check of the boxes of a goal has taken these, and can go on
abbrev pub HasTaken : {G : Type 0} → (G → Goal) → (G → List Leg → Type 0)
    → List (List (ℕ × ℕ) × Why) → BoxCheck (GoalTest G) (Vec Leg Global) → Type 0
HasTaken {G} rule are_legs boxes check =
    IsChecking (λ test. whole_cell (rule test.goal.now).axes)
    (λ test. IsBoxClosed (rule test.goal.now) test.total)
    (λ test legs. are_legs test.goal.now legs.items) boxes check
