use Rattle.std.specs.Prelude.{◌≡◌, ◌↔◌, ℕ, Bool, IsTrue, List}
use Rattle.gl_goal.specs.declared.any.AnyGoal.{AnyGoal}
use Rattle.gl_goal.specs.AnyGoal.{any_rule}
use Rattle.gl_goal.specs.Goal.{IsDisordered}
use Rattle.gl_goal.proofs.any_goal.AnyGoalGoal.disordered.Goals as goal

-- what the test of a goal's kind says, it says of the goal
of_kind : (goal kind : AnyGoal) (cell : List (ℕ × ℕ)) (result : Bool) → goal ≡ kind
    → (IsTrue result ↔ IsDisordered (any_rule kind).axes cell)
    → (IsTrue result ↔ IsDisordered (any_rule goal).axes cell)
of_kind goal kind cell result is says = rw is says

pub returns-in-Area : goal.returns-in-Area
returns-in-Area c = of_kind _ _ _ _ c.in-Area.is c.disordered.ensures

pub returns-in-Out : goal.returns-in-Out
returns-in-Out c = of_kind _ _ _ _ c.in-Out.is c.disordered-in-Out.ensures

pub returns-in-Free : goal.returns-in-Free
returns-in-Free c = of_kind _ _ _ _ c.in-Free.is c.disordered-in-Free.ensures

pub returns-in-Triangle : goal.returns-in-Triangle
returns-in-Triangle c = of_kind _ _ _ _ c.in-Triangle.is c.disordered-in-Triangle.ensures
