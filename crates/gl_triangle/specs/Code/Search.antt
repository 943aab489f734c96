-- A search under way.
use Rattle.std.specs.Prelude.{ℕ, ◌≤◌, List, Option, None, Some, All}
use Rattle.gl_goal.specs.declared.triangle.TriangleGoal.{TriangleGoal}
use Rattle.gl_goal.specs.TriangleGoal.{triangle_rule}
use Rattle.gl_goal.specs.declared.best.Best.{Best}
use Rattle.gl_goal.specs.Best.{IsSound}
use Rattle.gl_triangle.specs.declared.node.Node.{Node}
use Rattle.gl_triangle.specs.declared.order.Order.{Order}
use Rattle.gl_triangle.specs.Code.Node.{IsNode, NoneHolds, fixes_of}
use Rattle.gl_triangle.specs.Code.Order.{Counts, worth_at}

-- what was found is worth, 0 where nothing was
abbrev pub worth_of : Option Best → ℕ
worth_of None = 0
worth_of (Some best) = best.total

-- what was found is a legal tuple and its value, and three places that count and that no open node
-- holds are worth no more
pub record IsUnderWay (goal : TriangleGoal) (order : Order) (best : Option Best)
    (nodes : List Node) : Type 0 where
  pub sound : IsSound (triangle_rule goal) best
  pub are_nodes : All (IsNode (fixes_of goal) order) nodes
  pub rest : (tuple : List ℕ) → Counts goal order tuple → NoneHolds nodes tuple
      → worth_at goal order tuple ≤ worth_of best
