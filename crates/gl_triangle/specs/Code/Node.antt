-- What a search knows of spans that it has still to look at.
use Rattle.std.specs.Prelude.{ℕ, ◌<◌, ◌≤◌, List, ◌++◌, ◌≡◌, length, All}
use Rattle.gl_box.specs.Cell.{Holds}
use Rattle.gl_igc.specs.declared.fix.Fix.{Fix}
use Rattle.gl_goal.specs.declared.triangle.TriangleGoal.{TriangleGoal}
use Rattle.gl_goal.specs.Free.{fixes_between}
use Rattle.gl_triangle.specs.declared.node.Node.{Node}
use Rattle.gl_triangle.specs.declared.order.Order.{Order}
use Rattle.gl_triangle.specs.declared.spans.Spans.{Spans}
use Rattle.gl_triangle.specs.Code.Legs.{AreAtMost, AreLegs}
use Rattle.gl_triangle.specs.Code.Order.{AreNumbers, Counts, ordered_fixes, worth_at}
use Rattle.gl_triangle.specs.Code.Spans.{AreWithin, cell_of, reach_of}

-- the fixes that a triangle is chosen from
abbrev pub fixes_of : TriangleGoal → List Fix
fixes_of goal = fixes_between goal.lists.fixes goal.first goal.last

-- the numbers of the fixes of each span lie between the ends of another
pub record AreNumbered (order : Order) (spans numbers : Spans) : Type 0 where
  pub first : AreNumbers order spans.first numbers.first
  pub second : AreNumbers order spans.second numbers.second
  pub third : AreNumbers order spans.third numbers.third

-- the numbers of a node are those of its spans, its legs are between them, and its bound holds for
-- these
pub record IsNode (fixes : List Fix) (order : Order) (node : Node) : Type 0 where
  pub within : AreWithin fixes node.spans
  pub numbers_within : AreWithin fixes node.numbers
  pub numbered : AreNumbered order node.spans node.numbers
  pub legs : AreLegs (ordered_fixes fixes order) node.spans node.legs
  pub bound : AreAtMost node.legs node.bound

-- no three places in a cell count
abbrev pub HoldsNone : TriangleGoal → Order → List (ℕ × ℕ) → Type 0
HoldsNone goal order cell =
    (tuple : List ℕ) → Counts goal order tuple → Holds cell tuple → ⊥

-- no three places in a cell that count are worth more than so much
abbrev pub HoldsNoMore : TriangleGoal → Order → List (ℕ × ℕ) → ℕ → Type 0
HoldsNoMore goal order cell most =
    (tuple : List ℕ) → Counts goal order tuple → Holds cell tuple
    → worth_at goal order tuple ≤ most

-- no node of some holds a tuple
abbrev pub NoneHolds : List Node → List ℕ → Type 0
NoneHolds nodes tuple = All (λ node. Holds (cell_of node.spans) tuple → ⊥) nodes

-- Nodes take the place of one that was looked at: at most two, each of which reaches less far, and
-- three places of the one that count, and that none of them holds, are worth at most so much.
pub record Replace (goal : TriangleGoal) (order : Order) (node : Node) (most : ℕ)
    (nodes : List Node) : Type 0 where
  pub few : length nodes ≤ 2
  pub are_nodes : All (IsNode (fixes_of goal) order) nodes
  pub narrower : All (λ part. reach_of part.spans < reach_of node.spans) nodes
  pub rest : (tuple : List ℕ) → Counts goal order tuple
      → Holds (cell_of node.spans) tuple → NoneHolds nodes tuple
      → worth_at goal order tuple ≤ most

-- a node was looked at: others that take its place were put on top
pub record IsVisited (goal : TriangleGoal) (order : Order) (node : Node) (most : ℕ)
    (before after : List Node) : Type 0 where
  pub added : List Node
  pub on_top : after ≡ before ++ added
  pub replace : Replace goal order node most added
