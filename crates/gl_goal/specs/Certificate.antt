-- What shows that no choice was overlooked: boxes that part all tuples, each of them closed for the
-- total that is claimed.
use Rattle.std.specs.Prelude.{◌≡◌, ℕ, ◌≤◌, IsTrue, List, [], map, Option, IsSomeAnd, MatchOption, All}
use Rattle.gl_box.specs.declared.closed.Why.{Why}
use Rattle.gl_box.specs.declared.closed.Why.TheVariants.{Disordered, Shut, Bound}
use Rattle.gl_box.specs.Frontier.{IsFrontier}
use Rattle.gl_goal.specs.Goal.{Goal, IsDisordered, IsReached, chosen, whole_cell}

-- a cell is closed for a total, if there is one, by its reason
abbrev pub IsClosedFor : Goal → Option ℕ → List (ℕ × ℕ) → Why → Type 0
IsClosedFor goal total cell Disordered = IsDisordered goal.axes cell
IsClosedFor goal total cell Shut = IsTrue (goal.shut cell)
IsClosedFor goal total cell Bound = IsSomeAnd total (λ greatest. goal.bound cell ≤ greatest)

-- what a claim of a total and of fixes names: nothing, or the fixes of a legal tuple that is worth
-- just that total
abbrev pub IsClaimed : Goal → Option ℕ → List ℕ → Type 0
IsClaimed goal total fixes =
    MatchOption total (fixes ≡ [])
    (λ greatest. (tuple : List ℕ) × IsReached goal greatest tuple
    × (fixes ≡ chosen goal.axes tuple))

-- A certificate of a goal: the claim holds, the boxes in their order are a frontier of the whole
-- cell, and each is closed for the total by its reason.
pub record IsCertificate (goal : Goal) (total : Option ℕ) (fixes : List ℕ)
    (boxes : List (List (ℕ × ℕ) × Why)) : Type 0 where
  pub claimed : IsClaimed goal total fixes
  pub frontier : IsFrontier (whole_cell goal.axes) (map (λ box. box.0) boxes)
  pub closed : All (λ box. IsClosedFor goal total box.0 box.1) boxes
