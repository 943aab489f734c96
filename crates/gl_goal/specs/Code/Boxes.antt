-- Boxes that are joined, and spans that are cut.
use Rattle.std.specs.Prelude.{◌+◌, List, ◌++◌, ℕ, max, min}
use Rattle.gl_igc.specs.declared.fix.Fix.{Fix}
use Rattle.gl_goal.specs.Box.{Box, IsLeastBox}

-- whatever fixes two boxes are the least ones of, this box is the least one of all these fixes
abbrev pub Joins : Box → Box → Box → Type 0
Joins one other both =
    (fixes more : List Fix) → IsLeastBox one fixes → IsLeastBox other more
    → IsLeastBox both (fixes ++ more)

-- the places that lie in both of two spans
abbrev pub both : ℕ × ℕ → ℕ × ℕ → ℕ × ℕ
both one other = (max one.0 other.0, min one.1 other.1)
