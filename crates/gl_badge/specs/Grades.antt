-- The grades of a badge, and what has to be reached for them.
use Rattle.std.specs.Prelude.{ℕ, Bool, false, nat_le, if◌then◌else◌, List, Option, None, Some, codes}
use Rattle.gl_badge.specs.declared.badge.Badge.{Badge}
use Rattle.gl_badge.specs.declared.badge.Badge.TheVariants.{Distance, Gain, DeclaredGoal}
use Rattle.gl_badge.specs.declared.grade.Grade.{Grade}
use Rattle.gl_badge.specs.declared.grade.Grade.TheVariants.{Unreached, Silver, Gold, Diamond}

-- The limits of the grades: of a distance or a declared course in centimetres, of a gain in metres.
-- A declared course has no limit but the highest. They are the scorer's own.
abbrev pub limit_of : Badge → Grade → Option ℕ
limit_of badge Unreached = Some 0
limit_of Distance Silver = Some 5_000_000
limit_of Distance Gold = Some 30_000_000
limit_of Distance Diamond = Some 50_000_000
limit_of Gain Silver = Some 1_000
limit_of Gain Gold = Some 3_000
limit_of Gain Diamond = Some 5_000
limit_of DeclaredGoal Silver = None
limit_of DeclaredGoal Gold = None
limit_of DeclaredGoal Diamond = Some 30_000_000

-- whether a value reaches a limit, if there is one
abbrev pub reaches : ℕ → Option ℕ → Bool
reaches value None = false
reaches value (Some limit) = nat_le limit value

-- the highest grade whose limit is reached
unfoldable pub grade_of : Badge → ℕ → Grade
grade_of badge value =
    if reaches value (limit_of badge Diamond) then Diamond
    else if reaches value (limit_of badge Gold) then Gold
    else if reaches value (limit_of badge Silver) then Silver else Unreached

-- the word of a grade
abbrev pub grade_word : Grade → List ℕ
grade_word Unreached = codes "NONE"
grade_word Silver = codes "SILVER"
grade_word Gold = codes "GOLD"
grade_word Diamond = codes "DIAMOND"
