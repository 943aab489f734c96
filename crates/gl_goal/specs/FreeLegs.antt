-- The legs of a free goal that were measured.
use Rattle.std.specs.Prelude.{◌≡◌, ℕ, List}
use Rattle.gl_box.specs.Cell.{ends}
use Rattle.gl_igc.specs.declared.fix.Fix.{Fix}
use Rattle.gl_goal.specs.Box.{fixes_in, hull_of}
use Rattle.gl_goal.specs.declared.free.FreeGoal.{FreeGoal}
use Rattle.gl_goal.specs.declared.leg.Leg.{Leg}
use Rattle.gl_goal.specs.Chain.{greatest_distance}

-- the greatest distance from a fix in one span to a fix in another, by their hulls
abbrev pub most_between : List Fix → ℕ × ℕ → ℕ × ℕ → ℕ
most_between fixes from to =
    greatest_distance (hull_of (fixes_in fixes from)) (hull_of (fixes_in fixes to))

-- a leg was measured over the fixes of this goal
abbrev pub IsLeg : FreeGoal → Leg → Type 0
IsLeg goal leg = leg.most ≡ most_between goal.hulls (ends leg.from) (ends leg.to)
