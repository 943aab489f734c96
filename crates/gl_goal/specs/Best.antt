-- What a search has found.
use Rattle.std.specs.Prelude.{ℕ, ◌≤◌, List, [], Option, None, Some}
use Rattle.gl_box.specs.Tuple.{places_of}
use Rattle.gl_goal.specs.Goal.{Goal, IsReached, chosen}
use Rattle.gl_goal.specs.declared.best.Best.{Best}

-- the total that was found, if any
abbrev pub total_of : Option Best → Option ℕ
total_of None = None
total_of (Some best) = Some best.total

-- the fixes that were found, none where nothing was
abbrev pub fixes_of : Goal → Option Best → List ℕ
fixes_of goal None = []
fixes_of goal (Some best) = chosen goal.axes (places_of best.tuple)

-- what was found is a legal tuple and its value
abbrev pub IsSound : Goal → Option Best → Type 0
IsSound goal None = Unit {0}
IsSound goal (Some best) = IsReached goal best.total (places_of best.tuple)

-- a total that was found is no less than an earlier one
abbrev pub IsNoLess : Option ℕ → Option ℕ → Type 0
IsNoLess None total = Unit {0}
IsNoLess (Some old) None = ⊥
IsNoLess (Some old) (Some new) = old ≤ new
