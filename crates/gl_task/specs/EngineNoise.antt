-- Engine noise: three noisy fixes cost the points of the local rules.
use Rattle.std.specs.Prelude.{ℕ, ◌+◌, min, Bool, false, ◌==◌, ◌&&◌, nat_le, if◌then◌else◌, List, [], ◌∷◌, Option, None, Some}
use Rattle.gl_igc.specs.declared.fix.Fix.{Fix}
use Rattle.gl_task.specs.declared.task.LocalRules.{LocalRules}

-- a fix is noisy: its noise was measured and is the level or more
abbrev pub is_noisy : ℕ → Option ℕ → Bool
is_noisy level None = false
is_noisy level (Some noise) = nat_le level noise

-- whether there is a level, the level, what noise costs, and how many fixes were noisy, up to 3
abbrev pub noise_list : Option ℕ → ℕ → ℕ → List ℕ
noise_list (Some level) points noisy = 1 ∷ level ∷ points ∷ noisy ∷ []
noise_list None points noisy = 0 ∷ 0 ∷ 0 ∷ 0 ∷ []

-- a flight begins without a noisy fix
abbrev pub noise_opening : LocalRules → List ℕ
noise_opening rules = noise_list rules.engine_level rules.engine_points 0

-- a noisy fix is counted, up to 3
abbrev pub noise_fed : List ℕ → Fix → List ℕ
noise_fed (has ∷ level ∷ points ∷ noisy ∷ []) fix =
    has ∷ level ∷ points
    ∷ (if (has == 1) && is_noisy level fix.enl then min 3 (noisy + 1) else noisy) ∷ []
noise_fed list fix = list

-- the points where three fixes were noisy
abbrev pub noise_owed : List ℕ → ℕ
noise_owed (has ∷ level ∷ points ∷ noisy ∷ []) = if noisy == 3 then points else 0
noise_owed list = 0
