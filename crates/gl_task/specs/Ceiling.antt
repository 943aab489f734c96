-- The ceiling: a metre above it costs a point.
use Rattle.std.specs.Prelude.{ℕ, ◌-◌, max, ◌==◌, if◌then◌else◌, List, [], ◌∷◌, ℤ, pos, negsuc, Option, None, Some, option_map}
use Rattle.gl_igc.specs.declared.fix.Fix.{Fix}
use Rattle.gl_task.specs.declared.task.LocalRules.{LocalRules}

-- the metres above the sea, 0 below it
abbrev pub height : ℤ → ℕ
height (pos metres) = metres
height (negsuc _) = 0

-- whether there is a ceiling, the ceiling, and the greatest height above it
abbrev pub ceiling_list : Option ℕ → ℕ → List ℕ
ceiling_list (Some ceiling) above = 1 ∷ ceiling ∷ above ∷ []
ceiling_list None above = 0 ∷ 0 ∷ 0 ∷ []

-- a flight begins at no height above the ceiling
abbrev pub ceiling_opening : LocalRules → List ℕ
ceiling_opening rules = ceiling_list (option_map height rules.ceiling) 0

-- a fix above the ceiling raises the greatest height above it
abbrev pub ceiling_fed : List ℕ → Fix → List ℕ
ceiling_fed (has ∷ ceiling ∷ above ∷ []) fix =
    has ∷ ceiling ∷ (if has == 1 then max above (height fix.alt - ceiling) else above) ∷ []
ceiling_fed list fix = list

-- a point for each metre of the greatest height above the ceiling
abbrev pub ceiling_owed : List ℕ → ℕ
ceiling_owed (has ∷ ceiling ∷ above ∷ []) = above
ceiling_owed list = 0
