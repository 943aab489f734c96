-- Totals that the code looks for.
use Rattle.std.specs.Prelude.{ℕ, Bool, Option, None, Some, false, is_some}

-- whether a total is there where one is looked for
abbrev pub is_total : Option (Option ℕ) → Bool
is_total None = false
is_total (Some total) = is_some total
