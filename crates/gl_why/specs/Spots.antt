-- Fixes of a recording by their numbers.
use Rattle.std.specs.Prelude.{ℕ, nat_le, Bool, length, List, Option, option_map, slice_get}
use Rattle.std.specs.List.{find}
use Rattle.gl_igc.specs.declared.fix.Fix.{Fix}
use Rattle.gl_why.specs.declared.spot.Spot.{Spot}

-- a fix with its number
abbrev pub spot : ℕ → Fix → Spot
spot number fix = record { number = number; fix = fix }

-- the fix with a number, if there is one
abbrev pub spot_at : List Fix → ℕ → Option Spot
spot_at fixes number = option_map (spot number) (slice_get fixes number)

-- no fix has the number
abbrev pub is_missing : List Fix → ℕ → Bool
is_missing fixes number = nat_le (length fixes) number

-- the first of some numbers that no fix has
abbrev pub first_missing : List Fix → List ℕ → Option ℕ
first_missing fixes numbers = find (is_missing fixes) numbers
