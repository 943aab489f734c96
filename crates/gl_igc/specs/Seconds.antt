-- The seconds of the fixes of a recording.
use Rattle.std.specs.Prelude.{◌&&◌, List, [], ◌∷◌, Bool, true, ℤ, int_lt}

-- each second is above the one before
unfoldable pub is_rising : List ℤ → Bool
is_rising [] = true
is_rising (second ∷ []) = true
is_rising (second ∷ next ∷ seconds) = int_lt second next && is_rising (next ∷ seconds)
