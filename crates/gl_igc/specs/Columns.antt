-- The time and the altitude of a line of a recording, by its columns, which count from 1.
use Rattle.std.specs.Prelude.{ℕ, ◌+◌, ◌*◌, nat_le, ◌==◌, ◌&&◌, if◌then◌else◌, List, [], ◌∷◌, Option, None, Some, ℤ, pos, neg_ℤ}
use Rattle.std.specs.Str.{byte}
use Rattle.gl_text.specs.Digits.{◌>>=◌, columns, number_of}

-- the seconds of a day, and of half a day
abbrev pub day : ℕ
day = 86_400

abbrev pub half_day : ℕ
half_day = 43_200

-- the second of the day that HHMMSS in columns 2 to 7 says
unfoldable pub time_of_day : List ℕ → Option ℕ
time_of_day line = do
  hours ← number_of (columns 2 3 line)
  minutes ← number_of (columns 4 5 line)
  seconds ← number_of (columns 6 7 line)
  if nat_le hours 23 && nat_le minutes 59 && nat_le seconds 59
      then Some (3600 * hours + 60 * minutes + seconds) else None

-- an altitude in metres of five columns: five digits, or a minus sign and four digits
unfoldable pub altitude_of : List ℕ → Option ℤ
altitude_of [] = None
altitude_of (c ∷ cs) =
    if c == byte "-" then (number_of cs >>= λ n. Some (neg_ℤ (pos n)))
    else (number_of (c ∷ cs) >>= λ n. Some (pos n))
