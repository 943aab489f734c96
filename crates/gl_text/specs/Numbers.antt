use Rattle.std.specs.Prelude.{◌≡◌, ℕ, zero, suc, ◌+◌, ◌-◌, ◌/◌, ◌%◌, ◌<◌, List, [], ◌∷◌, ◌++◌, length, take, drop, replicate, slice_index}
use Rattle.std.specs.Fmt.{decimal}
use Rattle.std.specs.Str.Parse.{AllDigits}

-- digits, at least one, that begin with `0` only where that is all
pub record IsPlainNumber (text : List ℕ) : Type 0 where
  pub digits : AllDigits 10 text
  pub some : 0 < length text
  pub lone : slice_index text 0 ≡ 48 → length text ≡ 1

-- the digits of a number, with as many `0`, the byte 48, before them as make at least `count`
-- digits
unfoldable pub padded : ℕ → ℕ → List ℕ
padded count n = replicate (count - length (decimal n)) 48 ++ decimal n

-- a list with a point, the byte 46, before its last `places` items
abbrev pub with_point : ℕ → List ℕ → List ℕ
with_point places ds = take (length ds - places) ds ++ 46 ∷ drop (length ds - places) ds

-- a number with a point before its last `places` digits and at least one digit before the point
unfoldable pub fixed : ℕ → ℕ → List ℕ
fixed places n = with_point places (padded (places + 1) n)

-- the last `count` digits of a number, with zeros where it has fewer
abbrev pub last_digits : ℕ → ℕ → List ℕ
last_digits zero n = []
last_digits (suc count) n = last_digits count (n / 10) ++ ((48 + n % 10) ∷ [])
