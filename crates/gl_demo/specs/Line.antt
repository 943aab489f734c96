use Rattle.std.specs.Prelude.{ℕ, ◌/◌, ◌%◌, List, [], ◌∷◌, ◌++◌, codes}
use Rattle.gl_text.specs.Numbers.{last_digits}
use Rattle.gl_demo.specs.declared.place.Place.{Place}

-- a second of the day as hours, minutes and seconds, of two digits each
unfoldable pub clock_columns : ℕ → List ℕ
clock_columns second =
    last_digits 2 (second / 3_600)
    ++ last_digits 2 (second / 60 % 60)
    ++ last_digits 2 (second % 60)

-- a coordinate as degrees, of so many digits, thousandths of minutes, of five, and a letter
unfoldable pub angle_columns : ℕ → ℕ → ℕ → List ℕ
angle_columns width letter coordinate =
    last_digits width (coordinate / 6_000_000)
    ++ last_digits 5 (coordinate % 6_000_000 / 100)
    ++ letter ∷ []

-- The line of a fix at a second of the day: the letter `B`, the second, the latitude north, the
-- longitude east, `A` for a valid fix, both altitudes as 01500, the noise as 005, the decimals of
-- the latitude's thousandths and of the longitude's, and LF.
unfoldable pub b_line : ℕ → Place → List ℕ
b_line second place =
    codes "B"
    ++ clock_columns second
    ++ angle_columns 2 78 place.latitude
    ++ angle_columns 3 69 place.longitude
    ++ codes "A0150001500005"
    ++ last_digits 2 (place.latitude % 100)
    ++ last_digits 2 (place.longitude % 100)
    ++ 10 ∷ []
