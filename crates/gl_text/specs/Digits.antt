-- Columns of a text, which count from 1, and the number that digits in them write.
use Rattle.std.specs.Prelude.{ℕ, ◌-◌, if◌then◌else◌, List, Option, None, Some, slice_range}
use Rattle.std.specs.Char.{is_ascii_digit}
use Rattle.std.specs.List.{list_all}
use Rattle.std.specs.Str.Parse.{digits_value}

-- the step that follows a reading, where that reading gave something
infixl 10 ◌>>=◌
abbrev pub ◌>>=◌ : {A B : Type 0} → Option A → (A → Option B) → Option B
None >>= f = None
(Some x) >>= f = f x

-- the bytes from the first column to the last one
abbrev pub columns : ℕ → ℕ → List ℕ → List ℕ
columns first last text = slice_range text (first - 1) last

-- the number that digits write; none where a byte is no digit
unfoldable pub number_of : List ℕ → Option ℕ
number_of digits = if list_all is_ascii_digit digits then Some (digits_value 10 digits) else None
