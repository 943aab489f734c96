-- What a value of a task file says, where it is of the kind and in the range that is wanted; none
-- where it isn't.
use Rattle.std.specs.Prelude.{ℕ, nat_le, ◌==◌, ◌&&◌, codes, slice_index, if◌then◌else◌, List, length, Option, None, Some, option_and_then, Bool, ℤ, pos}
use Rattle.std.specs.Str.{byte}
use Rattle.gl_igc.specs.Dates.{day_number}
use Rattle.gl_text.specs.Digits.{◌>>=◌, columns, number_of}
use Rattle.toml.specs.Data.{Data, integer, as_str}
use Rattle.gl_text.specs.Forms.{is_text, is_file_name, is_number, is_name}

-- a whole number from the first limit to the second
abbrev pub whole : ℕ → ℕ → Data → Option ℕ
whole low high (integer (pos n)) = if nat_le low n && nat_le n high then Some n else None
whole low high _ = None

-- a text of some form
abbrev pub in_form : (List ℕ → Bool) → List ℕ → Option (List ℕ)
in_form form text = if form text then Some text else None

abbrev pub text_in_form : (List ℕ → Bool) → Data → Option (List ℕ)
text_in_form form value = option_and_then (in_form form) (as_str value)

abbrev pub file_name : Data → Option (List ℕ)
file_name = text_in_form is_file_name

abbrev pub number : Data → Option (List ℕ)
number = text_in_form is_number

abbrev pub name : Data → Option (List ℕ)
name = text_in_form is_name

-- the day number of a day of the years 2000 to 2099
unfoldable pub recent_day : ℕ → ℕ → ℕ → Option ℤ
recent_day year month day =
    if nat_le 2_000 year && nat_le year 2_099 then day_number year month day else None

-- the day number, from 1970-01-01, of the day that YYYY-MM-DD says, in the years 2000 to 2099
unfoldable pub day_of : List ℕ → Option ℤ
day_of text =
    if length text == 10 && slice_index text 4 == byte "-" && slice_index text 7 == byte "-" then
    (do
      year ← number_of (columns 1 4 text)
      month ← number_of (columns 6 7 text)
      day ← number_of (columns 9 10 text)
      recent_day year month day)
    else None

abbrev pub day : Data → Option ℤ
day value = option_and_then day_of (as_str value)

-- a racing task, or one of areas
pub data KindWord : Type 0 where
  racing : KindWord
  area : KindWord

unfoldable pub kind_of : List ℕ → Option KindWord
kind_of text =
    if is_text text (codes "racing") then Some racing
    else (if is_text text (codes "area") then Some area else None)

abbrev pub kind : Data → Option KindWord
kind value = option_and_then kind_of (as_str value)

-- a list that a task asks for: the free distance, or the triangle
pub data ListWord : Type 0 where
  free : ListWord
  triangle : ListWord

unfoldable pub list_word_of : List ℕ → Option ListWord
list_word_of text =
    if is_text text (codes "free") then Some free
    else (if is_text text (codes "triangle") then Some triangle else None)

abbrev pub list_word : Data → Option ListWord
list_word value = option_and_then list_word_of (as_str value)
