-- The forms of names and numbers.
use Rattle.std.specs.Prelude.{ℕ, nat_le, nat_eq, ◌==◌, ◌&&◌, not, codes, length, List, Bool}
use Rattle.std.specs.Char.{is_ascii_alphanumeric}
use Rattle.std.specs.Cmp.Lexicographic.{pointwise}
use Rattle.std.specs.List.{list_all}
use Rattle.std.specs.Str.{byte}

-- the two texts have the same bytes
abbrev pub is_text : List ℕ → List ℕ → Bool
is_text a b = pointwise nat_eq a b

-- a text has from 1 to so many bytes
abbrev pub is_short : List ℕ → ℕ → Bool
is_short text most = nat_le 1 (length text) && nat_le (length text) most

-- a byte that may stand in the name of a file: no control character below the space, and no slash
abbrev pub is_in_file_name : ℕ → Bool
is_in_file_name c = nat_le 32 c && not (c == byte "/")

-- the name of a file: 1 to 128 bytes, none of them below 32 or a slash, and not the folder itself
-- or the one above it
unfoldable pub is_file_name : List ℕ → Bool
is_file_name text =
    is_short text 128 && list_all is_in_file_name text
    && not (is_text text (codes ".")) && not (is_text text (codes ".."))

-- the number of an entrant: 1 to 8 letters and digits of ASCII
abbrev pub is_number : List ℕ → Bool
is_number text = is_short text 8 && list_all is_ascii_alphanumeric text

-- no control character: not below 32, and not 127
abbrev pub is_no_control : ℕ → Bool
is_no_control c = nat_le 32 c && not (c == 127)

-- a text of 1 to so many bytes, none of them a control character
abbrev pub is_plain : List ℕ → ℕ → Bool
is_plain text most = is_short text most && list_all is_no_control text

-- the name of an entrant: such a text of at most 80 bytes
abbrev pub is_name : List ℕ → Bool
is_name text = is_plain text 80
