-- The rows of a text: its lines that aren't empty, each cut into fields.
use Rattle.std.specs.Prelude.{ℕ, ◌+◌, ◌%◌, ◌==◌, ◌&&◌, ◌||◌, not, if◌then◌else◌, Bool, false, List, [], ◌∷◌, ◌++◌, length, option_map, unwrap_or, count_by}
use Rattle.std.specs.List.{list_any}
use Rattle.csv.specs.Machine.{next_record}
use Rattle.csv.specs.Reading.{default_config, strip_bom}
use Rattle.csv.specs.declared.parser.State.TheVariants as st
use Rattle.gl_text.specs.Lines.{lines_of}
use Rattle.gl_cup.specs.declared.row.Row.{Row}

-- the quotes of a line, the bytes 34, are even in number
abbrev pub quotes_match : List ℕ → Bool
quotes_match line = count_by (λ c. c == 34) line % 2 == 0

-- a CR, the byte 13, stands in a line
abbrev pub has_return : List ℕ → Bool
has_return line = list_any (λ c. c == 13) line

unfoldable pub is_whole : List ℕ → Bool
is_whole line = quotes_match line && not (has_return line)

-- the fields of a line, as comma-separated text with quotes
abbrev pub fields_of_line : List ℕ → List (List ℕ)
fields_of_line line =
    unwrap_or (option_map (λ read. read.0)
    (next_record default_config st.StartRecord [] [] (strip_bom line))) []

-- the row of a line with a number
abbrev pub row_of : ℕ → List ℕ → Row
row_of n line = record { line = n; fields = fields_of_line line; is_whole = is_whole line }

-- none for an empty line
abbrev pub row_at : ℕ → List ℕ → List Row
row_at n line = if length line == 0 then [] else row_of n line ∷ []

-- the rows of lines that count from a number on
abbrev pub rows_from : ℕ → List (List ℕ) → List Row
rows_from n [] = []
rows_from n (line ∷ lines) = row_at n line ++ rows_from (n + 1) lines

unfoldable pub rows_of : List ℕ → List Row
rows_of text = rows_from 1 (lines_of text)

-- the quotes of a row don't match, or a CR stands in it
abbrev pub is_broken : Row → Bool
is_broken row = not row.is_whole

-- a text in UTF-16 begins with its mark, or one of its first two bytes is 0
abbrev pub is_wide_pair : ℕ → ℕ → Bool
is_wide_pair one other =
    (one == 0) || (other == 0) || ((one == 255) && (other == 254))
    || ((one == 254) && (other == 255))

unfoldable pub is_wide : List ℕ → Bool
is_wide [] = false
is_wide (one ∷ []) = false
is_wide (one ∷ other ∷ rest) = is_wide_pair one other
