-- What a recording says of who flew, and its name.
use Rattle.std.specs.Prelude.{ℕ, ◌+◌, ◌-◌, nat_le, ◌==◌, ◌&&◌, if◌then◌else◌, codes, length, List, [], take, drop, filter, map, Bool, Option, None, Some, option_map, option_and_then, position, slice_index, slice_range, encode_utf8}
use Rattle.std.specs.Char.{is_ascii_alphanumeric, to_ascii_lowercase}
use Rattle.std.specs.List.{flat_map}
use Rattle.std.specs.Str.{byte, chars, is_utf8, trim}
use Rattle.gl_igc.specs.FirstOf.{first_of}
use Rattle.gl_text.specs.Forms.{is_name, is_no_control, is_number, is_text}
use Rattle.gl_text.specs.Lines.{lines_of}
use Rattle.gl_draft.specs.declared.heading.Said as code
use Rattle.gl_draft.specs.declared.heading.Said.TheVariants as said

-- the characters of some bytes: those of UTF-8, or else those of Latin-1, where each byte is one
abbrev pub characters : List ℕ → List ℕ
characters bytes = if is_utf8 bytes then chars bytes else bytes

-- a character in UTF-8; a control character is dropped
abbrev pub plain : ℕ → List ℕ
plain c = if is_no_control c then encode_utf8 c else []

-- the text of some bytes, in UTF-8, without control characters and without blanks at its ends
unfoldable pub plain_text : List ℕ → List ℕ
plain_text bytes = trim (flat_map plain (characters bytes))

-- the three letters of the H lines that say a competition number or a pilot's name
abbrev pub letters_of : code.Said → List ℕ
letters_of said.Number = codes "CID"
letters_of said.Pilot = codes "PLT"

-- a text has the form of a number or of a name
abbrev pub has_form : code.Said → List ℕ → Bool
has_form said.Number text = is_number text
has_form said.Pilot text = is_name text

-- the text, where it has the form
abbrev pub kept : code.Said → List ℕ → Option (List ℕ)
kept what text = if has_form what text then Some text else None

-- a line is an H line with three letters
abbrev pub is_headed : List ℕ → List ℕ → Bool
is_headed letters line =
    nat_le 5 (length line) && (slice_index line 0 == byte "H")
    && is_text (slice_range line 2 5) letters

-- what an H line with three letters says behind its first colon
unfoldable pub value_of : List ℕ → List ℕ → Option (List ℕ)
value_of letters line =
    if is_headed letters line
    then option_map (λ at. drop (at + 1) line) (position (λ c. c == byte ":") line) else None

-- what a line says of who flew, where it has the form
abbrev pub said_in_line : code.Said → List ℕ → Option (List ℕ)
said_in_line what line =
    option_and_then (λ value. kept what (plain_text value)) (value_of (letters_of what) line)

-- what a recording says of who flew: the first of its lines that says it in the form
unfoldable pub said_in : code.Said → List ℕ → Option (List ℕ)
said_in what text = first_of (said_in_line what) (lines_of text)

-- the name of a file ends in `.igc`, in small letters or capitals
abbrev pub is_igc : List ℕ → Bool
is_igc name =
    nat_le 4 (length name)
    && is_text (map to_ascii_lowercase (drop (length name - 4) name)) (codes ".igc")

-- the name of a recording without this ending
abbrev pub stem_of : List ℕ → List ℕ
stem_of name = take (length name - 4) name

-- its letters and digits, the last eight of them
abbrev pub last_eight : List ℕ → List ℕ
last_eight bytes = drop (length bytes - 8) bytes

-- the number that the name of a recording says: the last eight of its letters and digits
unfoldable pub number_by_file : List ℕ → Option (List ℕ)
number_by_file name =
    kept said.Number (plain_text (last_eight (filter is_ascii_alphanumeric (stem_of name))))

-- the pilot's name that the name of a recording says: all of it, where it has the form
unfoldable pub pilot_by_file : List ℕ → List ℕ
pilot_by_file name =
    if is_name (plain_text (stem_of name)) then plain_text (stem_of name) else codes "pilot"
