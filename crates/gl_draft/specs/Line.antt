-- The lines of a task file that is made, and its text.
use Rattle.std.specs.Prelude.{ℕ, ◌+◌, ◌/◌, ◌%◌, ◌==◌, List, [], ◌∷◌, ◌++◌, map, codes, Bool, true, false, if◌then◌else◌, unsigned_abs, int_lt, pos, ℤ}
use Rattle.std.specs.Fmt.{decimal}
use Rattle.std.specs.List.{flat_map}
use Rattle.std.specs.String.{string_bytes}
use Rattle.jiff_core.specs.declared.civil.date.Date.{Date}
use Rattle.gl_sphere.specs.declared.place.Grid.{Grid}
use Rattle.gl_text.specs.Forms.{is_no_control}
use Rattle.gl_text.specs.Numbers.{fixed}
use Rattle.gl_draft.specs.declared.line.Filling as code_filling
use Rattle.gl_draft.specs.declared.line.Filling.TheVariants as filling
use Rattle.gl_draft.specs.declared.line.Line as line
use Rattle.gl_draft.specs.declared.line.Line.TheVariants.{Gap, Remark, Head, Said, Open, Radials}
use Rattle.gl_draft.specs.declared.value.Value as code_value
use Rattle.gl_draft.specs.declared.value.Value.TheVariants as value
use Rattle.gl_draft.specs.declared.word.Key as code_key
use Rattle.gl_draft.specs.declared.word.Key.TheVariants as key
use Rattle.gl_draft.specs.declared.word.Section as code_section
use Rattle.gl_draft.specs.declared.word.Section.TheVariants as section

-- the line that begins a section
abbrev pub head_of : code_section.Section → List ℕ
head_of section.Start = codes "[start]"
head_of section.Zone = codes "[[zone]]"
head_of section.Part = codes "[[zone.part]]"
head_of section.Finish = codes "[finish]"
head_of section.Rules = codes "[rules]"
head_of section.Entrant = codes "[[entrant]]"

abbrev pub name_of_key : code_key.Key → List ℕ
name_of_key key.Date = codes "date"
name_of_key key.Kind = codes "kind"
name_of_key key.Minimum = codes "minimum"
name_of_key key.Closes = codes "closes"
name_of_key key.At = codes "at"
name_of_key key.Towards = codes "towards"
name_of_key key.Half = codes "half"
name_of_key key.Opening = codes "open"
name_of_key key.Close = codes "close"
name_of_key key.Radius = codes "radius"
name_of_key key.Inner = codes "inner"
name_of_key key.Outer = codes "outer"
name_of_key key.From = codes "from"
name_of_key key.To = codes "to"
name_of_key key.Ring = codes "ring"
name_of_key key.Number = codes "number"
name_of_key key.Name = codes "name"
name_of_key key.Handicap = codes "handicap"
name_of_key key.File = codes "file"

-- the last digits of a number, two, three and five of them
abbrev pub digit : ℕ → ℕ
digit n = 48 + n % 10

abbrev pub two_digits : ℕ → List ℕ
two_digits n = digit (n / 10) ∷ digit n ∷ []

abbrev pub three_digits : ℕ → List ℕ
three_digits n = digit (n / 100) ∷ two_digits n

abbrev pub five_digits : ℕ → List ℕ
five_digits n = digit (n / 10_000) ∷ digit (n / 1_000) ∷ three_digits n

-- the whole thousandths of a minute of an angle in 1/100,000 minute, without its degrees
abbrev pub minutes_in : ℕ → ℕ
minutes_in size = size % 6_000_000 / 100

-- the byte of a quote
abbrev pub quote : List ℕ
quote = 34 ∷ []

-- a latitude and a longitude as the task file has them, such as 5111220N and 00101920W
unfoldable pub lat_text : ℤ → List ℕ
lat_text lat =
    two_digits (unsigned_abs lat / 6_000_000) ++ five_digits (minutes_in (unsigned_abs lat))
    ++ (if int_lt lat (pos 0) then codes "S" else codes "N")

unfoldable pub lon_text : ℤ → List ℕ
lon_text lon =
    three_digits (unsigned_abs lon / 6_000_000) ++ five_digits (minutes_in (unsigned_abs lon))
    ++ (if int_lt lon (pos 0) then codes "W" else codes "E")

abbrev pub place_text : Grid → List ℕ
place_text place = lat_text place.lat ++ lon_text place.lon

-- a day, such as 2026-07-18
unfoldable pub day_text : Date → List ℕ
day_text day =
    two_digits (unsigned_abs day.year / 100) ++ two_digits (unsigned_abs day.year) ++ codes "-"
    ++ two_digits day.month ++ codes "-" ++ two_digits day.day

-- a byte of a text in quotes: a quote, a backslash and the byte 127 are written so that they read
-- as themselves
abbrev pub escaped : ℕ → List ℕ
escaped c =
    if c == 34 then codes "\\\"" else (if c == 92 then codes "\\\\"
    else (if c == 127 then codes "\\u007F" else c ∷ []))

-- a value; places, days and texts are in quotes
abbrev pub value_text : code_value.Value → List ℕ
value_text (value.Amount n) = decimal n
value_text (value.Place place) = quote ++ place_text place ++ quote
value_text (value.Day day) = quote ++ day_text day ++ quote
value_text (value.Text text) = quote ++ flat_map escaped text ++ quote
value_text value.Racing = codes "\"racing\""
value_text value.Area = codes "\"area\""

-- what stands for a value that the scorer has to fill in
abbrev pub mark : List ℕ
mark = codes "\"FILL IN\""

-- some value for a key that is left to fill in; entrants have different ones by their place
abbrev pub trial : code_key.Key → ℕ → List ℕ
trial key.Date n = codes "\"2000-01-01\""
trial key.Minimum n = codes "1"
trial key.Closes n = codes "100000"
trial key.Close n = codes "100000"
trial key.Number n = codes "\"TRIAL" ++ decimal n ++ quote
trial other n = codes "0"

-- a key with a value, and an LF, the byte 10
abbrev pub with_value : code_key.Key → List ℕ → List ℕ
with_value key text = name_of_key key ++ codes " = " ++ text ++ codes "\n"

-- a byte of a remark; one of a control character is shown as a question mark
abbrev pub shown : ℕ → ℕ
shown c = if is_no_control c then c else 63

-- the radials that a sector has if it lies about a direction, all in thousandths of a degree
unfoldable pub radials_text : ℕ → ℕ → ℕ → List ℕ
radials_text middle from to =
    codes "# about " ++ fixed 3 middle ++ codes ": from = " ++ decimal from ++ codes ", to = "
    ++ decimal to ++ codes "\n"

-- what stands for the value of a key that is left to fill in: the mark, or some value
abbrev pub filled_in : code_filling.Filling → code_key.Key → ℕ → List ℕ
filled_in filling.Mark key n = mark
filled_in filling.Trial key n = trial key n

-- a line as it stands in a text that is filled in one way or the other
abbrev pub line_with : code_filling.Filling → line.Line → List ℕ
line_with way Gap = codes "\n"
line_with way (Remark text) = codes "# " ++ map shown (string_bytes text) ++ codes "\n"
line_with way (Head section) = head_of section ++ codes "\n"
line_with way (Said key value) = with_value key (value_text value)
line_with way (Open key n) = with_value key (filled_in way key n)
line_with way (Radials middle from to) = radials_text middle from to

abbrev pub text_with : code_filling.Filling → List line.Line → List ℕ
text_with way lines = flat_map (line_with way) lines

-- the text as it is printed: the mark stands for each value that is left to fill in
abbrev pub marked_text : List line.Line → List ℕ
marked_text lines = text_with filling.Mark lines

-- the same text once each is filled in with some value
abbrev pub filled_text : List line.Line → List ℕ
filled_text lines = text_with filling.Trial lines

-- a line that says something of the task: all but remarks and empty lines
abbrev pub is_spoken : line.Line → Bool
is_spoken Gap = false
is_spoken (Remark text) = false
is_spoken (Head section) = true
is_spoken (Said key value) = true
is_spoken (Open key n) = true
is_spoken (Radials middle from to) = true
