-- Fields of the form KEY=VALUE.
use Rattle.std.specs.Prelude.{ℕ, ◌+◌, ◌==◌, ◌&&◌, ◌||◌, not, nat_lt, if◌then◌else◌, codes, Bool, true, false}
use Rattle.std.specs.Prelude.{List, [], ◌∷◌, length, take, drop, Option, None, Some, position, option_and_then, option_map, unwrap_or}
use Rattle.std.specs.List.{find, list_any}
use Rattle.std.specs.Str.{byte}
use Rattle.gl_text.specs.Forms.{is_text}
use Rattle.gl_cup.specs.Decimal.{radius_of}
use Rattle.gl_cup.specs.declared.pair.Keys as code
use Rattle.gl_cup.specs.declared.pair.Keys.TheVariants as keys
use Rattle.gl_cup.specs.declared.pair.PassedKey.{PassedKey}

-- what stands before a place, or all where there is none
abbrev pub before : List ℕ → Option ℕ → List ℕ
before field None = field
before field (Some end) = take end field

-- what stands before the first `=` of a field
abbrev pub key_of : List ℕ → List ℕ
key_of field = before field (position (λ c. c == byte "=") field)

-- what stands behind a key and the byte after it
abbrev pub behind_key : List ℕ → List ℕ → Option (List ℕ)
behind_key key field =
    if nat_lt (length key) (length field) then Some (drop (length key + 1) field) else None

-- what the first field with a key says
abbrev pub value_of : List ℕ → List (List ℕ) → Option (List ℕ)
value_of key fields =
    option_and_then (behind_key key) (find (λ field. is_text (key_of field) key) fields)

-- the same, or what stands for it where it is left out
abbrev pub said : List ℕ → List ℕ → List (List ℕ) → List ℕ
said key left_out fields = unwrap_or (value_of key fields) left_out

-- the keys of the line of options
abbrev pub options_keys : List (List ℕ)
options_keys =
    codes "Options" ∷ codes "NoStart" ∷ codes "TaskTime" ∷ codes "RandomOrder" ∷ codes "WpDis"
    ∷ codes "NearDis" ∷ codes "NearAlt" ∷ codes "MinDis" ∷ codes "MaxPts" ∷ codes "BeforePts"
    ∷ codes "AfterPts" ∷ codes "Bonus" ∷ []

-- those of a zone's line
abbrev pub zone_keys : List (List ℕ)
zone_keys =
    codes "ObsZone" ∷ codes "Style" ∷ codes "R1" ∷ codes "A1" ∷ codes "R2" ∷ codes "A2"
    ∷ codes "A12" ∷ codes "Line" ∷ codes "AAT" ∷ codes "Move" ∷ codes "Reduce" ∷ []

-- a key is one of some
abbrev pub is_among : List (List ℕ) → List ℕ → Bool
is_among known key = list_any (λ one. is_text one key) known

abbrev pub is_key : code.Keys → List ℕ → Bool
is_key keys.Options key = is_among options_keys key
is_key keys.Zone key = is_among zone_keys key
is_key keys.Any key = true
is_key keys.None key = false

-- the length that stands behind a key
abbrev pub length_behind : List ℕ → List ℕ → Option ℕ
length_behind key field = option_and_then radius_of (behind_key key field)

abbrev pub is_zero : Option ℕ → Bool
is_zero None = false
is_zero (Some n) = n == 0

-- a field says that there is no greatest altitude
abbrev pub is_no_altitude : List ℕ → Bool
is_no_altitude field =
    is_text (key_of field) (codes "MaxAlt") && is_zero (length_behind (codes "MaxAlt") field)

-- a field has a further key whose value changes nothing
abbrev pub is_nothing : List ℕ → Bool
is_nothing field = is_no_altitude field || is_text field (codes "SpeedStyle=0")

-- a field has a key that a line can't have
abbrev pub is_foreign : code.Keys → List ℕ → Bool
is_foreign known field = not (is_key known (key_of field)) && not (is_nothing field)

-- the key of the first field that has one
abbrev pub foreign_key : code.Keys → List (List ℕ) → Option (List ℕ)
foreign_key known fields = option_map key_of (find (is_foreign known) fields)

-- a field has a key
abbrev pub has_key : List ℕ → List ℕ → Bool
has_key key field = is_text (key_of field) key

-- the key of each field comes once
abbrev pub are_once : List (List ℕ) → Bool
are_once [] = true
are_once (field ∷ fields) =
    not (list_any (has_key (key_of field)) fields) && are_once fields

-- a field of a line is passed over, and the scorer is told so
abbrev pub is_passed : code.Keys → List ℕ → Bool
is_passed keys.Any field = true
is_passed other field = is_nothing field

abbrev pub passed_by : code.Keys → ℕ → List ℕ → List PassedKey
passed_by known line field =
    if is_passed known field then record { line = line; key = key_of field } ∷ [] else []
