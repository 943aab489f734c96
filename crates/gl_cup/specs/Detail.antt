-- What the rows below a task say, and the first of them that is refused.
use Rattle.std.specs.Prelude.{ℕ, ◌==◌, ◌||◌, nat_le, if◌then◌else◌, codes, Bool, true, false, List, [], ◌∷◌, ◌++◌, Option, None, Some, option_map, option_and_then, unwrap_or}
use Rattle.std.specs.List.{find, flat_map, list_any}
use Rattle.gl_cup.specs.Choice.{begins_with, is_headed}
use Rattle.gl_cup.specs.Pair.{are_once, foreign_key, passed_by}
use Rattle.gl_cup.specs.Zone.{options_of, zone_of}
use Rattle.gl_cup.specs.declared.detail.Detail as code
use Rattle.gl_cup.specs.declared.detail.Detail.TheVariants as detail
use Rattle.gl_cup.specs.declared.error.CupError.{CupError}
use Rattle.gl_cup.specs.declared.error.CupError.TheVariants as cup
use Rattle.gl_cup.specs.declared.zone.Options.{Options}
use Rattle.gl_cup.specs.declared.pair.Keys as code_keys
use Rattle.gl_cup.specs.declared.pair.Keys.TheVariants as keys
use Rattle.gl_cup.specs.declared.pair.PassedKey.{PassedKey}
use Rattle.gl_cup.specs.declared.row.Row.{Row}
use Rattle.gl_cup.specs.declared.zone.ObsZone.{ObsZone}

-- which keys the fields of a row below a task may have, by the first one
abbrev pub keys_of : List (List ℕ) → code_keys.Keys
keys_of fields =
    if is_headed fields (codes "Options") then keys.Options
    else (if begins_with fields (codes "ObsZone=") then keys.Zone
    else (if begins_with fields (codes "Version=") then keys.Any else keys.None))

-- what the fields of a row say: the options, a zone, or nothing of the task
abbrev pub said_by : code_keys.Keys → List (List ℕ) → Option code.Detail
said_by keys.Options fields = option_map detail.Options (options_of fields)
said_by keys.Zone fields = option_map detail.Zone (zone_of fields)
said_by keys.Any fields = Some detail.Nothing
said_by keys.None fields = None

-- what a row says, if it reads, and no key comes twice
unfoldable pub detail_of : Row → Option code.Detail
detail_of row =
    if are_once row.fields then said_by (keys_of row.fields) row.fields else None

-- two details say the same thing: both the options, or both the zone of one point
abbrev pub is_again : code.Detail → Option code.Detail → Bool
is_again (detail.Options one) (Some (detail.Options other)) = true
is_again (detail.Zone one) (Some (detail.Zone other)) = one.point == other.point
is_again one other = false

-- a zone is of no point, where there are so many
abbrev pub is_beyond : ℕ → code.Detail → Bool
is_beyond points (detail.Options options) = false
is_beyond points (detail.Zone zone) = nat_le points zone.point
is_beyond points detail.Nothing = false

-- a row that doesn't read, that is of no point, or that says what one before it says
abbrev pub is_misplaced : ℕ → List Row → Option code.Detail → Bool
is_misplaced points before None = true
is_misplaced points before (Some detail) =
    is_beyond points detail || list_any (λ row. is_again detail (detail_of row)) before

-- what is found first
abbrev pub or_else : Option CupError → Option CupError → Option CupError
or_else None other = other
or_else (Some why) other = Some why

-- a row has a key that its line can't have
abbrev pub key_fault : Row → Option CupError
key_fault row =
    option_map (cup.Key row.line) (foreign_key (keys_of row.fields) row.fields)

-- what is wrong with a row behind others, below a task of so many points
unfoldable pub fault_of : ℕ → List Row → Row → Option CupError
fault_of points before row =
    or_else (key_fault row)
    (if is_misplaced points before (detail_of row) then Some (cup.Detail row.line) else None)

-- what is wrong with the first of rows, behind some others, with which something is
abbrev pub first_fault : ℕ → List Row → List Row → Option CupError
first_fault points before [] = None
first_fault points before (row ∷ rows) =
    or_else (fault_of points before row) (first_fault points (before ++ row ∷ []) rows)

-- the keys of a row that are passed over, and those of rows
abbrev pub passed_in : Row → List PassedKey
passed_in row = flat_map (passed_by (keys_of row.fields) row.line) row.fields

abbrev pub passed_among : List Row → List PassedKey
passed_among rows = flat_map passed_in rows

-- the zone that a row says, if it says one
abbrev pub zone_in : Option code.Detail → Option ObsZone
zone_in None = None
zone_in (Some (detail.Options options)) = None
zone_in (Some (detail.Zone zone)) = Some zone
zone_in (Some detail.Nothing) = None

-- the options that a row says, if it says some
abbrev pub options_said : Option code.Detail → Option Options
options_said None = None
options_said (Some (detail.Options options)) = Some options
options_said (Some (detail.Zone zone)) = None
options_said (Some detail.Nothing) = None

-- the options of the first row that says some; where none does, no time is said
abbrev pub options_among : List Row → Options
options_among [] = record { opens = None; time = None }
options_among (row ∷ rows) = unwrap_or (options_said (detail_of row)) (options_among rows)

-- the zone is that of a point
abbrev pub is_zone_of : ℕ → Option ObsZone → Bool
is_zone_of point None = false
is_zone_of point (Some zone) = zone.point == point

-- the zone of a point: that of the first row that says it, and the row's line
unfoldable pub zone_at : List Row → ℕ → Option (ObsZone × ℕ)
zone_at rows point =
    option_and_then (λ (row : Row). option_map (λ zone. (zone, row.line)) (zone_in (detail_of row)))
    (find (λ row. is_zone_of point (zone_in (detail_of row))) rows)
