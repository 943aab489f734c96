-- What is remarked of the keys of a task file.
use Rattle.std.specs.Prelude.{ℕ, ◌+◌, codes, ◌++◌, Bool, true, false, if◌then◌else◌, List, [], ◌∷◌, Option, None, Some}
use Rattle.std.specs.List.{flat_map, list_any}
use Rattle.toml.specs.Data.{Data, Members, no_members, member}
use Rattle.gl_task_file.specs.Keys.{list_at, table_at, table_of}
use Rattle.gl_look.specs.Meaning.{slip_of_key}
use Rattle.gl_look.specs.declared.told.Place.{Place}
use Rattle.gl_look.specs.declared.told.Section as code
use Rattle.gl_look.specs.declared.told.Section.TheVariants as section
use Rattle.gl_look.specs.declared.told.Slip as code_slip
use Rattle.gl_look.specs.declared.told.Slip.TheVariants as slip
use Rattle.gl_look.specs.declared.told.Subject as code_subject
use Rattle.gl_look.specs.declared.told.Subject.TheVariants as subject
use Rattle.gl_look.specs.declared.told.Told.{Told}

-- a remark
abbrev pub remark : code_subject.Subject → code_slip.Slip → Told
remark about what = record { subject = about; slip = what }

-- a remark, if something is wrong
abbrev pub told_if : code_subject.Subject → Option code_slip.Slip → List Told
told_if about None = []
told_if about (Some what) = remark about what ∷ []

-- the keys of a table
abbrev pub key_names : Members → List (List ℕ)
key_names no_members = []
key_names (member key value more) = key ∷ key_names more

abbrev pub key_told : Place → Members → List ℕ → List Told
key_told place table key =
    told_if (subject.Key place key) (slip_of_key place.section key table)

-- of each key of a table
abbrev pub keys_told : Place → Members → List Told
keys_told place table = flat_map (key_told place table) (key_names table)

-- of each item of a list; items count from a number on
abbrev pub each_told : (ℕ → Data → List Told) → ℕ → List Data → List Told
each_told of_item n [] = []
each_told of_item n (value ∷ values) = of_item n value ++ each_told of_item (n + 1) values

-- the table of an item in a list, or of a part of a zone
abbrev pub place_of : code.Section → ℕ → ℕ → Place
place_of section.Part zone n = record { section = section.Part; item = zone; part = n }
place_of section.Day zone n = record { section = section.Day; item = n; part = 0 }
place_of section.Start zone n = record { section = section.Start; item = n; part = 0 }
place_of section.Zone zone n = record { section = section.Zone; item = n; part = 0 }
place_of section.Finish zone n = record { section = section.Finish; item = n; part = 0 }
place_of section.Rules zone n = record { section = section.Rules; item = n; part = 0 }
place_of section.Entrant zone n = record { section = section.Entrant; item = n; part = 0 }

abbrev pub item_told : code.Section → ℕ → ℕ → Data → List Told
item_told kind zone n value = keys_told (place_of kind zone n) (table_of value)

-- of a zone, and then of its parts
abbrev pub zone_told : ℕ → Data → List Told
zone_told n value =
    keys_told (place_of section.Zone 0 n) (table_of value)
    ++ each_told (item_told section.Part n) 1 (list_at (codes "part") (table_of value))

-- of a section
abbrev pub table_told : code.Section → List ℕ → Members → List Told
table_told kind name file = keys_told (place_of kind 0 0) (table_at name file)

-- of a whole task file, table by table
unfoldable pub tables_told : Members → List Told
tables_told file =
    keys_told (place_of section.Day 0 0) file
    ++ table_told section.Start (codes "start") file
    ++ each_told zone_told 1 (list_at (codes "zone") file)
    ++ table_told section.Finish (codes "finish") file
    ++ table_told section.Rules (codes "rules") file
    ++ each_told (item_told section.Entrant 0) 1 (list_at (codes "entrant") file)

-- a remark is that a key is still to be filled in
abbrev pub is_open_slip : code_slip.Slip → Bool
is_open_slip slip.FillIn = true
is_open_slip other = false

abbrev pub is_open : Told → Bool
is_open told = is_open_slip told.slip

-- A file that says no task is remarked, unless a key is still to be filled in.
abbrev pub refused_told : List Told → List Told
refused_told so_far =
    if list_any is_open so_far then [] else remark subject.Task slip.NoTask ∷ []
