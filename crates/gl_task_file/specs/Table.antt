-- The keys of a task file: the row of each in docs/task-file.md, its name, and what its value has
-- to be. The tests of a file and what a task says of it both stand on these.
use Rattle.std.specs.Prelude.{ℕ, max, codes, List, Option, is_some, Bool, ℤ}
use Rattle.toml.specs.Data.{Data, Members, as_table, get_member}
use Rattle.gl_sphere.specs.declared.place.Grid.{Grid}
use Rattle.gl_task_file.specs.Keys.{Test, key_of, list_at, list_of, needed, optional, said, table_at}
use Rattle.gl_task_file.specs.Places.{place, place_away_from}
use Rattle.gl_task_file.specs.Values.{KindWord, day, file_name, kind, number, name, whole}

-- a key: its row, its name, and what its value says where it is what is wanted
pub record Entry (A : Type 0) : Type 0 where
  pub row : ℕ
  pub name : List ℕ
  pub wanted : Data → Option A

abbrev pub entry : {A : Type 0} → ℕ → List ℕ → (Data → Option A) → Entry A
entry r n w = record { row = r; name = n; wanted = w }

-- what a table says by a key
abbrev pub says : {A : Type 0} → Entry A → Members → Option A
says key table = said key.name key.wanted table

-- a table has a key
abbrev pub has : {A : Type 0} → Entry A → Members → Bool
has key table = is_some (get_member key.name table)

-- the table under a key, and the values of the list under a key
abbrev pub table_under : Entry Members → Members → Members
table_under key table = table_at key.name table

abbrev pub list_under : Entry (List Data) → Members → List Data
list_under key table = list_at key.name table

-- a key has to be there, in an item of a list and a part of it, or in none
abbrev pub must : {A : Type 0} → ℕ → ℕ → Entry A → Members → Test
must item part key table = needed (key_of key.row item part) key.name key.wanted table

-- a key may be left out
abbrev pub may : {A : Type 0} → ℕ → ℕ → Entry A → Members → Test
may item part key table = optional (key_of key.row item part) key.name key.wanted table

-- the day; times in seconds
abbrev pub date_key : Entry ℤ
date_key = entry 1 (codes "date") day

abbrev pub kind_key : Entry KindWord
kind_key = entry 2 (codes "kind") kind

abbrev pub minimum_key : Entry ℕ
minimum_key = entry 3 (codes "minimum") (whole 1 100_000)

abbrev pub closes_key : Entry ℕ
closes_key = entry 4 (codes "closes") (whole 1 100_000)

abbrev pub airspace_key : Entry (List ℕ)
airspace_key = entry 5 (codes "airspace") file_name

abbrev pub lists_key : Entry (List Data)
lists_key = entry 6 (codes "lists") list_of

-- the start; lengths in metres
abbrev pub start_key : Entry Members
start_key = entry 7 (codes "start") as_table

abbrev pub start_at : Entry Grid
start_at = entry 8 (codes "at") place

abbrev pub start_towards : Option Grid → Entry Grid
start_towards at = entry 9 (codes "towards") (place_away_from at)

abbrev pub start_half : Entry ℕ
start_half = entry 10 (codes "half") (whole 1 500_000)

abbrev pub open_key : Entry ℕ
open_key = entry 11 (codes "open") (whole 0 100_000)

abbrev pub close_key : ℕ → Entry ℕ
close_key opens = entry 12 (codes "close") (whole opens 100_000)

abbrev pub wait_key : Entry ℕ
wait_key = entry 37 (codes "wait") (whole 0 3_600)

abbrev pub width_key : Entry ℕ
width_key = entry 38 (codes "width") (whole 1 3_600)

-- the zones; radials in thousandths of a degree
abbrev pub zone_key : Entry (List Data)
zone_key = entry 13 (codes "zone") list_of

abbrev pub zone_at : Entry Grid
zone_at = entry 14 (codes "at") place

abbrev pub part_key : Entry (List Data)
part_key = entry 15 (codes "part") list_of

abbrev pub radius_key : Entry ℕ
radius_key = entry 16 (codes "radius") (whole 1 500_000)

abbrev pub inner_key : Entry ℕ
inner_key = entry 17 (codes "inner") (whole 0 500_000)

abbrev pub outer_key : ℕ → Entry ℕ
outer_key inner = entry 18 (codes "outer") (whole (max 1 inner) 500_000)

abbrev pub from_key : Entry ℕ
from_key = entry 19 (codes "from") (whole 0 359_999)

abbrev pub to_key : Entry ℕ
to_key = entry 20 (codes "to") (whole 0 359_999)

-- the finish
abbrev pub finish_key : Entry Members
finish_key = entry 21 (codes "finish") as_table

abbrev pub finish_at : Entry Grid
finish_at = entry 22 (codes "at") place

abbrev pub ring_key : Entry ℕ
ring_key = entry 23 (codes "ring") (whole 1 500_000)

abbrev pub finish_half : Entry ℕ
finish_half = entry 24 (codes "half") (whole 1 500_000)

abbrev pub finish_towards : Option Grid → Entry Grid
finish_towards at = entry 25 (codes "towards") (place_away_from at)

-- the local rules; altitudes, losses and lengths in metres
abbrev pub rules_key : Entry Members
rules_key = entry 26 (codes "rules") as_table

abbrev pub ceiling_key : Entry ℕ
ceiling_key = entry 27 (codes "ceiling") (whole 0 32_767)

abbrev pub engine_level_key : Entry ℕ
engine_level_key = entry 28 (codes "engine_level") (whole 0 999)

abbrev pub engine_points_key : Entry ℕ
engine_points_key = entry 29 (codes "engine_points") (whole 0 1_000)

abbrev pub loss_key : Entry ℕ
loss_key = entry 30 (codes "loss") (whole 0 32_767)

abbrev pub closing_key : Entry ℕ
closing_key = entry 31 (codes "closing") (whole 0 500_000)

-- the entrants
abbrev pub entrant_key : Entry (List Data)
entrant_key = entry 32 (codes "entrant") list_of

abbrev pub number_key : Entry (List ℕ)
number_key = entry 33 (codes "number") number

abbrev pub name_key : Entry (List ℕ)
name_key = entry 34 (codes "name") name

abbrev pub handicap_key : Entry ℕ
handicap_key = entry 35 (codes "handicap") (whole 1 2_000)

abbrev pub file_key : Entry (List ℕ)
file_key = entry 36 (codes "file") file_name

-- the keys of a line
pub record LineKeys : Type 0 where
  pub at : Entry Grid
  pub towards : Option Grid → Entry Grid
  pub half : Entry ℕ

abbrev pub start_line : LineKeys
start_line = record { at = start_at; towards = start_towards; half = start_half }

abbrev pub finish_line : LineKeys
finish_line = record { at = finish_at; towards = finish_towards; half = finish_half }
