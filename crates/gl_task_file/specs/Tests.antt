-- The tests of a task file, in the order in which docs/task-file.md has its keys. The first that
-- fails decides.
use Rattle.std.specs.Prelude.{ℕ, List, [], ◌∷◌, ◌++◌, Option, None, Some, unwrap_or, if◌then◌else◌}
use Rattle.toml.specs.Data.{Data, Members, as_table}
use Rattle.gl_task_file.specs.Keys.{Test, at_most, each_item, key_of, right_value, some_item, table_of}
use Rattle.gl_task_file.specs.Table.{has, list_under, may, must, says, table_under, airspace_key, ceiling_key, close_key, closes_key, closing_key, date_key, engine_level_key, engine_points_key, entrant_key, file_key, finish_at, finish_half, finish_key, finish_towards, from_key, handicap_key, inner_key, kind_key, lists_key, loss_key, minimum_key, name_key, number_key, open_key, outer_key, part_key, radius_key, ring_key, rules_key, start_at, start_half, start_key, start_towards, to_key, wait_key, width_key, zone_at, zone_key}
use Rattle.gl_task_file.specs.Twice.{number_twice}
use Rattle.gl_task_file.specs.Values.{KindWord, area, list_word, racing}

-- the minimum of an area task, in seconds; a racing task has none
abbrev pub minimum_test : Option KindWord → Members → Test
minimum_test (Some area) file = must 0 0 minimum_key file
minimum_test (Some racing) file = None
minimum_test None file = None

-- the day: its date, the kind of its task, its end and the airspace file
unfoldable pub day_tests : Members → List Test
day_tests file =
    must 0 0 date_key file
    ∷ must 0 0 kind_key file
    ∷ minimum_test (says kind_key file) file
    ∷ must 0 0 closes_key file
    ∷ may 0 0 airspace_key file
    ∷ []

-- one word of the lists that are asked for
unfoldable pub word_tests : ℕ → Data → List Test
word_tests n word = right_value (key_of lists_key.row n 0) (list_word word) ∷ []

-- the lists that are asked for: at most two words
unfoldable pub lists_tests : Members → List Test
lists_tests file =
    may 0 0 lists_key file
    ∷ at_most (key_of lists_key.row 0 0) 2 (list_under lists_key file)
    ∷ each_item word_tests 1 (list_under lists_key file)

-- the announcement of a start, in seconds: the wait, and the width of the window where there is a
-- wait
unfoldable pub pilot_tests : Members → List Test
pilot_tests start =
    may 0 0 wait_key start
    ∷ (if has wait_key start then must 0 0 width_key start ∷ [] else [])

-- the first and the last second of a start, and its announcement
unfoldable pub time_tests : Members → List Test
time_tests start =
    must 0 0 open_key start
    ∷ must 0 0 (close_key (unwrap_or (says open_key start) 0)) start
    ∷ pilot_tests start

-- the start: its line and its times; lengths in metres
unfoldable pub start_tests : Members → List Test
start_tests file =
    let start = table_under start_key file in
    must 0 0 start_key file
    ∷ must 0 0 start_at start
    ∷ must 0 0 (start_towards (says start_at start)) start
    ∷ must 0 0 start_half start
    ∷ time_tests start

-- a sector: its two lengths and its two radials, in thousandths of a degree
abbrev pub sector_tests : ℕ → ℕ → Members → List Test
sector_tests zone part table =
    may zone part inner_key table
    ∷ must zone part (outer_key (unwrap_or (says inner_key table) 0)) table
    ∷ must zone part from_key table
    ∷ must zone part to_key table
    ∷ []

-- one part of a zone: a cylinder where it has a radius, else a sector
unfoldable pub part_tests : ℕ → ℕ → Data → List Test
part_tests zone part value =
    let table = table_of value in
    right_value (key_of part_key.row zone part) (as_table value)
    ∷ may zone part radius_key table
    ∷ (if has radius_key table then [] else sector_tests zone part table)

-- one zone: its centre, its list of parts and each part
unfoldable pub zone_tests : ℕ → Data → List Test
zone_tests zone value =
    let table = table_of value in
    let parts = list_under part_key table in
    right_value (key_of zone_key.row zone 0) (as_table value)
    ∷ must zone 0 zone_at table
    ∷ must zone 0 part_key table
    ∷ some_item (key_of part_key.row zone 0) parts
    ∷ at_most (key_of part_key.row zone 0) 4 parts
    ∷ each_item (part_tests zone) 1 parts

-- the list of zones, and each zone
unfoldable pub zones_tests : Members → List Test
zones_tests file =
    let zones = list_under zone_key file in
    must 0 0 zone_key file
    ∷ some_item (key_of zone_key.row 0 0) zones
    ∷ at_most (key_of zone_key.row 0 0) 8 zones
    ∷ each_item zone_tests 1 zones

-- the finish line of a finish without a ring
abbrev pub gate_tests : Members → List Test
gate_tests finish =
    must 0 0 finish_half finish
    ∷ must 0 0 (finish_towards (says finish_at finish)) finish
    ∷ []

-- the finish: a ring, or a line
unfoldable pub finish_tests : Members → List Test
finish_tests file =
    let finish = table_under finish_key file in
    must 0 0 finish_key file
    ∷ must 0 0 finish_at finish
    ∷ may 0 0 ring_key finish
    ∷ (if has ring_key finish then [] else gate_tests finish)

-- the keys of the local rules
abbrev pub rule_tests : Members → List Test
rule_tests rules =
    may 0 0 ceiling_key rules
    ∷ may 0 0 engine_level_key rules
    ∷ may 0 0 engine_points_key rules
    ∷ may 0 0 loss_key rules
    ∷ may 0 0 closing_key rules
    ∷ []

-- the local rules: their section, and its keys
unfoldable pub rules_tests : Members → List Test
rules_tests file =
    may 0 0 rules_key file ∷ rule_tests (table_under rules_key file)

-- one entrant: its number, its name, its handicap and its file
unfoldable pub entrant_tests : ℕ → Data → List Test
entrant_tests n value =
    let table = table_of value in
    right_value (key_of entrant_key.row n 0) (as_table value)
    ∷ must n 0 number_key table
    ∷ must n 0 name_key table
    ∷ must n 0 handicap_key table
    ∷ must n 0 file_key table
    ∷ []

-- the list of entrants, and each entrant
unfoldable pub entrants_tests : Members → List Test
entrants_tests file =
    let entrants = list_under entrant_key file in
    must 0 0 entrant_key file
    ∷ some_item (key_of entrant_key.row 0 0) entrants
    ∷ at_most (key_of entrant_key.row 0 0) 200 entrants
    ∷ each_item entrant_tests 1 entrants

-- the keys of the day, and the lists
unfoldable pub head_tests : Members → List Test
head_tests file = day_tests file ++ lists_tests file

-- the zones and the finish
unfoldable pub way_tests : Members → List Test
way_tests file = zones_tests file ++ finish_tests file

-- the start, the zones and the finish
unfoldable pub course_tests : Members → List Test
course_tests file = start_tests file ++ way_tests file

-- the day, the lists, the start, the zones and the finish
unfoldable pub plan_tests : Members → List Test
plan_tests file = head_tests file ++ course_tests file

-- the entrants, and then that no entrant has the number of an earlier one
unfoldable pub numbered_tests : Members → List Test
numbered_tests file = entrants_tests file ++ number_twice (list_under entrant_key file) ∷ []

-- the local rules and the entrants
unfoldable pub people_tests : Members → List Test
people_tests file = rules_tests file ++ numbered_tests file

-- all tests of a file
unfoldable pub tests : Members → List Test
tests file = plan_tests file ++ people_tests file
