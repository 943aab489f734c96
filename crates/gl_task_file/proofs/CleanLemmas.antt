-- No test of the keys answers that the text isn't TOML.
use Rattle.std.proofs.Common.{ℕ, ◌+◌, Bool, true, false, List, [], ◌∷◌, ◌++◌, Option, None, Some, cond}
use Rattle.std.specs.Prelude.{nat_lt, length}
use Rattle.toml.specs.Data.{Data, Members}
use Rattle.gl_task.specs.declared.key.Key.{Key}
use Rattle.gl_task_file.specs.declared.error.TaskError.TheVariants.{Toml, Missing, Value, Twice, TooMany, Memory}
use Rattle.gl_task_file.specs.Keys.{Test, at_most, each_item, first_failed, needed_value, optional_value, right_value, some_item, table_of}
use Rattle.gl_task_file.specs.Tests.{day_tests, lists_tests, pilot_tests, start_tests, zones_tests, finish_tests, rules_tests, entrants_tests, time_tests, head_tests, way_tests, course_tests, plan_tests, numbered_tests, people_tests, tests, word_tests, zone_tests, part_tests, sector_tests, gate_tests, entrant_tests, minimum_test}
use Rattle.gl_task_file.specs.Table.{finish_key, has, radius_key, ring_key, start_key, table_under, wait_key}
use Rattle.gl_task_file.specs.Twice.{twice_at}
use Rattle.gl_task_file.specs.Values.{KindWord, racing, area}

-- a test names a key
abbrev pub IsKeyed : Test → Type 0
IsKeyed None = Unit {0}
IsKeyed (Some Toml) = ⊥
IsKeyed (Some Memory) = ⊥
IsKeyed (Some (Missing k)) = Unit {0}
IsKeyed (Some (Value k)) = Unit {0}
IsKeyed (Some (Twice k)) = Unit {0}
IsKeyed (Some (TooMany k)) = Unit {0}

abbrev pub AreKeyed : List Test → Type 0
AreKeyed [] = Unit {0}
AreKeyed (test ∷ tests) = IsKeyed test × AreKeyed tests

keyed_right : {A : Type 0} (k : Key) (o : Option A) → IsKeyed (right_value k o)
keyed_right k None = tt
keyed_right k (Some x) = tt

keyed_needed : {A : Type 0} (k : Key) (w : Data → Option A) (o : Option Data) → IsKeyed (needed_value k w o)
keyed_needed k w None = tt
keyed_needed k w (Some value) = keyed_right k (w value)

keyed_optional : {A : Type 0} (k : Key) (w : Data → Option A) (o : Option Data) → IsKeyed (optional_value k w o)
keyed_optional k w None = tt
keyed_optional k w (Some value) = keyed_right k (w value)

keyed_some_item : (k : Key) (values : List Data) → IsKeyed (some_item k values)
keyed_some_item k [] = tt
keyed_some_item k (value ∷ values) = tt

keyed_at_most : (k : Key) (most : ℕ) (values : List Data) → IsKeyed (at_most k most values)
keyed_at_most k most values = by_test (nat_lt most (length values))
  where
    by_test : (b : Bool) → IsKeyed (cond b (Some (TooMany k)) None)
    by_test true = tt
    by_test false = tt

keyed_twice : (o : Option ℕ) → IsKeyed (twice_at o)
keyed_twice None = tt
keyed_twice (Some n) = tt

keyed_all : (a b : List Test) → AreKeyed a → AreKeyed b → AreKeyed (a ++ b)
keyed_all [] b first rest = rest
keyed_all (test ∷ a) b first rest = (first.0, keyed_all a b first.1 rest)

keyed_each : (tests : ℕ → Data → List Test) → ((n : ℕ) (value : Data) → AreKeyed (tests n value)) → (n : ℕ) (values : List Data) → AreKeyed (each_item tests n values)
keyed_each tests each n [] = tt
keyed_each tests each n (value ∷ values) = keyed_all (tests n value) _ (each n value) (keyed_each tests each (n + 1) values)

keyed_if : (b : Bool) (tests : List Test) → AreKeyed tests → AreKeyed (cond b [] tests)
keyed_if true tests keyed = tt
keyed_if false tests keyed = keyed

keyed_where : (b : Bool) (tests : List Test) → AreKeyed tests → AreKeyed (cond b tests [])
keyed_where true tests keyed = keyed
keyed_where false tests keyed = tt

keyed_minimum : (o : Option KindWord) (file : Members) → IsKeyed (minimum_test o file)
keyed_minimum None file = tt
keyed_minimum (Some racing) file = tt
keyed_minimum (Some area) file = search keyed_needed

keyed_day : (file : Members) → AreKeyed (day_tests file)
unfolding day_tests
keyed_day file = (search keyed_needed, (search keyed_needed, (keyed_minimum _ file, (search keyed_needed, (search keyed_optional, tt)))))

keyed_word : (n : ℕ) (word : Data) → AreKeyed (word_tests n word)
unfolding word_tests
keyed_word n word = (search keyed_right, tt)

keyed_lists : (file : Members) → AreKeyed (lists_tests file)
unfolding lists_tests
keyed_lists file = (search keyed_optional, (search keyed_at_most, keyed_each word_tests keyed_word _ _))

keyed_pilot : (start : Members) → AreKeyed (pilot_tests start)
unfolding pilot_tests
keyed_pilot start = (search keyed_optional, keyed_where (has wait_key start) _ (search keyed_needed, tt))

keyed_times : (start : Members) → AreKeyed (time_tests start)
unfolding time_tests
keyed_times start = (search keyed_needed, (search keyed_needed, keyed_pilot start))

keyed_start : (file : Members) → AreKeyed (start_tests file)
unfolding start_tests
keyed_start file = (search keyed_needed, (search keyed_needed, (search keyed_needed, (search keyed_needed, keyed_times (table_under start_key file)))))

keyed_sector : (zone part : ℕ) (table : Members) → AreKeyed (sector_tests zone part table)
keyed_sector zone part table = (search keyed_optional, (search keyed_needed, (search keyed_needed, (search keyed_needed, tt))))

keyed_part : (zone part : ℕ) (value : Data) → AreKeyed (part_tests zone part value)
unfolding part_tests
keyed_part zone part value = (
  search keyed_right,
  (
    search keyed_optional,
    keyed_if (has radius_key (table_of value)) (sector_tests zone part (table_of value)) (keyed_sector zone part (table_of value)),
  ),
)

keyed_zone : (zone : ℕ) (value : Data) → AreKeyed (zone_tests zone value)
unfolding zone_tests
keyed_zone zone value = (search keyed_right, (search keyed_needed, (search keyed_needed, (search keyed_some_item, (search keyed_at_most, keyed_each (part_tests zone) (keyed_part zone) _ _)))))

keyed_zones : (file : Members) → AreKeyed (zones_tests file)
unfolding zones_tests
keyed_zones file = (search keyed_needed, (search keyed_some_item, (search keyed_at_most, keyed_each zone_tests keyed_zone _ _)))

keyed_gate : (finish : Members) → AreKeyed (gate_tests finish)
keyed_gate finish = (search keyed_needed, (search keyed_needed, tt))

keyed_finish : (file : Members) → AreKeyed (finish_tests file)
unfolding finish_tests
keyed_finish file = (
  search keyed_needed,
  (
    search keyed_needed,
    (
      search keyed_optional,
      keyed_if (has ring_key (table_under finish_key file)) (gate_tests (table_under finish_key file)) (keyed_gate (table_under finish_key file)),
    ),
  ),
)

keyed_rules : (file : Members) → AreKeyed (rules_tests file)
unfolding rules_tests
keyed_rules file = (search keyed_optional, (search keyed_optional, (search keyed_optional, (search keyed_optional, (search keyed_optional, (search keyed_optional, tt))))))

keyed_entrant : (n : ℕ) (value : Data) → AreKeyed (entrant_tests n value)
unfolding entrant_tests
keyed_entrant n value = (search keyed_right, (search keyed_needed, (search keyed_needed, (search keyed_needed, (search keyed_needed, tt)))))

keyed_entrants : (file : Members) → AreKeyed (entrants_tests file)
unfolding entrants_tests
keyed_entrants file = (search keyed_needed, (search keyed_some_item, (search keyed_at_most, keyed_each entrant_tests keyed_entrant _ _)))

pub keyed_tests : (file : Members) → AreKeyed (tests file)
unfolding tests plan_tests head_tests course_tests way_tests people_tests numbered_tests
keyed_tests file =
    keyed_all _ _ (keyed_all _ _ (keyed_all _ _ (keyed_day file) (keyed_lists file)) (keyed_all _ _ (keyed_start file) (keyed_all _ _ (keyed_zones file) (keyed_finish file))))
    (keyed_all _ _ (keyed_rules file) (keyed_all _ _ (keyed_entrants file) (search keyed_twice, tt)))

-- what fails first among keyed tests names a key
pub keyed_first : (ts : List Test) → AreKeyed ts → IsKeyed (first_failed ts)
keyed_first [] keyed = tt
keyed_first (None ∷ ts) keyed = keyed_first ts keyed.1
keyed_first (Some e ∷ ts) keyed = keyed.0
