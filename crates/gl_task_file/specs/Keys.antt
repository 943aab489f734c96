-- What a table of the task file has under a key, and whether that is what the key wants.
use Rattle.std.specs.Prelude.{ℕ, ◌+◌, nat_lt, List, [], ◌∷◌, ◌++◌, length, Option, None, Some, option_and_then, unwrap_or, if◌then◌else◌}
use Rattle.toml.specs.Data.{Data, Items, no_items, item, Members, no_members, get_member, as_array, as_table}
use Rattle.gl_task.specs.declared.key.Key.{Key}
use Rattle.gl_task_file.specs.declared.error.TaskError.{TaskError}
use Rattle.gl_task_file.specs.declared.error.TaskError.TheVariants.{Missing, Value, TooMany}

-- A test of the file: what is wrong, or nothing where it passes.
abbrev pub Test : Type 0
Test = Option TaskError

-- what is wrong by the first test that fails
abbrev pub first_failed : List Test → Test
first_failed [] = None
first_failed (None ∷ tests) = first_failed tests
first_failed (Some wrong ∷ tests) = Some wrong

-- a key: its row in the table of keys (docs/task-file.md), the item of its list, and the part
abbrev pub key_of : ℕ → ℕ → ℕ → Key
key_of r i p = record { row = r; item = i; part = p }

-- what the value at a key says, where it is there and is what is wanted
abbrev pub said : {A : Type 0} → List ℕ → (Data → Option A) → Members → Option A
said name wanted table = option_and_then wanted (get_member name table)

-- a value has to be what is wanted
abbrev pub right_value : {A : Type 0} → Key → Option A → Test
right_value k None = Some (Value k)
right_value k (Some meaning) = None

-- a key has to be there, and to have what is wanted
abbrev pub needed_value : {A : Type 0} → Key → (Data → Option A) → Option Data → Test
needed_value k wanted None = Some (Missing k)
needed_value k wanted (Some value) = right_value k (wanted value)

abbrev pub needed : {A : Type 0} → Key → List ℕ → (Data → Option A) → Members → Test
needed k name wanted table = needed_value k wanted (get_member name table)

-- a key may be left out, and else has to have what is wanted
abbrev pub optional_value : {A : Type 0} → Key → (Data → Option A) → Option Data → Test
optional_value k wanted None = None
optional_value k wanted (Some value) = right_value k (wanted value)

abbrev pub optional : {A : Type 0} → Key → List ℕ → (Data → Option A) → Members → Test
optional k name wanted table = optional_value k wanted (get_member name table)

-- the values of a list
abbrev pub values_of : Items → List Data
values_of no_items = []
values_of (item value rest) = value ∷ values_of rest

-- a list of so many values
abbrev pub list_of : Data → Option (List Data)
list_of value = option_and_then (λ items. Some (values_of items)) (as_array value)

-- the values of the list under a key
abbrev pub list_at : List ℕ → Members → List Data
list_at name table = unwrap_or (said name list_of table) []

-- the table under a key
abbrev pub table_at : List ℕ → Members → Members
table_at name table = unwrap_or (said name as_table table) no_members

-- the table that an item of a list is
abbrev pub table_of : Data → Members
table_of value = unwrap_or (as_table value) no_members

-- an empty list is as good as none
abbrev pub some_item : Key → List Data → Test
some_item k [] = Some (Missing k)
some_item k (value ∷ values) = None

-- a list has at most so many items
abbrev pub at_most : Key → ℕ → List Data → Test
at_most k most values = if nat_lt most (length values) then Some (TooMany k) else None

-- the tests of the items of a list, one item after the other; items count from a number on
abbrev pub each_item : (ℕ → Data → List Test) → ℕ → List Data → List Test
each_item tests n [] = []
each_item tests n (value ∷ values) = tests n value ++ each_item tests (n + 1) values
