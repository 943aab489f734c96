-- An entrant's number that an earlier entrant has.
use Rattle.std.specs.Prelude.{ℕ, List, [], Option, None, Some, unwrap_or, map}
use Rattle.toml.specs.Data.{Data}
use Rattle.gl_task_file.specs.declared.error.TaskError.TheVariants.{Twice}
use Rattle.gl_task_file.specs.Keys.{Test, key_of, table_of}
use Rattle.gl_task_file.specs.Table.{number_key, says}
use Rattle.gl_task.specs.Numbers.{first_repeated}

-- the number of an entrant
abbrev pub number_in : Data → List ℕ
number_in entrant = unwrap_or (says number_key (table_of entrant)) []

abbrev pub twice_at : Option ℕ → Test
twice_at None = None
twice_at (Some n) = Some (Twice (key_of number_key.row n 0))

-- no entrant has the number of an earlier one
abbrev pub number_twice : List Data → Test
number_twice entrants = twice_at (first_repeated (map number_in entrants))
