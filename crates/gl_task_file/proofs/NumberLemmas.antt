-- The numbers of entrants are those of their tables.
use Rattle.std.proofs.Common.{◌≡◌, refl, ap, List, [], ◌∷◌, map}
use Rattle.toml.specs.Data.{Data}
use Rattle.gl_task.specs.declared.task.Entrant.{Entrant}
use Rattle.gl_task_file.specs.Meaning.{Each, IsEntrant}
use Rattle.gl_task.specs.Numbers.{first_repeated}
use Rattle.gl_task_file.specs.Twice.{number_in, number_twice, twice_at}

pub numbers_are : (values : List Data) (entrants : List Entrant) → Each IsEntrant values entrants → map number_in values ≡ map (λ entrant. entrant.number) entrants
numbers_are [] [] each = refl
numbers_are (value ∷ values) [] each = absurd each
numbers_are [] (entrant ∷ entrants) each = absurd each
numbers_are (value ∷ values) (entrant ∷ entrants) each =
    rw (each.0.number, numbers_are values entrants each.1)

-- whether a number comes twice is told by the entrants' own numbers
pub twice_is : (values : List Data) (entrants : List Entrant) → Each IsEntrant values entrants → number_twice values ≡ twice_at (first_repeated (map (λ entrant. entrant.number) entrants))
twice_is values entrants each = ap (λ numbers. twice_at (first_repeated numbers)) (numbers_are values entrants each)
