-- The sheet of a day.
use Rattle.std.specs.Prelude.{◌≡◌, ℕ, List, ◌∷◌, map}
use Rattle.std.specs.declared.cmp.Ordering.{Ordering}
use Rattle.std.specs.Cmp.Lexicographic.{slice_cmp}
use Rattle.std.specs.List.{flat_map, zip}
use Rattle.std.specs.List.Sorted.{IsPermutation, IsSorted}
use Rattle.std.specs.Ordering.{nat_cmp, ordering_then}
use Rattle.csv.specs.Writing.{default_writer, row_text}
use Rattle.gl_task.specs.declared.task.Entrant.{Entrant}
use Rattle.gl_sheet.specs.declared.row.Row.{Row}
use Rattle.gl_sheet.specs.Columns.{fields, heading}

-- how two lines stand: by points, the greater first, and at equal points by the bytes of the number
abbrev pub line_cmp : Entrant × Row → Entrant × Row → Ordering
line_cmp a b =
    ordering_then (nat_cmp b.1.points a.1.points) (slice_cmp nat_cmp a.0.number b.0.number)

-- The text of the sheet: the heading, and then each entrant's line in the sheet's order, each a
-- record of csv's default writer.
pub record IsSheet (entrants : List Entrant) (rows : List Row) (text : List ℕ) : Type 0 where
  pub lines : List (Entrant × Row)
  pub all : IsPermutation (zip entrants rows) lines
  pub in_order : IsSorted line_cmp lines
  pub written : text ≡ flat_map (row_text default_writer) (heading ∷ map (fields rows) lines)
