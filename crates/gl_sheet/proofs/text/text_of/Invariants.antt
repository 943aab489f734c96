use Rattle.std.proofs.Common.{◌≡◌, ◌∷◌, map, take}
use Rattle.std.specs.List.{flat_map}
use Rattle.csv.specs.Writing.{default_writer, row_text}
use Rattle.gl_sheet.specs.Columns.{fields, heading}
use Rattle.gl_sheet.specs.Code.Line.{line_of}
use Rattle.gl_sheet.proofs.text.text_of.Given as goal

abbrev pub invariant-loop-line : goal.invariant-loop-line
invariant-loop-line l =
    l.text.items
    ≡ flat_map (row_text default_writer) (heading ∷ map (fields l.rows) (map line_of (take l.line-index l.lines)))
