use Rattle.std.proofs.Common.{ap, subst, ◌∙◌, List, ◌∷◌, map}
use Rattle.std.specs.List.{flat_map, zip}
use Rattle.std.specs.List.Sorted.{IsPermutation}
use Rattle.csv.specs.Writing.{default_writer, row_text}
use Rattle.gl_task.specs.declared.task.Entrant.{Entrant}
use Rattle.gl_sheet.specs.declared.line.Line.{Line}
use Rattle.gl_sheet.specs.Columns.{fields, heading}
use Rattle.gl_sheet.specs.Code.Line.{line_of}
use Rattle.gl_sheet.proofs.text.sheet.Goals as goal

pub returns : goal.returns
returns c =
    let rows = c.args.rows.now in
    let lines = map line_of c.in_ok-lines.lines.items in
    record {
      lines = lines;
      all = subst (λ (entrants : List Entrant). IsPermutation (zip entrants rows) lines) c.as_slice.ensures c.in_ok-lines.ensures.all;
      in_order = c.in_ok-lines.ensures.sorted;
      written = c.in_ok-text.ensures ∙ ap (λ (of : List Line). flat_map (row_text default_writer) (heading ∷ map (fields rows) (map line_of of))) c.as_slice-2.ensures.value;
    }
