-- The lines that say something, of lines and more lines.
use Rattle.std.proofs.Common.{◌≡◌, List, ◌++◌, filter}
use Rattle.std.proofs.lemmas.List.Elements.{filter-append}
use Rattle.gl_draft.specs.declared.line.Line.{Line}
use Rattle.gl_draft.specs.Line.{is_spoken}

-- they are those of the one and those of the other
pub spoken_more : (lines more : List Line) → filter is_spoken (lines ++ more) ≡ filter is_spoken lines ++ filter is_spoken more
spoken_more lines more = filter-append is_spoken lines more
