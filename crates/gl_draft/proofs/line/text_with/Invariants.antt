use Rattle.std.proofs.Common.{◌≡◌, take}
use Rattle.gl_draft.specs.Line.{text_with}
use Rattle.gl_draft.proofs.line.text_with.Given as goal

abbrev pub invariant-lines : goal.invariant-lines
invariant-lines l = l.text.items ≡ text_with l.filling (take l.line-index l.lines)
