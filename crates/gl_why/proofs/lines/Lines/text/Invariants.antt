use Rattle.std.proofs.Common.{map, take}
use Rattle.gl_why.specs.Line.{IsTextOf}
use Rattle.gl_why.specs.declared.lines.Line.{Line}
use Rattle.gl_why.proofs.lines.Lines.text.Given as goal

-- the text has the lines so far
abbrev pub invariant-lines : goal.invariant-lines
invariant-lines l = IsTextOf (map (λ (x : Line). x.told) (take l.line-index l.line-items)) l.text.items
