use Rattle.std.proofs.Common.{map, take}
use Rattle.gl_look.specs.Line.{IsTextOf}
use Rattle.gl_look.specs.declared.remarks.Remark.{Remark}
use Rattle.gl_look.proofs.remarks.Remarks.text.Given as goal

-- the text has the lines of the remarks so far
abbrev pub invariant-remarks : goal.invariant-remarks
invariant-remarks l = IsTextOf (map (λ (r : Remark). r.told) (take l.remark-index l.remark-items)) l.text.items
