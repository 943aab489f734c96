use Rattle.std.proofs.Common.{◌≡◌, ◌++◌, map, take}
use Rattle.gl_draft.specs.Line.{shown}
use Rattle.gl_draft.proofs.line.push_remark.Given as goal

abbrev pub invariant-bytes : goal.invariant-bytes
invariant-bytes l = l.text.items ≡ l.initial.text.items ++ map shown (take l.byte-index l.bytes)
