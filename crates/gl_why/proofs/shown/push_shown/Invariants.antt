use Rattle.std.proofs.Common.{◌≡◌, ◌++◌, map, take}
use Rattle.gl_why.specs.Line.{shown_byte}
use Rattle.gl_why.proofs.shown.push_shown.Given as goal

-- the bytes so far were appended as they are shown
abbrev pub invariant-bytes : goal.invariant-bytes
invariant-bytes l = l.line.items ≡ l.initial.line.items ++ map shown_byte (take l.byte-index l.name)
