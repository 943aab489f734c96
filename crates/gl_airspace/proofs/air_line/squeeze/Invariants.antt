use Rattle.std.proofs.Common.{◌≡◌, ◌++◌, drop, if◌then◌else◌}
use Rattle.gl_airspace.specs.Line.{blank_before, squeezed}
use Rattle.gl_airspace.proofs.air_line.squeeze.Given as goal

-- what the buffer has, and what the bytes that are left come to, are the squeezed line
abbrev pub invariant-loop-byte : goal.invariant-loop-byte
invariant-loop-byte l =
    squeezed l.line ≡ l.buffer.items ++ (if l.is_blank_before then blank_before (squeezed (drop l.byte-index l.line)) else squeezed (drop l.byte-index l.line))
