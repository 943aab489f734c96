use Rattle.std.proofs.Common.{◌≡◌, ◌++◌, map, take}
use Rattle.gl_plain.specs.declared.part.Part.TheVariants.{Open}
use Rattle.gl_replay.proofs.replayed.push_open.Given as goal

-- those so far
abbrev pub invariant-loop-cell : goal.invariant-loop-cell
invariant-loop-cell l = l.parts.items ≡ l.fn.parts.items ++ map Open (take l.cell-index l.cells)
