use Rattle.std.proofs.Common.{◌≡◌, ◌++◌, map, take}
use Rattle.gl_plain.specs.declared.part.Part.TheVariants.{Done}
use Rattle.gl_replay.proofs.replayed.push_done.Given as goal

-- those so far
abbrev pub invariant-loop-closed : goal.invariant-loop-closed
invariant-loop-closed l = l.parts.items ≡ l.fn.parts.items ++ map Done (take l.closed-index l.boxes)
