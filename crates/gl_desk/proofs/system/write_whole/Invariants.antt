use Rattle.std.proofs.Common.{◌-◌, ◌≤◌, length, take}
use Rattle.std.specs.Io.KnownBytes.{Appends}
use Rattle.gl_desk.proofs.system.write_whole.Given as goal

-- what was taken so far was written, and nothing else
abbrev pub invariant-parts : goal.invariant-parts
invariant-parts g l = record {
  within : l.at ≤ length l.piece;
  written : Appends (g.W.Write.contents l.fn.to) (g.W.Write.contents l.to) (take l.at l.piece);
}

abbrev pub decreases-parts : goal.decreases-parts
decreases-parts g l = length l.piece - l.at
