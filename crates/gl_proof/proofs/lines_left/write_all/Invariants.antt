use Rattle.std.proofs.Common.{length}
use Rattle.gl_proof.proofs.Pieces.{HasWritten}
use Rattle.gl_proof.proofs.lines_left.write_all.Given as goal

abbrev pub invariant-lines : goal.invariant-lines
invariant-lines g l = HasWritten l.fn.out.items l.out.items (g.L.LinesLeft.left l.fn.lines) (g.L.LinesLeft.left l.lines) 0

abbrev pub decreases-lines : goal.decreases-lines
decreases-lines g l = length (g.L.LinesLeft.left l.lines)
