use Rattle.gl_proof.proofs.Pieces.{HasWritten}
use Rattle.gl_proof.proofs.lines_left.write_next.Given as goal

-- so many lines are written
abbrev pub invariant-loop : goal.invariant-loop
invariant-loop g l =
    HasWritten l.fn.out.items l.out.items (g.L.LinesLeft.left l.fn.lines) (g.L.LinesLeft.left l.lines) l.counter
