use Rattle.std.proofs.Common.{length}
use Rattle.gl_answer.proofs.Appended.{HasAppendedFirst}
use Rattle.gl_answer.proofs.appending.append_lines.Given as goal

-- the lines so far are appended
abbrev pub invariant-pieces : goal.invariant-pieces
invariant-pieces g l =
    HasAppendedFirst l.file (g.L.LinesLeft.left l.fn.lines) (g.L.LinesLeft.left l.lines) (g.D.Desk.told l.fn.desk) (g.D.Desk.told l.desk)

abbrev pub decreases-pieces : goal.decreases-pieces
decreases-pieces g l = length (g.L.LinesLeft.left l.lines)
