use Rattle.std.proofs.Common.{◌≡◌, map, take}
use Rattle.std.specs.List.{zip}
use Rattle.gl_sheet.proofs.line.gathered.Given as goal

abbrev pub invariant-loop-i : goal.invariant-loop-i
invariant-loop-i l =
    map (λ line. (line.entrant.now, line.row.now)) l.lines.items ≡ take l.i (zip l.entrants l.rows)
