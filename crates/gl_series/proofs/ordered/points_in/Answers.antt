use Rattle.std.proofs.Common.{sym}
use Rattle.gl_series.proofs.Beside.{points_none, points_there}
use Rattle.gl_series.proofs.ordered.points_in.Goals as goal

pub returns-in-Some-clause-value : goal.returns-in-Some-clause-value
returns-in-Some-clause-value c =
    let found = rw c.in-Some.is at c.row_beside.ensures in
    sym (points_there c.args.number.now c.args.day.now.day.now.rows c.in-Some.row.now c.requires.day.numbers_differ found.0 found.1)

pub returns-in-None-clause-value : goal.returns-in-None-clause-value
returns-in-None-clause-value c =
    sym (points_none c.args.number.now c.args.day.now.day.now.rows (rw c.in-None.is at c.row_beside.ensures))
