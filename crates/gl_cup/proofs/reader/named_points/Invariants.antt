use Rattle.std.proofs.Common.{◌≡◌, ◌+◌, [], length, map}
use Rattle.gl_cup.specs.Reading.{point_said, points_behind}
use Rattle.gl_cup.proofs.reader.named_points.Given as goal

-- the points so far, and behind them those of the names that are left, are those of all
abbrev pub invariant-names : goal.invariant-names
invariant-names l = record {
  are : points_behind l.columns l.points l.details l.line [] l.names ≡ points_behind l.columns l.points l.details l.line (map point_said l.made.items) l.left;
  count : length l.made.items + length l.left ≡ length l.names;
}

abbrev pub decreases-names : goal.decreases-names
decreases-names l = length l.left
