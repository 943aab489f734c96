use Rattle.std.proofs.Common.{◌≡◌, drop}
use Rattle.gl_cup.specs.Reading.{first_unplaced}
use Rattle.gl_cup.proofs.reader.test_names.Given as goal

-- the rest decide
abbrev pub invariant-names : goal.invariant-names
invariant-names l = first_unplaced l.columns l.points l.line 0 l.names ≡ first_unplaced l.columns l.points l.line l.n (drop l.n l.names)
