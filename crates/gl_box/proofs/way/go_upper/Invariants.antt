use Rattle.std.proofs.Common.{◌≡◌, length}
use Rattle.gl_box.specs.Cell.{spans_of}
use Rattle.gl_box.specs.Way.{open_on}
use Rattle.gl_box.proofs.way.go_upper.Given as goal

-- the same upper halves are open
abbrev pub invariant-forks : goal.invariant-forks
invariant-forks l = open_on (spans_of l.fn.cell) l.fn.way.items ≡ open_on (spans_of l.cell) l.way.items

abbrev pub decreases-forks : goal.decreases-forks
decreases-forks l = length l.way.items
