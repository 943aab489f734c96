use Rattle.std.proofs.Common.{◌≡◌, ◌++◌, map}
use Rattle.gl_box.specs.Closed.{box_of}
use Rattle.gl_order.specs.Runs.{boxes_in_runs}
use Rattle.gl_order.proofs.joined.spread.Given as goal

-- the boxes so far, and then those of the other runs
abbrev pub invariant-runs : goal.invariant-runs
invariant-runs l = map box_of l.all.items ++ boxes_in_runs l.run-iterator.rest.items ≡ boxes_in_runs l.fn.runs.items
