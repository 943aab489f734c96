use Rattle.std.proofs.Common.{◌≡◌, ℕ, ◌<◌, [], get_or, map}
use Rattle.gl_box.specs.Cell.{spans_of}
use Rattle.gl_order.proofs.joined.are_same.Given as goal

-- the cells so far are the same
abbrev pub invariant-loop-index : goal.invariant-loop-index
invariant-loop-index l = (k : ℕ) → k < l.index → get_or (map spans_of l.cells) k [] ≡ get_or (map spans_of l.others) k []
