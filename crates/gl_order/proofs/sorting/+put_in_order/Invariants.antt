use Rattle.gl_box.specs.Cell.{spans_of}
use Rattle.gl_box.proofs.Nodes.{spread}
use Rattle.gl_order.proofs.sorting.+put_in_order.Given as goal

-- each half reaches less far
abbrev pub decreases-put_in_order : goal.decreases-put_in_order
decreases-put_in_order g l = spread (spans_of l.cell)
