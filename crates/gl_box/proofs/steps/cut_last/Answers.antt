use Rattle.std.proofs.Common.{◌≡◌, ◌∙◌, ap, ◌-◌, ◌<◌, length, slice_set, arith}
use Rattle.gl_box.specs.Cell.{spans_of}
use Rattle.gl_box.proofs.Ways.{cut_made}
use Rattle.gl_box.proofs.steps.cut_last.Goals as goal

pub returns : goal.returns
returns c = λ rest cell ends.
    let items = c.args.cells.now.items in
    let fork = c.in-Some.fork in
    let some : 0 < length items = omega (arith, c.requires, c.args.cells.now.ok.0) in
    let last : c.len-top.result - 1 ≡ length items - 1 = omega (arith, c.len-top.ensures, c.args.cells.now.ok.0) in
    cut_made items rest c.append.new.list.items (c.len-top.result - 1) c.index-cell.result.now cell c.index_mut.result.now c.index_mut-2.result.now c.lower.new.cell c.put.new.cell fork some last c.index-cell.ensures ends
    c.in_ok-append.ensures c.index_mut.ensures.value c.in-Some.ensures c.index_mut-2.ensures.value
    (c.put.ensures ∙ ap (slice_set (spans_of c.index_mut-2.result.now) fork.axis) (λ i. (c.upper.ensures.lo i, c.upper.ensures.hi i)))
