use Rattle.gl_box.specs.Cell.{spans_of}
use Rattle.gl_box.proofs.Ways.{forked, stays}
use Rattle.gl_box.proofs.way.go_lower.Goals as goal

pub returns-in_default : goal.returns-in_default
returns-in_default c = λ others. stays c.args.cell.now c.lower.new.cell c.args.way.now.items others c.in_default.ensures.0 c.in_default.ensures.1

pub returns : goal.returns
returns c = λ others.
    forked (spans_of c.args.cell.now) (spans_of c.lower.new.cell) c.in-Some.fork c.args.way.now.items c.append.new.list.items others c.in-Some.ensures c.in_ok-append.ensures
