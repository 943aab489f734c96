use Rattle.std.proofs.Common.{◌∙◌, ap, Bool}
use Rattle.gl_box.specs.Cell.{spans_of}
use Rattle.gl_box.specs.Way.{before_if, open_on}
use Rattle.gl_box.proofs.Ways.{other_next}
use Rattle.gl_box.proofs.way.go_on.Goals as goal

pub returns-clause-same : goal.returns-clause-same
returns-clause-same c =
    let old = spans_of c.args.cell.now in
    let mid = spans_of c.go_upper.new.cell in
    let way = c.go_upper.new.way.items in
    let same = c.in_ok-go_upper.ensures.same ∙ ap (λ (b : Bool). before_if b mid (open_on mid way)) c.if-branch.false in
    other_next old mid c.in-Some.next c.args.way.now.items way c.args.others.now.items c.pop.new.self.items same (c.in_ok-go_upper.ensures.none c.if-branch.false) c.in-Some.ensures.items
