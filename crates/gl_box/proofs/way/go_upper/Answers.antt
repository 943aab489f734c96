use Rattle.std.proofs.Common.{◌∙◌, ap, refl, slice_set}
use Rattle.gl_box.specs.Cell.{spans_of}
use Rattle.gl_box.proofs.Ways.{passed_fork, upper_fork}
use Rattle.gl_box.proofs.way.go_upper.Goals as goal

pub forks-preserved : goal.forks-preserved
forks-preserved c =
    let cell = spans_of c.forks.cell in
    let fork = c.in-Some.fork in
    c.forks.invariant ∙ passed_fork cell (spans_of c.put-in-Some.new.cell) c.forks.way.items c.pop.new.self.items fork c.in-Some.ensures.items c.if-fork.false
    (c.put-in-Some.ensures ∙ ap (slice_set cell fork.axis) (λ i. (c.whole.ensures.lo i, c.whole.ensures.hi i)))

pub returns-then-fork-clause-same : goal.returns-then-fork-clause-same
returns-then-fork-clause-same c =
    let cell = spans_of c.forks.cell in
    let fork = c.in-Some.fork in
    c.forks.invariant ∙ upper_fork cell (spans_of c.put.new.cell) c.forks.way.items c.pop.new.self.items c.append.new.list.items fork _ c.in-Some.ensures.items c.if-fork.true
    (c.put.ensures ∙ ap (slice_set cell fork.axis) (λ i. (c.upper.ensures.lo i, c.upper.ensures.hi i))) c.in_ok-append.ensures refl (λ cell. refl)
