use Rattle.std.proofs.Common.{◌∙◌, sym}
use Rattle.std.proofs.lemmas.Bool.{false≢true}
use Rattle.gl_box.specs.Cell.{spans_of}
use Rattle.gl_box.specs.Way.{open_of}
use Rattle.gl_box.proofs.Passed.{closed_on, extra_said, next_covered, some_open, stray_said, unclosed_said}
use Rattle.gl_box.proofs.checking.BoxCheck+T+T+Room.fault_of.Goals as goal

pub returns-then-not-self-clause-fault : goal.returns-then-not-self-clause-fault
returns-then-not-self-clause-fault g c = λ boxes passed.
    let s = c.args.self.now in
    extra_said (g.T.BoxTest.whole s.test) (g.T.BoxTest.closes s.test) boxes (spans_of c.args.cell.now, c.args.why) (open_of s.opened) s.number passed (c.requires.come c.if-not-self.true)

pub returns-then-not-branch-clause-fault : goal.returns-then-not-branch-clause-fault
returns-then-not-branch-clause-fault g c = λ boxes passed.
    let s = c.args.self.now in
    let some = some_open s.opened c.if-not-self.false in
    stray_said (g.T.BoxTest.whole s.test) (g.T.BoxTest.closes s.test) boxes (spans_of c.args.cell.now, c.args.why) (open_of s.opened) s.number passed some
    (c.in_ok-take.ensures.absent c.if-not-branch.true)

pub is_closed-requires-clause-covers : goal.is_closed-requires-clause-covers
is_closed-requires-clause-covers g c =
    let s = c.args.self.now in
    let some = some_open s.opened c.if-not-self.false in
    next_covered (g.T.BoxTest.whole s.test) (g.T.BoxTest.closes s.test) c.requires.passed.0 (spans_of c.args.cell.now, c.args.why) (open_of s.opened) (open_of c.take.new.self)
    s.number c.requires.passed.1 some (c.in_ok-take.ensures.there c.if-not-branch.false)

pub returns-then-not-is_closed-clause-fault : goal.returns-then-not-is_closed-clause-fault
returns-then-not-is_closed-clause-fault g c = λ boxes passed.
    let s = c.args.self.now in
    let some = some_open s.opened c.if-not-self.false in
    unclosed_said (g.T.BoxTest.whole s.test) (g.T.BoxTest.closes s.test) boxes (spans_of c.args.cell.now, c.args.why) (open_of s.opened) (open_of c.take.new.self)
    s.number passed some (c.in_ok-take.ensures.there c.if-not-branch.false) (λ closed. false≢true (sym c.if-not-is_closed.true ∙ c.is_closed.ensures.closed.1 closed))

pub returns-clause-fault : goal.returns-clause-fault
returns-clause-fault g c = λ boxes passed.
    let s = c.args.self.now in
    let some = some_open s.opened c.if-not-self.false in
    closed_on (g.T.BoxTest.whole s.test) (g.T.BoxTest.closes s.test) boxes (spans_of c.args.cell.now, c.args.why) (open_of s.opened) (open_of c.take.new.self)
    s.number passed some (c.in_ok-take.ensures.there c.if-not-branch.false) (c.is_closed.ensures.closed.0 c.if-not-is_closed.false)
