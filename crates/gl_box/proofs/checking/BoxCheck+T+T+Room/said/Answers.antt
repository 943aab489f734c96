use Rattle.std.proofs.Common.{subst}
use Rattle.gl_box.specs.Passing.{IsPassing}
use Rattle.gl_box.specs.Way.{open_of}
use Rattle.gl_box.proofs.Passed.{had_said, none_said, some_open, unfinished_said}
use Rattle.gl_box.proofs.checking.BoxCheck+T+T+Room.said.Goals as goal

pub returns-in-Some : goal.returns-in-Some
returns-in-Some g c = λ boxes checking.
    let s = c.args.self.now in
    had_said (g.T.BoxTest.whole s.test) (g.T.BoxTest.closes s.test) boxes c.in-Some.said
    (subst (IsPassing (g.T.BoxTest.whole s.test) (g.T.BoxTest.closes s.test) boxes (open_of s.opened) s.number) c.in-Some.is checking.passing)

pub returns-else-self : goal.returns-else-self
returns-else-self g c = λ boxes checking.
    let s = c.args.self.now in
    none_said (g.T.BoxTest.whole s.test) (g.T.BoxTest.closes s.test) boxes (open_of s.opened) s.number
    (subst (IsPassing (g.T.BoxTest.whole s.test) (g.T.BoxTest.closes s.test) boxes (open_of s.opened) s.number) c.in_default.is checking.passing) (checking.come c.in_default.is c.if-self.false)

pub returns-then-self : goal.returns-then-self
returns-then-self g c = λ boxes checking.
    let s = c.args.self.now in
    let some = some_open s.opened c.if-self.true in
    unfinished_said (g.T.BoxTest.whole s.test) (g.T.BoxTest.closes s.test) boxes (open_of s.opened) s.number
    (subst (IsPassing (g.T.BoxTest.whole s.test) (g.T.BoxTest.closes s.test) boxes (open_of s.opened) s.number) c.in_default.is checking.passing) some
