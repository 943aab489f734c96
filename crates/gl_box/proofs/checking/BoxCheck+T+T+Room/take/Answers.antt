use Rattle.std.proofs.Common.{◌∙◌, sym, subst, ℕ, ◌+◌, List, ◌∷◌, ◌++◌, [], length, arith}
use Rattle.gl_box.specs.Boxes.{NumbersBox}
use Rattle.gl_box.specs.Cell.{spans_of}
use Rattle.gl_box.specs.Passing.{IsPassing}
use Rattle.gl_box.specs.Way.{open_of}
use Rattle.gl_box.proofs.Passed.{passing_next, passing_stays, still_passed}
use Rattle.gl_box.proofs.checking.BoxCheck+T+T+Room.take.Goals as goal

pub returns-then-is_some-clause-takes : goal.returns-then-is_some-clause-takes
returns-then-is_some-clause-takes g c = λ boxes checking.
    let s = c.args.self.now in
    record {
      passing = passing_stays (g.T.BoxTest.whole s.test) (g.T.BoxTest.closes s.test) boxes ((spans_of c.args.cell.now, c.args.why) ∷ []) (open_of s.opened) s.number s.wrong
          (sym c.is_some.ensures ∙ c.if-is_some.true) checking.passing;
      come = checking.come;
      is_room = checking.is_room;
    }

pub returns-clause-takes : goal.returns-clause-takes
returns-clause-takes g c = λ boxes checking.
    let s = c.args.self.now in
    let n = c.fault_of.new.self in
    let next : List (ℕ × ℕ) × g.row.T-Why.Denot = (spans_of c.args.cell.now, c.args.why) in
    let passed = still_passed (g.T.BoxTest.whole s.test) (g.T.BoxTest.closes s.test) boxes (open_of s.opened) s.number s.wrong (sym c.is_some.ensures ∙ c.if-is_some.false) checking.passing in
    let numbered : NumbersBox c.saturating_add-self.result (length boxes + 1) = omega (arith, c.saturating_add-self.ensures, c.in_ok-wrong.ensures.number, passed.numbered) in
    record {
      passing = subst (λ t. IsPassing (g.T.BoxTest.whole t) (g.T.BoxTest.closes t) (boxes ++ next ∷ []) (open_of n.opened) c.saturating_add-self.result c.in_ok-wrong.wrong)
          (sym c.in_ok-wrong.ensures.test)
          (passing_next (g.T.BoxTest.whole s.test) (g.T.BoxTest.closes s.test) boxes next (open_of n.opened) c.saturating_add-self.result c.in_ok-wrong.wrong numbered
          (c.in_ok-wrong.ensures.fault boxes passed));
      come = c.in_ok-wrong.ensures.come;
      is_room = c.in_ok-wrong.ensures.room;
    }
