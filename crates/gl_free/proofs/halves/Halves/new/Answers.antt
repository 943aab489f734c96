use Rattle.gl_free.proofs.halves.Halves.new.Goals as goal

pub new-requires-clause-order : goal.new-requires-clause-order
new-requires-clause-order c = c.requires.order

pub new-requires-2-clause-order : goal.new-requires-2-clause-order
new-requires-2-clause-order c = c.requires.order

pub returns : goal.returns
returns c = record {
  before = c.in_ok-new.ensures.half;
  after = c.in_ok-new-2.ensures.half;
  before_is = c.in_ok-new.ensures.allowed;
  after_is = c.in_ok-new-2.ensures.allowed;
}
