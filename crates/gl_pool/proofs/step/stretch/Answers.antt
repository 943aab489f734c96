use Rattle.gl_pool.proofs.step.stretch.Goals as goal

pub step-requires-clause-at_work : goal.step-requires-clause-at_work
step-requires-clause-at_work g c =
    let some = c.requires.at_work in
    (some.0, (some.1.0, c.loop.invariant.on some.0 some.1.0 some.1.1))

pub loop-preserved : goal.loop-preserved
loop-preserved g c = record {
  on = λ place call way. c.in_ok-step.ensures.on place call (c.loop.invariant.on place call way);
  legs = c.in_ok-step.ensures.legs;
  trail = c.in_ok-step.ensures.trail;
}
