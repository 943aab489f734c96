use Rattle.std.proofs.Common.{◌-◌, ap, arith}
use Rattle.std.proofs.lemmas.Int.{ints}
use Rattle.gl_goal.specs.Box.{Box}
use Rattle.gl_free.proofs.PlaceLemmas.{altitude-between}
use Rattle.gl_free.proofs.best.all_altitudes.Goals as goal

pub returns : goal.returns
returns c = λ place below.
    let between = altitude-between c.args.hulls.now (0, c.len.result - 1) place (omega arith, omega (arith, c.len.ensures)) (omega (arith, c.len.ensures)) in
    let low = ap (λ (box : Box). box.alt.0) c.hull-whole.ensures.value in
    let high = ap (λ (box : Box). box.alt.1) c.hull-whole.ensures.value in
    (omega (arith, ints, between.0, low), omega (arith, ints, between.1, high))
