use Rattle.std.proofs.Common.{ap, ◌∷◌, [], arith}
use Rattle.gl_box.specs.Cell.{spans_of}
use Rattle.gl_box.proofs.Nodes.{spread, spread-lower, spread-upper}
use Rattle.gl_order.proofs.stretches.stretch_len.Goals as goal
use Rattle.gl_box.proofs.Work.{work_of, turns_some, turns_cut, work_of-append, work_of-one}

pub halves-smaller-in-Some : goal.halves-smaller-in-Some
halves-smaller-in-Some g c =
    omega (arith, ap work_of c.in-Some.ensures.items, work_of-append c.pop.new.self.items (c.in-Some.other ∷ []), work_of-one c.in-Some.other, turns_some (spread (spans_of c.halves.cell)))

pub halves-smaller-then-covers : goal.halves-smaller-then-covers
halves-smaller-then-covers g c =
    let halves = c.in-Some-halve.ensures.halves in
    let less = turns_cut _ _ _ (spread-lower _ _ _ halves) (spread-upper _ _ _ halves) in
    omega (arith, less, ap work_of c.in_ok-push.ensures.items, work_of-append c.halves.opened.items (c.halve.new.cell ∷ []), work_of-one c.halve.new.cell)

pub halves-smaller : goal.halves-smaller
halves-smaller g c =
    let halves = c.in-Some-halve.ensures.halves in
    let less = turns_cut _ _ _ (spread-lower _ _ _ halves) (spread-upper _ _ _ halves) in
    omega (arith, less, turns_some (spread (spans_of c.in-Some-halve.lower)))
