use Rattle.gl_goal.specs.Chords.{reach}
use Rattle.gl_goal.specs.Hull.{box_of}
use Rattle.gl_goal.proofs.Attained.{between_ends, greatest-from, greatest_chord-is}
use Rattle.gl_goal.proofs.chords.max_sq.Goals as goal

pub returns-clause-value : goal.returns-clause-value
returns-clause-value c =
    let one = box_of c.args.a.now in
    let other = box_of c.args.b.now in
    greatest_chord-is one other _ _ _
    (between_ends reach _ _ _ _ one.x other.x _ c.square_of_reach.ensures.value c.x.ensures.lo c.x.ensures.hi c.x-2.ensures.lo c.x-2.ensures.hi)
    (between_ends reach _ _ _ _ one.y other.y _ c.square_of_reach-2.ensures.value c.y.ensures.lo c.y.ensures.hi c.y-2.ensures.lo c.y-2.ensures.hi)
    (between_ends reach _ _ _ _ one.z other.z _ c.square_of_reach-3.ensures.value c.z.ensures.lo c.z.ensures.hi c.z-2.ensures.lo c.z-2.ensures.hi)

pub returns-clause-greatest : goal.returns-clause-greatest
returns-clause-greatest c = greatest-from c.args.a.now c.args.b.now _ (returns-clause-value c)
