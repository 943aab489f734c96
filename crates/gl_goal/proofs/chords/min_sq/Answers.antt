use Rattle.gl_goal.specs.Chords.{gap}
use Rattle.gl_goal.specs.Hull.{box_of}
use Rattle.gl_goal.proofs.Attained.{between_ends, least-from, least_chord-is}
use Rattle.gl_goal.proofs.chords.min_sq.Goals as goal

pub returns-clause-value : goal.returns-clause-value
returns-clause-value c =
    let one = box_of c.args.a.now in
    let other = box_of c.args.b.now in
    least_chord-is one other _ _ _
    (between_ends gap _ _ _ _ one.x other.x _ c.square_of_gap.ensures.value c.x.ensures.lo c.x.ensures.hi c.x-2.ensures.lo c.x-2.ensures.hi)
    (between_ends gap _ _ _ _ one.y other.y _ c.square_of_gap-2.ensures.value c.y.ensures.lo c.y.ensures.hi c.y-2.ensures.lo c.y-2.ensures.hi)
    (between_ends gap _ _ _ _ one.z other.z _ c.square_of_gap-3.ensures.value c.z.ensures.lo c.z.ensures.hi c.z-2.ensures.lo c.z-2.ensures.hi)

pub returns-clause-least : goal.returns-clause-least
returns-clause-least c = least-from c.args.a.now c.args.b.now _ (returns-clause-value c)
