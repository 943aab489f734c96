use Rattle.gl_sphere.specs.Place.{written_vector}
use Rattle.gl_day.proofs.Mapped.{mapped-all, mapped-more}
use Rattle.gl_badge.proofs.declared.points_of.Goals as goal

pub loop-place-preserved : goal.loop-place-preserved
loop-place-preserved c =
    mapped-more written_vector c.args.places.now c.loop-place.place-index c.place-item.result c.vector.result c.loop-place.points.items c.push.new.self.items c.loop-place-test.true c.place-item.is
    c.vector.ensures c.loop-place.invariant c.in_ok-push.ensures.items

pub returns : goal.returns
returns c = mapped-all written_vector c.args.places.now c.loop-place.place-index c.loop-place.points.items c.loop-place-test.false c.loop-place.invariant
