use Rattle.std.proofs.Common.{◌≡◌, All, List, take, subst, arith}
use Rattle.std.proofs.lemmas.List.{take_all}
use Rattle.std.proofs.lemmas.List.Elements.{All-more, All-weaker}
use Rattle.gl_sphere.specs.declared.place.Grid.{Grid}
use Rattle.gl_airspace.specs.Bounds.{IsBounded}
use Rattle.gl_airspace.proofs.polygon.Bounds.of.Goals as goal

pub loop-place-preserved : goal.loop-place-preserved
loop-place-preserved c =
    All-more (IsBounded c.with-bounds.result) c.args.places.now c.loop-place.place-index c.place-item.result c.loop-place-test.true
    (All-weaker (IsBounded c.loop-place.bounds) (IsBounded c.with-bounds.result) c.with-bounds.ensures.wider (take c.loop-place.place-index c.args.places.now) c.loop-place.invariant)
    (subst (IsBounded c.with-bounds.result) c.place-item.is c.with-bounds.ensures.place)

pub returns : goal.returns
returns c =
    let whole : take c.loop-place.place-index c.args.places.now ≡ c.args.places.now = take_all c.loop-place.place-index c.args.places.now (omega arith) in
    subst (λ (places : List Grid). All (IsBounded c.loop-place.bounds) places) whole c.loop-place.invariant
