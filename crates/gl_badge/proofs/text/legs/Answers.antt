use Rattle.std.proofs.Common.{◌∙◌, ap, refl, length, arith}
use Rattle.std.proofs.lemmas.Option.{slice_get_read}
use Rattle.gl_sphere.specs.Distance.{written_distance}
use Rattle.gl_goal.proofs.Listed.{way_more}
use Rattle.gl_badge.proofs.text.legs.Goals as goal

pub loop-next-preserved : goal.loop-next-preserved
loop-next-preserved c =
    let others = c.in-Some.others.now in
    let there = slice_get_read others (length others) c.loop-next.next-index c.next-item.result refl (omega (arith, c.loop-next-test.true)) c.next-item.is in
    way_more _ others c.loop-next.next-index c.loop-next.length c.loop-next.end c.next-item.result _ c.loop-next.invariant there (c.dist-length.ensures.value
    ∙ ap written_distance c.sq.ensures.value) (omega (arith, c.dist-length.ensures.bound))
