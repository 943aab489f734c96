use Rattle.std.proofs.Common.{◌∙◌, ◌≡◌, ◌+◌, ◌<◌, List, ap, get_or, length, map, take, ◌++◌, ◌∷◌, [], arith}
use Rattle.std.proofs.lemmas.List.{get_or-take, length-take-le}
use Rattle.gl_zone.specs.declared.zone.Zone.{Zone}
use Rattle.gl_goal.specs.Chain.{legs}
use Rattle.gl_goal.proofs.Listed.{way_more}
use Rattle.gl_judge.specs.Marking.{course_of, finish_point}
use Rattle.gl_judge.proofs.Courses.{centre-at, legs-before, legs-short}
use Rattle.gl_judge.proofs.course.legs_to.Goals as goal

pub loop-zone-preserved : goal.loop-zone-preserved
loop-zone-preserved c =
    let zones = c.as_slice.result.now in
    let k = c.loop-zone.zone-index in
    let size = length-take-le c.args.zones zones (omega (arith, c.requires, ap length c.as_slice.ensures)) in
    let below : k < c.args.zones = omega (arith, size, c.loop-zone-test.true) in
    let is = c.zone-item.is ∙ get_or-take c.args.zones zones k c.zone-item.result below ∙ ap (λ (zs : List Zone). get_or zs k c.zone-item.result) c.as_slice.ensures in
    way_more _ _ _ _ _ _ _ c.loop-zone.invariant (centre-at _ _ k c.zone-item.result (omega (arith, c.requires)) is) c.leg-length.ensures.value (omega (arith, c.leg-length.ensures.bound))

pub returns-clause-value : goal.returns-clause-value
returns-clause-value c =
    let size = length-take-le c.args.zones c.as_slice.result.now (omega (arith, c.requires, ap length c.as_slice.ensures)) in
    let all : c.loop-zone.zone-index ≡ c.args.zones = omega (arith, size, c.loop-zone-test.false, c.loop-zone.auto.zone-index-end) in
    c.loop-zone.invariant.legs_are ∙ legs-before _ _ c.loop-zone.zone-index ∙ ap (λ n. legs (take (n + 1) (course_of c.args.task.now))) all

pub returns-clause-bound : goal.returns-clause-bound
returns-clause-bound c =
    let size = length-take-le c.args.zones c.as_slice.result.now (omega (arith, c.requires, ap length c.as_slice.ensures)) in
    omega (
      arith,
      c.loop-zone.invariant.legs_are,
      legs-short c.args.task.now.start.line.centre
          (map (λ (zone : Zone). zone.centre) c.args.task.now.zones ++ finish_point c.args.task.now.finish ∷ []) c.loop-zone.zone-index
          (omega (arith, size, c.requires, c.loop-zone.auto.zone-index-end, c.args.task.now.at_most_eight_zones)),
    )
