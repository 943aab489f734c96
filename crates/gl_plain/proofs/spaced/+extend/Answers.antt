use Rattle.std.proofs.Common.{rules, ◌≤◌, ◌<◌, ◌+◌, length, get_or, [], arith}
use Rattle.gl_box.specs.Tuple.{places_of}
use Rattle.gl_plain.proofs.Places.{axes-tuple, tuple-set, tuple_along}
use Rattle.gl_plain.proofs.spaced.+extend.Goals as goal
use Rattle.gl_plain.proofs.spaced.+extend.Goals.{then-axis-axes-2, else-axis-axes-2}

pub choose-requires : goal.choose-requires
choose-requires g t c =
    let axes = (g.G.Goal.rule c.args.goal.now).axes in
    omega (arith, axes-tuple axes c.loop-index.tuple c.loop-index.invariant.fits, c.if-axis-axes.false, c.axes-axes.ensures, c.requires.axis_in)

pub extend-requires : goal.extend-requires
extend-requires g t c κs within =
    let axes = (g.G.Goal.rule c.args.goal.now).axes in
    let place : c.spaced-place.result < length (get_or axes c.args.axis []) = omega (arith, c.spaced-place.ensures, c.len.ensures) in
    let next : c.args.axis + 1 ≤ length axes = omega (arith, c.if-axis-axes.false, c.axes-axes.ensures, c.requires.axis_in) in
    let slot : c.if-axis-axes-2.slot < length c.loop-index.kept = elim c.if-axis-axes-2.branch [
      | then-axis-axes-2 w ↦ omega (arith, w.slot-is, c.loop-index-test.true, c.loop-index.auto.kept)
      | else-axis-axes-2 w ↦ omega (arith, w.slot-is, c.requires.slot_in, c.loop-index.auto.kept)
    ] in (
      search rules,
      (
        within,
        (
          tuple_along axes _ _ c.choose.ensures.places (tuple-set axes (places_of c.loop-index.tuple) c.args.axis c.spaced-place.result c.loop-index.invariant.fits place),
          (next, (omega (arith, c.requires.least, c.loop-index.auto.kept), (omega (arith, c.requires.most, c.loop-index.auto.kept), (slot, c.loop-index.invariant.sound)))),
        ),
      ),
    )
