use Rattle.std.proofs.Common.{ap, ◌∙◌, length, map, slice_get, arith}
use Rattle.gl_goal.proofs.FreeLosses.{filter_map-found}
use Rattle.gl_goal.proofs.Listed.{rising-most}
use Rattle.gl_goal.proofs.axis.Axis.new.Goals as goal

pub new-requires-clause-most : goal.new-requires-clause-most
new-requires-clause-most c =
    omega (arith, ap length c.as_slice.ensures.value, rising-most c.args.fixes.now c.args.numbers.items c.requires.rising c.requires.named, c.requires.most)

pub returns-clause-hulled : goal.returns-clause-hulled
returns-clause-hulled c =
    c.in_ok-new.ensures.ok ∙ filter_map-found (slice_get c.args.fixes.now) c.args.numbers.items c.in_ok-hulls.hulls (c.in_ok-hulls.ensures
    ∙ ap (λ numbers. map (slice_get c.args.fixes.now) numbers) c.as_slice.ensures.value)
