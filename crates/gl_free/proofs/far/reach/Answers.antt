use Rattle.std.proofs.Common.{◌∙◌, ap, arith}
use Rattle.gl_box.specs.Cell.{ends}
use Rattle.gl_goal.specs.Box.{Box}
use Rattle.gl_goal.specs.Chords.{greatest_chord}
use Rattle.gl_free.proofs.PlaceLemmas.{chord-most}
use Rattle.gl_free.proofs.ReachLemmas.{reach-met, reach-missed}
use Rattle.gl_free.proofs.far.reach.Goals as goal

pub returns-then-not-meets-clause-reach : goal.returns-then-not-meets-clause-reach
returns-then-not-meets-clause-reach c =
    let hull = c.hull-hull.result in
    reach-missed c.args.hulls.now c.args.allowed.now (ends c.args.span) (ends c.args.of.now.span) hull.alt_lo hull.alt_hi c.requires.inside
    (ap (λ (box : Box). box.alt) c.hull-hull.ensures.value) (λ met. grind (arith, c.meets.ensures.1 met))

pub returns-clause-reach : goal.returns-clause-reach
returns-clause-reach c =
    let hull = c.hull-hull.result in
    let span = c.args.span in
    let of_ = c.args.of.now in
    reach-met c.args.hulls.now c.args.allowed.now (ends span) (ends of_.span) hull.alt_lo hull.alt_hi c.max_sq.result c.requires.inside
    (ap (λ (box : Box). box.alt) c.hull-hull.ensures.value)
    (λ past. grind (arith, c.is_out.ensures.1 past))
    (c.meets.ensures.0 (grind arith))
    (chord-most c.args.hulls.now (ends span) (ends of_.span) c.max_sq.result span.ordered c.requires.inside of_.span.ordered c.requires.node.within
    (c.max_sq.ensures.value ∙ (λ i. greatest_chord (c.hull-hull.ensures.value i) (c.requires.node.hull i))))
