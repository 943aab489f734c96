use Rattle.std.proofs.Common.{◌∙◌}
use Rattle.gl_box.specs.Cell.{ends}
use Rattle.gl_goal.specs.Chords.{greatest_chord}
use Rattle.gl_free.proofs.PlaceLemmas.{chord-most}
use Rattle.gl_free.proofs.node.Node.chord_from.Goals as goal

pub returns-clause-most : goal.returns-clause-most
returns-clause-most c =
    let node = c.args.self.now in
    chord-most c.args.hulls.now (ends c.args.span) (ends node.span) c.max_sq.result c.args.span.ordered c.requires.inside node.span.ordered c.requires.node.within
    (c.max_sq.ensures.value ∙ (λ i. greatest_chord (c.hull.ensures.value i) (c.requires.node.hull i)))
