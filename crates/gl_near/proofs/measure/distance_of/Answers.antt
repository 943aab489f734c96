use Rattle.std.proofs.Common.{◌∙◌}
use Rattle.gl_near.specs.Pairing.{least_distance}
use Rattle.gl_near.proofs.PairsLemmas.{least_distance-points}
use Rattle.gl_near.proofs.measure.distance_of.Goals as goal

pub returns : goal.returns
returns c =
    c.between.ensures ∙ (λ i. least_distance (c.point.ensures i) (c.point-2.ensures i)) ∙ least_distance-points c.args.point c.args.other
