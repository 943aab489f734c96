use Rattle.std.proofs.Common.{◌∙◌, refl}
use Rattle.gl_sphere.specs.Sine.{radians}
use Rattle.gl_sphere.specs.Lemmas.Series.{quarter_sine-sum}
use Rattle.gl_sphere.proofs.series.Series.sine.Goals as goal

pub returns-clause-value : goal.returns-clause-value
returns-clause-value c n summed = quarter_sine-sum summed.angle (radians summed.angle) c.args.self.sum c.min.result refl summed.sum_is c.min.ensures ∙ summed.same
