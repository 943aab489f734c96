use Rattle.std.proofs.Common.{sym, arith}
use Rattle.gl_sphere.specs.Lemmas.Signs.{half_turn_sine-first, half_turn_sine-second}
use Rattle.gl_sphere.proofs.series_steps.quarter_angle.Goals as goal

pub returns-then-n-le-QUARTER_TURN-clause-value : goal.returns-then-n-le-QUARTER_TURN-clause-value
returns-then-n-le-QUARTER_TURN-clause-value c = sym (half_turn_sine-first c.args.n (omega arith))

pub returns-else-n-le-QUARTER_TURN-clause-value : goal.returns-else-n-le-QUARTER_TURN-clause-value
returns-else-n-le-QUARTER_TURN-clause-value c = sym (half_turn_sine-second c.args.n (omega arith))
