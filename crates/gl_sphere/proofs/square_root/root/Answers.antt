use Rattle.gl_sphere.proofs.Roots.{IsRoot-unique}
use Rattle.gl_sphere.proofs.square_root.root.Goals as goal

pub returns-in-None-clause-value : goal.returns-in-None-clause-value
returns-in-None-clause-value c =
    IsRoot-unique c.args.n c.isqrt.result (record { square_at_most = c.isqrt.ensures.square_le; next_square_above = c.isqrt.ensures.next_square_gt })
