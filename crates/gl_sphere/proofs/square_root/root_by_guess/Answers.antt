use Rattle.std.proofs.Common.{◌+◌, ◌-◌, arith}
use Rattle.gl_sphere.proofs.Roots.{IsRoot-unique, IsRoot-below}
use Rattle.gl_sphere.proofs.square_root.root_by_guess.Goals as goal

pub returns-then-n-square-clause-value : goal.returns-then-n-square-clause-value
returns-then-n-square-clause-value c =
    IsRoot-unique c.args.n c.estimate-guess.result (record { square_at_most = omega arith; next_square_above = omega arith })

pub returns-then-n-square-2-clause-value : goal.returns-then-n-square-2-clause-value
returns-then-n-square-2-clause-value c =
    IsRoot-unique c.args.n (c.estimate-guess.result + 1) (record { square_at_most = omega arith; next_square_above = omega arith })

pub returns-then-square-n-3-clause-value : goal.returns-then-square-n-3-clause-value
returns-then-square-n-3-clause-value c =
    IsRoot-unique c.args.n (c.estimate-guess.result - 1) (IsRoot-below c.args.n c.estimate-guess.result (omega arith) (omega arith))
