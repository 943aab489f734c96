use Rattle.std.proofs.Common.{◌≡◌, [], drop, take}
use Rattle.gl_cup.specs.Detail.{first_fault}
use Rattle.gl_cup.proofs.detail.test_details.Given as goal

-- the rest decide
abbrev pub invariant-rows : goal.invariant-rows
invariant-rows l = first_fault l.points [] l.rows ≡ first_fault l.points (take l.n l.rows) (drop l.n l.rows)
