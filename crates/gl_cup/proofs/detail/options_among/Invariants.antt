use Rattle.std.proofs.Common.{◌≡◌, length}
use Rattle.gl_cup.specs.Detail.{options_among}
use Rattle.gl_cup.proofs.detail.options_among.Given as goal

-- the rest decides
abbrev pub invariant-rows : goal.invariant-rows
invariant-rows l = options_among l.rows ≡ options_among l.rest

abbrev pub decreases-rows : goal.decreases-rows
decreases-rows l = length l.rest
