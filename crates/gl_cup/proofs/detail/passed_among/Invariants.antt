use Rattle.std.proofs.Common.{◌≡◌, take}
use Rattle.std.specs.List.{flat_map}
use Rattle.gl_cup.specs.Detail.{passed_in}
use Rattle.gl_cup.proofs.detail.passed_among.Given as goal

-- the keys of the rows so far
abbrev pub invariant-rows : goal.invariant-rows
invariant-rows l = l.passed.items ≡ flat_map passed_in (take l.row-index l.rows)
