use Rattle.std.proofs.Common.{◌≡◌, ◌++◌, take}
use Rattle.std.specs.List.{flat_map}
use Rattle.gl_cup.specs.Pair.{passed_by}
use Rattle.gl_cup.proofs.pair.push_all_passed.Given as goal

-- the keys of the fields so far
abbrev pub invariant-fields : goal.invariant-fields
invariant-fields l = l.passed.items ≡ l.initial.passed.items ++ flat_map (passed_by l.keys l.line) (take l.field-index l.fields)
