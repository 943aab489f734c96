use Rattle.std.proofs.Common.{◌≡◌, ◌-◌, take}
use Rattle.csv.specs.Records.{field_count, fields_of}
use Rattle.gl_cup.proofs.row.fields_of.Given as goal

-- the fields before the n-th
abbrev pub invariant-fields : goal.invariant-fields
invariant-fields l = l.fields.items ≡ take l.n (fields_of l.row)

abbrev pub decreases-fields : goal.decreases-fields
decreases-fields l = field_count l.row - l.n
