use Rattle.std.proofs.Common.{◌≡◌, ◌<◌, ℕ, [], get_or, map}
use Rattle.csv.specs.Records.{fields_of}
use Rattle.gl_series.proofs.sheet.has_fields.Given as goal

abbrev pub invariant-loop-place : goal.invariant-loop-place
invariant-loop-place l =
    (k : ℕ) → k < l.place → get_or (fields_of l.columns) k [] ≡ get_or (map (λ field. field.now) l.fields) k []
