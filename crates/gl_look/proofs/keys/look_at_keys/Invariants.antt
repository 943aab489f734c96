use Rattle.std.proofs.Common.{◌≡◌, ◌++◌, String, Global, string_bytes}
use Rattle.std.specs.Prelude.{map}
use Rattle.std.specs.List.{flat_map}
use Rattle.std.specs.Map.Iter.{deref}
use Rattle.toml.specs.View.{table_view}
use Rattle.gl_look.specs.Keys.{key_told}
use Rattle.gl_look.proofs.keys.look_at_keys.Given as goal

-- of the keys that were gone over
abbrev pub invariant-keys : goal.invariant-keys
invariant-keys l = l.remarks ≡ l.initial.remarks ++ flat_map (λ (k : String Global). key_told l.place (table_view l.table) (string_bytes k)) (map deref l.yielded)
