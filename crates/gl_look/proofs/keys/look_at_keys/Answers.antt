use Rattle.std.proofs.Common.{◌≡◌, ◌∙◌, ◌++◌, rules, ap, List, String, Global, string_bytes}
use Rattle.std.specs.Prelude.{map}
use Rattle.std.specs.List.{flat_map}
use Rattle.std.specs.BTreeMap.{keys}
use Rattle.std.specs.Map.Iter.{deref}
use Rattle.std.proofs.lemmas.Map.Iter.{iter_end}
use Rattle.toml.specs.View.{table_view}
use Rattle.gl_look.specs.Keys.{key_told}
use Rattle.gl_look.specs.declared.told.Told.{Told}
use Rattle.gl_look.proofs.KeyLemmas.{told_of_keys}
use Rattle.gl_look.proofs.keys.look_at_keys.Goals as goal

pub returns : goal.returns
returns c =
    let all : map deref c.keys.yielded ≡ keys c.args.table.now = search (rules, iter_end) in
    let f = λ (k : String Global). key_told c.args.place (table_view c.args.table.now) (string_bytes k) in
    c.keys.invariant ∙ ap (λ (ks : List (String Global)). c.args.remarks.now ++ flat_map f ks) all
    ∙ ap (λ (more : List Told). c.args.remarks.now ++ more) (told_of_keys (key_told c.args.place (table_view c.args.table.now)) c.args.table.now.entries)
