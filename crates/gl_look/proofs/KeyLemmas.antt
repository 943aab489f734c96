-- The keys of a table of the code are those of its members.
use Rattle.std.proofs.Common.{◌≡◌, refl, ap, List, [], ◌∷◌, ◌++◌, String, Global, string_bytes, ℕ}
use Rattle.std.specs.List.{flat_map}
use Rattle.std.specs.Map.{keys_of}
use Rattle.toml.specs.declared.value.Value.{Value}
use Rattle.toml.specs.View.{members_view}
use Rattle.gl_look.specs.Keys.{key_names}

pub told_of_keys : {A : Type 0} (f : List ℕ → List A) (es : List (String Global × Value)) → flat_map (λ (k : String Global). f (string_bytes k)) (keys_of es) ≡ flat_map f (key_names (members_view es))
told_of_keys f [] = refl
told_of_keys f (e ∷ es) = ap (λ (more : List _). f (string_bytes e.0) ++ more) (told_of_keys f es)
