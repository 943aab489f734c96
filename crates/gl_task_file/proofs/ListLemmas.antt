-- The values of a list of the code are those of its data.
use Rattle.std.proofs.Common.{◌≡◌, refl, ap, Bool, List, [], ◌∷◌, map}
use Rattle.std.specs.List.{list_any}
use Rattle.toml.specs.View.{items_of}
use Rattle.toml.specs.Data.{Data}
use Rattle.gl_task_file.specs.Keys.{values_of}

pub values_of-items_of : (ds : List Data) → values_of (items_of ds) ≡ ds
values_of-items_of [] = refl
values_of-items_of (d ∷ ds) = ap (λ (rest : List Data). d ∷ rest) (values_of-items_of ds)

pub any_map : {A B : Type 0} (p : B → Bool) (f : A → B) (xs : List A) → list_any p (map f xs) ≡ list_any (λ x. p (f x)) xs
any_map p f [] = refl
any_map p f (x ∷ xs) = rw (any_map p f xs)
