-- What is seen of a file, by whether the folder lists it.
use Rattle.std.proofs.Common.{◌≡◌, ◌∙◌, refl, sym, rules, ℕ, Bool, true, List, [], Option, None, Some}
use Rattle.std.specs.Prelude.{Contains, IsSome, nat_eq}
use Rattle.std.specs.List.{list_any}
use Rattle.std.specs.Cmp.Lexicographic.{pointwise}
use Rattle.std.proofs.lemmas.Map.Views.{Contains-from_any}
use Rattle.gl_desk.specs.Desk.{FilesByName, HasFile, IsSeenIn, ListsNames}

-- a file that isn't among the names is none of the folder's
none_seen : (seen : Option (List ℕ)) → (IsSome seen → ⊥) → seen ≡ None
none_seen None none = refl
none_seen (Some bytes) none = absurd (none refl)

pub not_listed : (folder : Option FilesByName) (names : List (List ℕ)) (file : List ℕ) → ListsNames folder names → (Contains names file → ⊥) → IsSeenIn folder file None
not_listed None names file lists none = tt
not_listed (Some files) names file lists none = none_seen (files file) (λ there. none ((lists.1 file).1 there))

-- what is seen of a file, where the folder may be told or not
pub seen_some : (folder : Option FilesByName) (file : List ℕ) → (seen : Option (List ℕ)) × IsSeenIn folder file seen
seen_some None file = (None, tt)
seen_some (Some files) file = (files file, refl)

-- a file that the folder has
some_seen : (seen : Option (List ℕ)) → IsSome seen → (bytes : List ℕ) × (seen ≡ Some bytes)
some_seen None there = cc
some_seen (Some bytes) there = (bytes, refl)

pub is_listed : (folder : Option FilesByName) (file : List ℕ) → HasFile folder file → (bytes : List ℕ) × IsSeenIn folder file (Some bytes)
is_listed None file there = ([], tt)
is_listed (Some files) file there = some_seen (files file) there

-- names among which the test of a slice finds a file have it
same_name : (a b : List ℕ) → pointwise nat_eq b a ≡ true → a ≡ b
same_name a b same = search rules

pub is_named : (names : List (List ℕ)) (file : List ℕ) (found : Bool) → found ≡ list_any (λ name. pointwise nat_eq name file) names → found ≡ true → Contains names file
is_named names file found value has =
    Contains-from_any {eq = λ (a b : List ℕ). pointwise nat_eq b a} same_name file names (sym value ∙ has)
