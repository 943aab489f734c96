-- What is seen of a file, by whether the folder lists it.
use Rattle.std.proofs.Common.{◌≡◌, refl, ℕ, List, Option, None, Some}
use Rattle.std.specs.Prelude.{Contains, IsSome}
use Rattle.gl_desk.specs.Desk.{FilesByName, HasFile, IsSeenIn, ListsNames}

none_seen : (seen : Option (List ℕ)) → (IsSome seen → ⊥) → seen ≡ None
none_seen None none = refl
none_seen (Some bytes) none = absurd (none refl)

-- a file that isn't among the names is none of the folder's
pub not_listed : (folder : Option FilesByName) (names : List (List ℕ)) (file : List ℕ) → ListsNames folder names → (Contains names file → ⊥) → IsSeenIn folder file None
not_listed None names file lists none = tt
not_listed (Some files) names file lists none = none_seen (files file) (λ there. none ((lists.1 file).1 there))

-- one of the names is a file of the folder
pub listed : (folder : Option FilesByName) (names : List (List ℕ)) (file : List ℕ) → ListsNames folder names → Contains names file → HasFile folder file
listed None names file lists there = tt
listed (Some files) names file lists there = (lists.1 file).0 there
