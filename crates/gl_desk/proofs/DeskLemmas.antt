use Rattle.std.proofs.Common.{◌≡◌, ℕ, List, ◌++◌, Option, None, Some, refl, ap, append_assoc}
use Rattle.std.specs.Prelude.{Contains}
use Rattle.gl_desk.specs.Desk.{FilesByName, HasFile, ListsNames, followed_by, grown_by}

-- two pieces behind a text are the two together behind it
pub followed_by-followed_by : (text : Option (List ℕ)) (one two : List ℕ) → followed_by (followed_by text one) two ≡ followed_by text (one ++ two)
followed_by-followed_by None one two = refl
followed_by-followed_by (Some text) one two = ap Some (append_assoc text one two)

pub grown_by-grown_by : (file : Option (Option (List ℕ))) (one two : List ℕ) → grown_by (grown_by file one) two ≡ grown_by file (one ++ two)
grown_by-grown_by None one two = refl
grown_by-grown_by (Some file) one two = ap (λ (bytes : List ℕ). Some (Some bytes)) (append_assoc _ one two)

-- a name that was listed has a file, and one that wasn't has none
pub HasFile-from_names : (told : Option FilesByName) (names : List (List ℕ)) (name : List ℕ) → ListsNames told names → Contains names name → HasFile told name
HasFile-from_names None names name lists has = tt
HasFile-from_names (Some files) names name lists has = (lists.1 name).0 has
