-- What is seen of a file of a folder.
use Rattle.std.specs.Prelude.{ℕ, ◌≤◌, length, Contains, List, None, Option, Some}
use Rattle.gl_desk.specs.Desk.{FilesByName, IsLongerThan, IsSeenIn}
use Rattle.gl_desk.specs.Limits.{most_bytes}
use Rattle.gl_why.specs.declared.sight.Sight as code
use Rattle.gl_why.specs.declared.sight.Sight.TheVariants as sight

-- what is seen of a file in a folder with these names: it isn't there, it has too many bytes, or
-- its bytes
abbrev pub IsSightIn : Option FilesByName → List (List ℕ) → List ℕ → code.Sight → Type 0
IsSightIn folder names file sight.Absent =
    (Contains names file → ⊥) × IsSeenIn folder file None
IsSightIn folder names file sight.TooLarge =
    Contains names file × IsLongerThan most_bytes folder file
IsSightIn folder names file (sight.Bytes bytes) =
    Contains names file × IsSeenIn folder file (Some bytes.items)
    × (length bytes.items ≤ most_bytes)
