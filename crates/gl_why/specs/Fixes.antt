-- What is told of the fixes of a recording that have some numbers.
use Rattle.std.specs.Prelude.{◌≡◌, ◌≢◌, ℕ, List, [], ◌∷◌, map, Option, None, Some, Result, Ok, Err}
use Rattle.std.specs.List.{filter_map}
use Rattle.gl_desk.specs.Desk.{FilesByName, ListsNames}
use Rattle.gl_igc.specs.Recording.{IsReadAs}
use Rattle.gl_igc.specs.declared.error.IgcError.{IgcError}
use Rattle.gl_igc.specs.declared.error.IgcError.TheVariants.{Memory}
use Rattle.gl_igc.specs.declared.fix.Fix.{Fix}
use Rattle.gl_igc.specs.declared.recording.Recording.{Recording}
use Rattle.gl_why.specs.Sights.{IsSightIn}
use Rattle.gl_why.specs.declared.sight.Sight as code_sight
use Rattle.gl_why.specs.declared.sight.Sight.TheVariants as sight
use Rattle.gl_why.specs.Facts.{refused}
use Rattle.gl_why.specs.Spots.{first_missing, spot_at}
use Rattle.gl_why.specs.Words.{number_of}
use Rattle.gl_why.specs.declared.fact.Fact as code
use Rattle.gl_why.specs.declared.fact.Fact.TheVariants as fact
use Rattle.gl_why.specs.declared.fact.Obstacle.TheVariants as obstacle

-- these facts, or that the file has no fix with a number
abbrev pub unless_missing : List ℕ → Option ℕ → List code.Fact → List code.Fact
unless_missing file None facts = facts
unless_missing file (Some number) facts = refused file (obstacle.NoFix number) ∷ []

-- each fix that has one of the numbers, in their order; or the first number that none has
abbrev pub fixes_told : List ℕ → List Fix → List ℕ → List code.Fact
fixes_told file fixes numbers =
    unless_missing file (first_missing fixes numbers)
    (map fact.Fix (filter_map (spot_at fixes) numbers))

-- what is told of a recording, as it was read
abbrev pub read_told : List ℕ → List ℕ → Result Recording IgcError → List code.Fact
read_told file numbers (Ok recording) = fixes_told file recording.fixes numbers
read_told file numbers (Err error) = refused file obstacle.NotRead ∷ []

-- The bytes of a file are read by the recording's own day, and this is told of them.
pub record IsTextTold (file numbers text : List ℕ) (facts : List code.Fact) : Type 0 where
  pub read : Result Recording IgcError
  pub known : read ≢ Err Memory
  pub read_is : IsReadAs text None read
  pub is : facts ≡ read_told file numbers read

-- what is told of a file of which this is seen
abbrev pub IsSightTold : List ℕ → List ℕ → code_sight.Sight → List code.Fact → Type 0
IsSightTold file numbers sight.Absent facts = facts ≡ refused file obstacle.NoFile ∷ []
IsSightTold file numbers sight.TooLarge facts = facts ≡ refused file obstacle.TooLarge ∷ []
IsSightTold file numbers (sight.Bytes bytes) facts = IsTextTold file numbers bytes.items facts

-- What is told of a file of a folder, by the numbers that some words write.
pub record AreFixesTold (folder : Option FilesByName) (file : List ℕ) (words : List (List ℕ))
    (facts : List code.Fact) : Type 0 where
  pub names : List (List ℕ)
  pub lists : ListsNames folder names
  pub sight : code_sight.Sight
  pub seen : IsSightIn folder names file sight
  pub is : IsSightTold file (filter_map number_of words) sight facts
