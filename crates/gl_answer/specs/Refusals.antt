-- The line of a refusal.
use Rattle.std.specs.Prelude.{ℕ, List, [], ◌∷◌, ◌++◌, codes}
use Rattle.std.specs.Fmt.{decimal}
use Rattle.gl_task.specs.declared.key.Key.{Key}
use Rattle.gl_answer.specs.declared.refusal.Cause.{Cause}
use Rattle.gl_answer.specs.declared.refusal.Cause.TheVariants.{NotListed, Listed, TooLarge, NotIgc, NoDate, WrongDay, TooManyFixes, NoFix, NotToml, NoKey, WrongValue, NumberTwice, TooManyItems, WrongAirspace, TooMuchAirspace, WrongStep, TooManySteps, NoHeading, WrongProof, ProofCut, NoNearHeading, WrongNearProof, NearProofCut, NoListHeading, NoSheetHeading, WrongListLine, WrongRecord}
use Rattle.gl_answer.specs.declared.refusal.Refusal.{Refusal}

-- where in a file something is refused: nowhere in particular, at a line, at a record of a sheet,
-- or at a key of a task by its row, its item and its part
pub data Place : Type 0 where
  Nowhere : Place
  AtLine : ℕ → Place
  AtRecord : ℕ → Place
  AtKey : ℕ → ℕ → ℕ → Place

-- how a line writes a place
abbrev pub place_text : Place → List ℕ
place_text Nowhere = codes "-"
place_text (AtLine line) = decimal line
place_text (AtRecord number) = decimal number
place_text (AtKey row item part) =
    decimal row ++ codes "." ++ decimal item ++ codes "." ++ decimal part

-- what a refusal's line says beside the name of the file: its kind, a number and a place
pub record Parts : Type 0 where
  pub kind : List ℕ
  pub number : ℕ
  pub place : Place

abbrev pub parts_at : List ℕ → ℕ → Place → Parts
parts_at kind number place = record { kind = kind; number = number; place = place }

-- the place of a key
abbrev pub at_key : Key → Place
at_key key = AtKey key.row key.item key.part

-- What each refusal says. A further refusal has its row here.
abbrev pub parts_of : Cause → Parts
parts_of NotListed = parts_at (codes "FILE") 1 Nowhere
parts_of Listed = parts_at (codes "FILE") 2 Nowhere
parts_of TooLarge = parts_at (codes "FILE") 3 Nowhere
parts_of NotIgc = parts_at (codes "IGC") 1 Nowhere
parts_of NoDate = parts_at (codes "IGC") 2 Nowhere
parts_of WrongDay = parts_at (codes "IGC") 3 Nowhere
parts_of (TooManyFixes line) = parts_at (codes "IGC") 4 (AtLine line)
parts_of NoFix = parts_at (codes "IGC") 5 Nowhere
parts_of NotToml = parts_at (codes "TASK") 1 Nowhere
parts_of (NoKey key) = parts_at (codes "TASK") 2 (at_key key)
parts_of (WrongValue key) = parts_at (codes "TASK") 3 (at_key key)
parts_of (NumberTwice key) = parts_at (codes "TASK") 4 (at_key key)
parts_of (TooManyItems key) = parts_at (codes "TASK") 5 (at_key key)
parts_of (WrongAirspace line) = parts_at (codes "AIR") 1 (AtLine line)
parts_of (TooMuchAirspace line) = parts_at (codes "AIR") 2 (AtLine line)
parts_of (WrongStep line) = parts_at (codes "PLAN") 1 (AtLine line)
parts_of TooManySteps = parts_at (codes "PLAN") 2 Nowhere
parts_of NoHeading = parts_at (codes "PROOF") 1 Nowhere
parts_of (WrongProof line) = parts_at (codes "PROOF") 2 (AtLine line)
parts_of ProofCut = parts_at (codes "PROOF") 3 Nowhere
parts_of NoNearHeading = parts_at (codes "NEARPROOF") 1 Nowhere
parts_of (WrongNearProof line) = parts_at (codes "NEARPROOF") 2 (AtLine line)
parts_of NearProofCut = parts_at (codes "NEARPROOF") 3 Nowhere
parts_of NoListHeading = parts_at (codes "SERIES") 1 Nowhere
parts_of (WrongListLine line) = parts_at (codes "SERIES") 2 (AtLine line)
parts_of NoSheetHeading = parts_at (codes "SHEET") 1 Nowhere
parts_of (WrongRecord number) = parts_at (codes "SHEET") 2 (AtRecord number)

-- the line with these parts, and the name of a file: the kind, the number, the place and the name
unfoldable pub line_with : Parts → List ℕ → List ℕ
line_with parts file =
    codes "REFUSED " ++ parts.kind ++ codes " " ++ decimal parts.number
    ++ codes " " ++ place_text parts.place ++ codes " " ++ file ++ 10 ∷ []

-- the refusal of a file
abbrev pub file_refusal : List ℕ → Cause → Refusal
file_refusal file cause = record { file = file; cause = cause }

-- the line of a refusal
abbrev pub refusal_line : Refusal → List ℕ
refusal_line refusal = line_with (parts_of refusal.cause) refusal.file
