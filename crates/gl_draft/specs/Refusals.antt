-- What is said where no task file is made.
use Rattle.std.specs.Prelude.{ℕ, ◌++◌, codes, List, []}
use Rattle.std.specs.Fmt.{decimal}
use Rattle.gl_cup.specs.declared.error.CupError.{CupError}
use Rattle.gl_cup.specs.declared.error.CupError.TheVariants as cup
use Rattle.gl_draft.specs.Heading.{plain_text}
use Rattle.gl_draft.specs.declared.refusal.Cause as code
use Rattle.gl_draft.specs.declared.refusal.Cause.TheVariants as cause

-- a line and a point of it
abbrev pub pair_text : ℕ → ℕ → List ℕ
pair_text line point = decimal line ++ codes "." ++ decimal point

-- the number and the place of a text that gives no task
abbrev pub cup_text : CupError → List ℕ
cup_text cup.Wide = codes "CUP 14 -"
cup_text (cup.Row line) = codes "CUP 1 " ++ decimal line
cup_text cup.Empty = codes "CUP 2 -"
cup_text (cup.Header line) = codes "CUP 3 " ++ decimal line
cup_text (cup.Waypoint line) = codes "CUP 4 " ++ decimal line
cup_text cup.NoTask = codes "CUP 5 -"
cup_text cup.Several = codes "CUP 6 -"
cup_text cup.NoSuchTask = codes "CUP 7 -"
cup_text (cup.TooFewPoints line) = codes "CUP 8 " ++ decimal line
cup_text (cup.Unknown line point) = codes "CUP 9 " ++ pair_text line point
cup_text (cup.Key line key) =
    codes "CUP 15 " ++ decimal line ++ codes "." ++ plain_text key
cup_text (cup.Detail line) = codes "CUP 10 " ++ decimal line
cup_text (cup.NoZone line point) = codes "CUP 11 " ++ pair_text line point
cup_text cup.Memory = []

-- what is refused, its number and its place
abbrev pub cause_text : code.Cause → List ℕ
cause_text cause.NotListed = codes "FILE 1 -"
cause_text cause.NoRecording = codes "FILE 1 -"
cause_text cause.TooLarge = codes "FILE 3 -"
cause_text (cause.Cup error) = cup_text error
cause_text (cause.Shape line point) = codes "CUP 12 " ++ pair_text line point
cause_text cause.NoToml = codes "TASK 1 -"
cause_text (cause.Task number key) =
    codes "TASK " ++ decimal number ++ codes " " ++ pair_text key.row key.item ++ codes "."
    ++ decimal key.part
cause_text cause.Differs = codes "CUP 13 -"
cause_text (cause.Stopped stop) = []

-- the file that is named: any recording, or the file of the task
abbrev pub file_text : List ℕ → code.Cause → List ℕ
file_text file cause.NoRecording = codes "*.IGC"
file_text file other = file

-- the line that a refused run says
unfoldable pub refusal_text : List ℕ → code.Cause → List ℕ
refusal_text file why =
    codes "REFUSED " ++ cause_text why ++ codes " " ++ file_text file why ++ codes "\n"
