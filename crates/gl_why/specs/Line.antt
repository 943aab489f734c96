-- The lines that facts are told in.
use Rattle.std.specs.Prelude.{◌≡◌, ℕ, nat_lt, ◌==◌, ◌||◌, ◌+◌, ◌++◌, codes, if◌then◌else◌, List, [], ◌∷◌, map}
use Rattle.std.specs.Fmt.{decimal}
use Rattle.std.specs.Str.{byte}
use Rattle.gl_day.specs.declared.flight.Flight.{Flight}
use Rattle.gl_points.specs.declared.performance.Performance.{Performance}
use Rattle.gl_sheet.specs.Columns.{result_text}
use Rattle.gl_sheet.specs.declared.row.Row.{Row}
use Rattle.gl_why.specs.declared.fact.Fact as code
use Rattle.gl_why.specs.declared.fact.Fact.TheVariants as fact
use Rattle.gl_why.specs.declared.fact.Rule as code_rule
use Rattle.gl_why.specs.declared.fact.Rule.TheVariants as rule

-- a byte of a name, as a line shows it: a control character is a question mark
abbrev pub shown_byte : ℕ → ℕ
shown_byte c = if nat_lt c 32 || (c == 127) then byte "?" else c

abbrev pub shown : List ℕ → List ℕ
shown name = map shown_byte name

-- a word and a number
abbrev pub numbered : List ℕ → ℕ → List ℕ
numbered word number = word ++ decimal number

-- a word and the number of an entrant
abbrev pub named : List ℕ → List ℕ → List ℕ
named word number = word ++ shown number

-- the word for the points that a rule charges
abbrev pub word_of_rule : code_rule.Rule → List ℕ
word_of_rule rule.Ceiling = codes "penalty points of the ceiling: "
word_of_rule rule.Engine = codes "penalty points of the engine: "

-- a word, the number of an entrant, and a colon
abbrev pub headed : List ℕ → List ℕ → List ℕ
headed word number = named word number ++ codes ": "

-- the unit of a distance, and of a finisher the time
abbrev pub time_label : Performance → List ℕ
time_label p = if p.finished then numbered (codes " m in ") p.seconds ++ codes " s" else codes " m"

-- a penalty of several points, and any penalty
abbrev pub charged_label : ℕ → List ℕ
charged_label points = numbered (codes ", a penalty of ") points ++ codes " points"

abbrev pub penalty_label : ℕ → List ℕ
penalty_label points =
    if points == 0
    then codes ", no penalty"
    else (if points == 1 then codes ", a penalty of 1 point" else charged_label points)

-- what counts of a flight: the metres, a finisher's seconds, the handicap and the penalty
abbrev pub flight_label : Flight → List ℕ
flight_label flight =
    (decimal flight.performance.metres ++ time_label flight.performance)
    ++ (numbered (codes ", handicap ") flight.performance.handicap ++ penalty_label flight.penalty)

-- the result and the points of a line of the sheet
abbrev pub row_label : Row → List ℕ
row_label row = result_text row.outcome ++ numbered (codes ", ") row.points

-- what a fact is about; volumes count from 1 in a line
abbrev pub label : code.Fact → List ℕ
label (fact.Refused file why) = shown file
label (fact.Fix spot) = numbered (codes "fix ") spot.number
label (fact.Entrant number outcome) = named (codes "entrant ") number
label (fact.Read extent) = numbered (codes "a recording of ") extent.count
label (fact.Crossed crossing) = numbered (codes "fix ") crossing.at.number
label (fact.Started start) = numbered (codes "fix ") start.at.number
label (fact.Visited visit) =
    numbered (codes "zone ") visit.zone ++ numbered (codes " with fix ") visit.at.number
label (fact.Missed miss) = numbered (codes "fix ") miss.at.number
label (fact.Cut cut) =
    numbered (codes "volume ") (cut.volume + 1) ++ numbered (codes " with fix ") cut.at.number
label (fact.Finished finish) = numbered (codes "fix ") finish.at.number
label fact.NoStart = codes "no start"
label (fact.Credited credit) = numbered (codes "fix ") credit.at.number
label (fact.Fined fine) =
    numbered (word_of_rule fine.rule) fine.points
    ++ numbered (codes ", first owed after fix ") fine.at.number
label (fact.Counted number flight) = headed (codes "counted of ") number ++ flight_label flight
label (fact.Day day) = codes "the day"
label (fact.Most most) = codes "the most points"
label (fact.Earned number earning) = named (codes "points of ") number
label (fact.Scored number row) = headed (codes "result of ") number ++ row_label row

-- a line names what its fact is about; what is told of it is said in words
pub record IsLineOf (told : code.Fact) (line : List ℕ) : Type 0 where
  pub head : List ℕ
  pub words : List ℕ
  pub is : line ≡ ((head ++ label told) ++ words) ++ codes "\n"

-- a text has a line for each fact, in their order, and nothing besides
abbrev pub IsTextOf : List code.Fact → List ℕ → Type 0
IsTextOf [] text = text ≡ []
IsTextOf (told ∷ more) text =
    (line : List ℕ) × (rest : List ℕ) × IsLineOf told line × IsTextOf more rest
    × (text ≡ line ++ rest)
