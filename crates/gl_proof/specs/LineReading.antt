-- What a reader of lines stands for.
use Rattle.std.specs.Prelude.{◌≡◌, ◌≢◌, ℕ, ◌≤◌, ◌+◌, ◌-◌, ◌==◌, Bool, true, false, if◌then◌else◌, min, List, [], ◌∷◌, ◌++◌, drop, length, Option, None, Some, ◌⊎◌}
use Rattle.std.specs.List.{flat_map}
use Rattle.gl_proof.specs.declared.error.ProofError.{ProofError}
use Rattle.gl_proof.specs.declared.error.ProofError.TheVariants.{Heading, Line as WrongLine, Cut}
use Rattle.gl_proof.specs.declared.line_state.LineReader.{LineReader}
use Rattle.gl_proof.specs.declared.line_state.Progress.{Progress}
use Rattle.gl_proof.specs.declared.line_state.Progress.TheVariants.{Going, Long, Wrong}
use Rattle.gl_proof.specs.LineRefusal.{Follow, HasLine, last_line}
use Rattle.gl_proof.specs.LineRules.{IsNext, IsTextRefused, LineRules, grammar_from}

-- the last of some lines
abbrev pub last_of : {L : Type 0} → List L → Option L
last_of [] = None
last_of (line ∷ lines) = Some (last_line line lines)

-- lines may begin a text and stand one behind the other
abbrev pub MayBegin : {L : Type 0} → LineRules L → List L → Type 0
MayBegin rules [] = Unit {0}
MayBegin rules (heading ∷ lines) =
    rules.IsHeading heading × Follow (grammar_from rules heading) heading lines

-- they begin a text, each ended by LF, and this is left
pub record RunsTo {L : Type 0} (rules : LineRules L) (text : List ℕ) (lines : List L)
    (rest : List ℕ) : Type 0 where
  pub begin : MayBegin rules lines
  pub is : text ≡ flat_map (λ line. rules.spelling line ++ 10 ∷ []) lines ++ rest

-- they are the whole text, and the last of them ends it
pub record IsWhole {L : Type 0} (rules : LineRules L) (text : List ℕ) (lines : List L)
    : Type 0 where
  pub runs : RunsTo rules text lines []
  pub ended : last_of lines ≡ Some rules.last

-- no line at the front of a text may stand behind the last one
abbrev pub NoneComes : {L : Type 0} → LineRules L → Option L → List ℕ → Type 0
NoneComes {L} rules last text = (line : L) (rest : List ℕ) → IsNext rules last text line rest → ⊥

-- such a line is there, and so many bytes are left behind it
pub record LeavesBehind {L : Type 0} (rules : LineRules L) (last : Option L) (text : List ℕ)
    (line : L) (left : ℕ) : Type 0 where
  pub within : left ≤ length text
  pub next : IsNext rules last text line (drop (length text - left) text)

-- lines are read, and the place behind them and the number of the next line are known
pub record AreRead {L P : Type 0} (rules : LineRules L) (IsPlace : Option L → P → Type 0)
    (text : List ℕ) (lines : List L) (rest : List ℕ) (place : P) (number : ℕ) : Type 0 where
  pub runs : RunsTo rules text lines rest
  pub is_place : IsPlace (last_of lines) place
  pub numbered : number ≡ min (length lines + 1) 4_294_967_295

-- and what follows is longer than any line, and has no LF yet
pub record IsLong {L P : Type 0} (rules : LineRules L) (IsPlace : Option L → P → Type 0)
    (text : List ℕ) (lines : List L) (place : P) (number : ℕ) : Type 0 where
  pub rest : List ℕ
  pub are : AreRead rules IsPlace text lines rest place number
  pub open_ : last_of lines ≢ Some rules.last
  pub long : 1_024 ≤ length rest
  pub broken : ¬ HasLine rest

-- what is known of a text and of lines that were handed out
abbrev pub IsReadBy : {L P : Type 0} → LineRules L → (Option L → P → Type 0) → List ℕ → List L
    → List ℕ → P → ℕ → Progress → Type 0
IsReadBy rules IsPlace text lines rest place number Going =
    AreRead rules IsPlace text lines rest place number
IsReadBy rules IsPlace text lines rest place number Long =
    IsLong rules IsPlace text lines place number
IsReadBy rules IsPlace text lines rest place number (Wrong error) =
    (more : List ℕ) → IsTextRefused rules (text ++ more) error

-- the bytes that aren't read yet
abbrev pub unread : {P : Type 0} → LineReader P → List ℕ
unread reader = drop reader.at reader.bytes.items

-- a reader that was fed a text and handed out these lines
abbrev pub IsRead : {L P : Type 0} → LineRules L → (Option L → P → Type 0) → List ℕ → List L
    → LineReader P → Type 0
IsRead rules IsPlace text lines reader =
    IsReadBy rules IsPlace text lines (unread reader) reader.place reader.number reader.progress

-- nothing is left of the text behind its end, or no line that came whole
abbrev pub IsExhaustedBy : {P : Type 0} → (P → Bool) → List ℕ → P → Progress → Type 0
IsExhaustedBy ends rest place Going =
    ((ends place ≡ true) × (rest ≡ [])) ⊎ ((ends place ≡ false) × ¬ HasLine rest)
IsExhaustedBy ends rest place Long = Unit {0}
IsExhaustedBy ends rest place (Wrong error) = Unit {0}

-- a reader has handed out all lines that came
abbrev pub IsExhausted : {P : Type 0} → (P → Bool) → LineReader P → Type 0
IsExhausted ends reader = IsExhaustedBy ends (unread reader) reader.place reader.progress

-- what is told of the line of a number, where it can't stand there: the first one is no heading
abbrev pub fault_at : ℕ → ProofError
fault_at number = if number == 1 then Heading else WrongLine number

-- what is told of a text that ends before its last line came, at the line of a number
abbrev pub cut_at : ℕ → ProofError
cut_at number = if number == 1 then Heading else Cut
