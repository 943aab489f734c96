-- What is no text of a kind, and what is told of it.
use Rattle.std.specs.Prelude.{◌≡◌, ◌≢◌, ℕ, ◌+◌, min, true, List, [], ◌∷◌, ◌++◌, length, Contains, ⊤, ◌⊎◌}
use Rattle.gl_proof.specs.declared.error.ProofError.{ProofError}
use Rattle.gl_proof.specs.declared.error.ProofError.TheVariants.{Heading, Line as WrongLine, Cut, Memory}
use Rattle.gl_proof.specs.Grammar.{Grammar, ended_line, spelled_lines}

-- lines stand one behind the other, the first of them behind a last one
abbrev pub Follow : {L : Type 0} → Grammar L → L → List L → Type 0
Follow grammar last [] = Unit {0}
Follow grammar last (line ∷ lines) =
    grammar.IsLine line × (grammar.may_follow last line ≡ true) × Follow grammar line lines

-- the last of a last one and lines behind it
abbrev pub last_line : {L : Type 0} → L → List L → L
last_line last [] = last
last_line last (line ∷ lines) = last_line line lines

-- a text begins with the heading and lines that may stand behind it, each ended by LF; then comes
-- the rest
pub record RunsThrough {L : Type 0} (grammar : Grammar L) (text : List ℕ) (lines : List L)
    (rest : List ℕ) : Type 0 where
  pub is : text ≡ spelled_lines grammar (grammar.heading ∷ lines) ++ rest
  pub follow : Follow grammar grammar.heading lines

-- a line ended by LF, the byte 10, begins a text
abbrev pub HasLine : List ℕ → Type 0
HasLine text = Contains text 10

-- no line that may stand behind the last one begins the rest
abbrev pub NoneFollows : {L : Type 0} → Grammar L → L → List ℕ → Type 0
NoneFollows {L} grammar last rest =
    (line : L) (more : List ℕ) → grammar.IsLine line → grammar.may_follow last line ≡ true
    → rest ≡ ended_line grammar line ++ more → ⊥

-- the text doesn't begin with the heading and its LF
abbrev pub IsHeadless : {L : Type 0} → Grammar L → List ℕ → Type 0
IsHeadless grammar text =
    (rest : List ℕ) → text ≡ ended_line grammar grammar.heading ++ rest → ⊥

-- The line of a number is the first that is wrong: those before it stand where they may, and it is
-- ended by LF and may not stand there, or it begins behind the end. Lines count from 1.
pub record IsFirstWrong {L : Type 0} (grammar : Grammar L) (text : List ℕ) (number : ℕ)
    : Type 0 where
  pub lines : List L
  pub rest : List ℕ
  pub runs : RunsThrough grammar text lines rest
  pub counted : number ≡ length lines + 2
  pub wrong : (HasLine rest × NoneFollows grammar (last_line grammar.heading lines) rest)
      ⊎ ((last_line grammar.heading lines ≡ grammar.last) × (rest ≢ []))

-- no line that is ended by LF is wrong, and the end hasn't come
pub record IsCut {L : Type 0} (grammar : Grammar L) (text : List ℕ) : Type 0 where
  pub lines : List L
  pub rest : List ℕ
  pub runs : RunsThrough grammar text lines rest
  pub unended : last_line grammar.heading lines ≢ grammar.last
  pub broken : HasLine rest → ⊥

-- what an error tells of a text; want of memory tells nothing. There is no number above the last of
-- 32 bits.
abbrev pub IsRefusal : {L : Type 0} → Grammar L → List ℕ → ProofError → Type 0
IsRefusal grammar text Heading = IsHeadless grammar text
IsRefusal grammar text (WrongLine told) =
    (number : ℕ) × IsFirstWrong grammar text number × (told ≡ min number 4_294_967_295)
IsRefusal grammar text Cut = IsCut grammar text
IsRefusal grammar text Memory = ⊤
