-- What lines a kind of text has, and what is told of a text that has others.
use Rattle.std.specs.Prelude.{◌≡◌, ◌↔◌, ℕ, ◌≤◌, ◌+◌, Bool, true, IsTrue, List, ◌++◌, length, Option, None, Some, ⊤}
use Rattle.gl_proof.specs.declared.error.ProofError.{ProofError}
use Rattle.gl_proof.specs.declared.error.ProofError.TheVariants.{Heading, Line as WrongLine, Cut, Memory}
use Rattle.gl_proof.specs.Grammar.{Grammar, ended_line}
use Rattle.gl_proof.specs.LineRefusal.{HasLine, IsHeadless, IsRefusal}

-- How each line is spelled, without its LF; what can stand in one; which line may stand right
-- behind which; the lines with which a text may begin, and the one that ends it.
pub record LineRules (L : Type 0) : Type 1 where
  pub spelling : L → List ℕ
  pub IsLine : L → Type 0
  pub may_follow : L → L → Bool
  pub IsHeading : L → Type 0
  pub last : L

-- the texts with this heading
abbrev pub grammar_from : {L : Type 0} → LineRules L → L → Grammar L
grammar_from rules heading = record {
  spelling = rules.spelling;
  IsLine = rules.IsLine;
  may_follow = rules.may_follow;
  heading = heading;
  last = rules.last;
}

-- a line may stand behind the last one, or at the beginning
abbrev pub MayCome : {L : Type 0} → LineRules L → Option L → L → Type 0
MayCome rules None line = rules.IsHeading line
MayCome rules (Some last) line = rules.IsLine line × (rules.may_follow last line ≡ true)

-- such a line is at the front of a text
abbrev pub IsNext : {L : Type 0} → LineRules L → Option L → List ℕ → L → List ℕ → Type 0
IsNext rules last text line rest =
    MayCome rules last line × (text ≡ ended_line (grammar_from rules line) line ++ rest)

-- what an error tells of a text, whichever heading it has
abbrev pub IsTextRefused : {L : Type 0} → LineRules L → List ℕ → ProofError → Type 0
IsTextRefused {L} rules text Heading =
    (heading : L) → rules.IsHeading heading → IsHeadless (grammar_from rules heading) text
IsTextRefused {L} rules text (WrongLine told) =
    (heading : L) × rules.IsHeading heading
    × IsRefusal (grammar_from rules heading) text (WrongLine told)
IsTextRefused {L} rules text Cut =
    (heading : L) × rules.IsHeading heading × IsRefusal (grammar_from rules heading) text Cut
IsTextRefused {L} rules text Memory = ⊤

-- Lines have no LF within them, and at most 1,023 bytes. At a place where the text has ended the
-- last line stands before, and nothing may follow.
pub record AreLineRules (P L : Type 0) (rules : LineRules L) (IsPlace : Option L → P → Type 0)
    (ends : P → Bool) : Type 0 where
  pub unbroken : (last : Option L) (line : L) → MayCome rules last line
      → ¬ HasLine (rules.spelling line)
  pub short : (last : Option L) (line : L) → MayCome rules last line
      → length (rules.spelling line) + 1 ≤ 1_024
  pub ended : (last : Option L) (place : P) → IsPlace last place
      → IsTrue (ends place) ↔ (last ≡ Some rules.last)
