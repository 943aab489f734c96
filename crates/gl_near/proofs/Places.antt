-- Which lines of a proof stand at its places.
use Rattle.std.proofs.Common.{◌≡◌, ◌∙◌, sym, refl, subst, ℕ, List, ◌++◌, Option, Some, None, Result, Ok, Err}
use Rattle.std.proofs.Common.{Bor}
use Rattle.std.specs.Prelude.{IfOk}
use Rattle.std.proofs.lemmas.Bool.{false≢true}
use Rattle.gl_proof.specs.Fronts.{Reads}
use Rattle.gl_proof.specs.LineRules.{IsNext}
use Rattle.gl_near.specs.Code.Fronts.{NoBox, NoPair}
use Rattle.gl_near.specs.Code.Places.{StandsAt, may_stand}
use Rattle.gl_near.specs.Line.{BoxLine, EndLine, HeadingLine, LeastLine, Line, PairLine, ended, may_follow}
use Rattle.gl_near.specs.NearLines.{line_said, near_rules, place_after}
use Rattle.gl_near.specs.declared.near_line.NearLine.{NearLine}
use Rattle.gl_near.specs.declared.near_line.NearPlace.{NearPlace}
use Rattle.gl_near.specs.declared.near_line.NearPlace.TheVariants.{Measured, Start, Within}

-- no heading
pub start_none : (text : List ℕ) → ((rest : List ℕ) → text ≡ ended HeadingLine ++ rest → ⊥) → (line : Line) (rest : List ℕ) → StandsAt Start text line rest → ⊥
start_none text none HeadingLine rest at = none rest at.2
start_none text none (LeastLine total) rest at = false≢true at.1
start_none text none (PairLine first second) rest at = false≢true at.1
start_none text none (BoxLine why spans) rest at = false≢true at.1
start_none text none EndLine rest at = false≢true at.1

-- no pair
pub measured_none : (text : List ℕ) → NoPair text → (line : Line) (rest : List ℕ) → StandsAt Measured text line rest → ⊥
measured_none text none HeadingLine rest at = false≢true at.1
measured_none text none (LeastLine total) rest at = false≢true at.1
measured_none text none (PairLine first second) rest at = none (first, second) rest (at.0, at.2)
measured_none text none (BoxLine why spans) rest at = false≢true at.1
measured_none text none EndLine rest at = false≢true at.1

-- neither a box nor the end
pub within_none : (text : List ℕ) → NoBox text → ((rest : List ℕ) → text ≡ ended EndLine ++ rest → ⊥) → (line : Line) (rest : List ℕ) → StandsAt Within text line rest → ⊥
within_none text no_box no_end HeadingLine rest at = false≢true at.1
within_none text no_box no_end (LeastLine total) rest at = false≢true at.1
within_none text no_box no_end (PairLine first second) rest at = false≢true at.1
within_none text no_box no_end (BoxLine why spans) rest at = no_box (spans, why) rest (at.0, at.2)
within_none text no_box no_end EndLine rest at = no_end rest at.2

-- what may follow a line may stand at its place
may_same : (last line : Line) → may_follow last line ≡ may_stand (place_after (Some last)) line
may_same HeadingLine HeadingLine = refl
may_same HeadingLine (LeastLine total) = refl
may_same HeadingLine (PairLine first second) = refl
may_same HeadingLine (BoxLine why spans) = refl
may_same HeadingLine EndLine = refl
may_same (LeastLine None) line = refl
may_same (LeastLine (Some least)) HeadingLine = refl
may_same (LeastLine (Some least)) (LeastLine total) = refl
may_same (LeastLine (Some least)) (PairLine first second) = refl
may_same (LeastLine (Some least)) (BoxLine why spans) = refl
may_same (LeastLine (Some least)) EndLine = refl
may_same (PairLine first second) line = refl
may_same (BoxLine why spans) line = refl
may_same EndLine line = refl

stands_next : (last : Option Line) (text : List ℕ) (line : Line) (rest : List ℕ) → IsNext near_rules last text line rest → StandsAt (place_after last) text line rest
stands_next None text line rest next =
    subst (λ (l : Line). StandsAt Start text l rest) (sym next.0) (tt, refl, subst (λ (l : Line). text ≡ ended l ++ rest) next.0 next.1)
stands_next (Some last) text line rest next = (next.0.0, sym (may_same last line) ∙ next.0.1, next.1)

next_stands : (last : Option Line) (text : List ℕ) (line : Line) (rest : List ℕ) → StandsAt (place_after last) text line rest → IsNext near_rules last text line rest
next_stands None text HeadingLine rest at = (refl, at.2)
next_stands None text (LeastLine total) rest at = absurd (false≢true at.1)
next_stands None text (PairLine first second) rest at = absurd (false≢true at.1)
next_stands None text (BoxLine why spans) rest at = absurd (false≢true at.1)
next_stands None text EndLine rest at = absurd (false≢true at.1)
next_stands (Some last) text line rest at = ((at.0, may_same last line ∙ at.1), at.2)

-- what stands at a place comes next there
reads_next : (last : Option Line) (place : NearPlace) (text : List ℕ) (found : Option (NearLine × Bor (List ℕ))) → place ≡ place_after last → Reads line_said (StandsAt place text) found
    → Reads line_said (IsNext near_rules last text) found
reads_next last place text None is reads = λ line rest next.
    reads line rest (subst (λ (p : NearPlace). StandsAt p text line rest) (sym is) (stands_next last text line rest next))
reads_next last place text (Some taken) is reads =
    next_stands last text (line_said taken.0) taken.1.now (subst (λ (p : NearPlace). StandsAt p text (line_said taken.0) taken.1.now) is reads)

pub reads_next_ok : {E : Type 0} (place : NearPlace) (text : List ℕ) (result : Result (Option (NearLine × Bor (List ℕ))) E) → IfOk result (Reads line_said (StandsAt place text))
    → IfOk result (λ found. (last : Option Line) → place ≡ place_after last → Reads line_said (IsNext near_rules last text) found)
reads_next_ok place text (Ok found) reads = λ last is. reads_next last place text found is reads
reads_next_ok place text (Err error) reads = reads
