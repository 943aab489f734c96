-- Which lines of a proof stand at its places.
use Rattle.std.proofs.Common.{◌≡◌, ◌∙◌, sym, ap, refl, subst, ℕ, ◌+◌, ◌-◌, List, ◌++◌, length, drop, Option, Some, None, Result, Ok, Err, arith}
use Rattle.std.proofs.Math.Seq.{drop-append_seam}
use Rattle.std.proofs.lemmas.List.{length-append}
use Rattle.std.proofs.Common.{Bor}
use Rattle.std.specs.Prelude.{IfOk}
use Rattle.std.proofs.lemmas.Bool.{false≢true}
use Rattle.gl_box.specs.declared.closed.Why.{Why}
use Rattle.gl_proof.specs.Code.Fronts.{IsBoxAt}
use Rattle.gl_proof.specs.Code.Passage.{NoBox, NoClaim}
use Rattle.gl_proof.specs.Code.Places.{StandsAt, may_stand}
use Rattle.gl_proof.specs.Fronts.{Reads}
use Rattle.gl_proof.specs.Line.{BoxLine, ClaimLine, EndLine, FixLine, HeadingLine, Line, ended, may_follow}
use Rattle.gl_proof.specs.LineReading.{LeavesBehind}
use Rattle.gl_proof.specs.LineRules.{IsNext}
use Rattle.gl_proof.specs.ProofLines.{line_said, place_after, proof_rules}
use Rattle.gl_proof.specs.declared.proof_place.ProofPlace.{ProofPlace}
use Rattle.gl_proof.specs.declared.proof_place.ProofPlace.TheVariants.{Headed, Start, Within}
use Rattle.gl_proof.specs.declared.said_line.ProofLine.{ProofLine}

-- neither the end nor a claim
pub headed_none : (text : List ℕ) → ((rest : List ℕ) → text ≡ ended EndLine ++ rest → ⊥) → NoClaim text → (line : Line) (rest : List ℕ) → StandsAt Headed text line rest → ⊥
headed_none text no_end no_claim (HeadingLine version) rest at = false≢true at.1
headed_none text no_end no_claim (ClaimLine number kind total) rest at = no_claim (number, kind, total) rest (at.0, at.2)
headed_none text no_end no_claim (FixLine fixes) rest at = false≢true at.1
headed_none text no_end no_claim (BoxLine why spans) rest at = false≢true at.1
headed_none text no_end no_claim EndLine rest at = no_end rest at.2

within_none : (text : List ℕ) → NoBox text → ((line : Line) (rest : List ℕ) → StandsAt Headed text line rest → ⊥) → (line : Line) (rest : List ℕ) → StandsAt Within text line rest → ⊥
within_none text no_box none (HeadingLine version) rest at = false≢true at.1
within_none text no_box none (ClaimLine number kind total) rest at = none (ClaimLine number kind total) rest (at.0, refl, at.2)
within_none text no_box none (FixLine fixes) rest at = false≢true at.1
within_none text no_box none (BoxLine why spans) rest at = no_box (spans, why) rest (at.0, at.2)
within_none text no_box none EndLine rest at = none EndLine rest (at.0, refl, at.2)

within_some : (text : List ℕ) (line : Line) (rest : List ℕ) → StandsAt Headed text line rest → StandsAt Within text line rest
within_some text (HeadingLine version) rest at = absurd (false≢true at.1)
within_some text (ClaimLine number kind total) rest at = (at.0, refl, at.2)
within_some text (FixLine fixes) rest at = absurd (false≢true at.1)
within_some text (BoxLine why spans) rest at = absurd (false≢true at.1)
within_some text EndLine rest at = (at.0, refl, at.2)

-- where no box stands, a claim or the end does, or nothing
pub within_on : {E : Type 0} (text : List ℕ) (result : Result (Option (ProofLine × Bor (List ℕ))) E) → NoBox text → IfOk result (Reads line_said (StandsAt Headed text))
    → IfOk result (Reads line_said (StandsAt Within text))
within_on text (Ok None) no_box reads = within_none text no_box reads
within_on text (Ok (Some taken)) no_box reads = within_some text (line_said taken.0) taken.1.now reads
within_on text (Err error) no_box reads = reads

-- what may follow a line may stand at its place
may_same : (last line : Line) → may_follow last line ≡ may_stand (place_after (Some last)) line
may_same (HeadingLine version) (HeadingLine other) = refl
may_same (HeadingLine version) (ClaimLine number kind total) = refl
may_same (HeadingLine version) (FixLine fixes) = refl
may_same (HeadingLine version) (BoxLine why spans) = refl
may_same (HeadingLine version) EndLine = refl
may_same (ClaimLine number kind None) line = refl
may_same (ClaimLine number kind (Some total)) (HeadingLine other) = refl
may_same (ClaimLine number kind (Some total)) (ClaimLine n k t) = refl
may_same (ClaimLine number kind (Some total)) (FixLine fixes) = refl
may_same (ClaimLine number kind (Some total)) (BoxLine why spans) = refl
may_same (ClaimLine number kind (Some total)) EndLine = refl
may_same (FixLine fixes) line = refl
may_same (BoxLine why spans) line = refl
may_same EndLine line = refl

stands_next : (last : Option Line) (text : List ℕ) (line : Line) (rest : List ℕ) → IsNext proof_rules last text line rest → StandsAt (place_after last) text line rest
stands_next None text line rest next =
    subst (λ (l : Line). StandsAt Start text l rest) (sym next.0.1) (tt, refl, subst (λ (l : Line). text ≡ ended l ++ rest) next.0.1 next.1)
stands_next (Some last) text line rest next = (next.0.0, sym (may_same last line) ∙ next.0.1, next.1)

next_stands : (last : Option Line) (text : List ℕ) (line : Line) (rest : List ℕ) → StandsAt (place_after last) text line rest → IsNext proof_rules last text line rest
next_stands None text (HeadingLine version) rest at = ((version, refl), at.2)
next_stands None text (ClaimLine number kind total) rest at = absurd (false≢true at.1)
next_stands None text (FixLine fixes) rest at = absurd (false≢true at.1)
next_stands None text (BoxLine why spans) rest at = absurd (false≢true at.1)
next_stands None text EndLine rest at = absurd (false≢true at.1)
next_stands (Some last) text line rest at = ((at.0, may_same last line ∙ at.1), at.2)

-- what stands at a place comes next there
pub reads_next : (last : Option Line) (place : ProofPlace) (text : List ℕ) (found : Option (ProofLine × Bor (List ℕ))) → place ≡ place_after last → Reads line_said (StandsAt place text) found
    → Reads line_said (IsNext proof_rules last text) found
reads_next last place text None is reads = λ line rest next.
    reads line rest (subst (λ (p : ProofPlace). StandsAt p text line rest) (sym is) (stands_next last text line rest next))
reads_next last place text (Some taken) is reads =
    next_stands last text (line_said taken.0) taken.1.now (subst (λ (p : ProofPlace). StandsAt p text (line_said taken.0) taken.1.now) is reads)

pub reads_next_ok : {E : Type 0} (place : ProofPlace) (text : List ℕ) (result : Result (Option (ProofLine × Bor (List ℕ))) E) → IfOk result (Reads line_said (StandsAt place text))
    → IfOk result (λ found. (last : Option Line) → place ≡ place_after last → Reads line_said (IsNext proof_rules last text) found)
reads_next_ok place text (Ok found) reads = λ last is. reads_next last place text found is reads
reads_next_ok place text (Err error) reads = reads

-- the line of a box within a claim, of which so many bytes are left behind
pub box_behind : (last : Option Line) (text rest : List ℕ) (spans : List (ℕ × ℕ)) (why : Why) (left : ℕ) → left ≡ length rest → place_after last ≡ Within → IsBoxAt text (spans, why) rest
    → LeavesBehind proof_rules last text (BoxLine why spans) left
box_behind last text rest spans why left long within is =
    let whole = ended (BoxLine why spans) in
    let counted : length text ≡ length whole + length rest = ap length is.1 ∙ length-append whole rest in
    let place : length text - left ≡ length whole = omega (arith, counted, long) in
    let behind : rest ≡ drop (length text - left) text =
    sym (ap (λ (l : List ℕ). drop (length text - left) l) is.1 ∙ ap (λ (n : ℕ). drop n (whole ++ rest)) place ∙ drop-append_seam whole rest) in
    record {
      within = omega (arith, counted, long);
      next = subst (IsNext proof_rules last text (BoxLine why spans)) behind
          (next_stands last text (BoxLine why spans) rest (subst (λ (p : ProofPlace). StandsAt p text (BoxLine why spans) rest) (sym within) (is.0, refl, is.1)));
    }
