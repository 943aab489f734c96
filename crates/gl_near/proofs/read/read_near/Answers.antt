use Rattle.std.proofs.Common.{◌≡◌, refl, ap, inl, inr, ℕ, List, Result, Ok, Err, map}
use Rattle.std.specs.Prelude.{◌⊎◌, IfErr, IfOk, IsErrOf}
use Rattle.std.proofs.lemmas.Result.{MatchResult-from_both, IfErr-weaker, IfOk-weaker}
use Rattle.gl_proof.specs.declared.error.ProofError.{ProofError}
use Rattle.gl_proof.specs.declared.error.ProofError.TheVariants.{Heading, Line as WrongLine, Cut, Memory}
use Rattle.gl_proof.specs.LineRefusal.{IsRefusal}
use Rattle.gl_near.specs.declared.claim.NearClaim.{NearClaim}
use Rattle.gl_near.specs.Certificate.{box_of}
use Rattle.gl_near.specs.Line.{IsTextOf, near_grammar}
use Rattle.gl_near.proofs.Reading.{refused_unique, text_refused, text_unique}
use Rattle.gl_near.proofs.read.read_near.Goals as goal

pub returns-clause-only : goal.returns-clause-only
returns-clause-only c = λ best boxes of.
    MatchResult-from_both c.read_lines.result _ _
    (IfOk-weaker c.read_lines.result _ _ (λ claim is. text_unique c.args.text.now claim.best best (map box_of claim.closed.items) boxes is of) c.read_lines.ensures.ok)
    (IfErr-weaker c.read_lines.result _ _ (λ error is. text_refused c.args.text.now best boxes error of is) c.read_lines.ensures.refused)

told : (text : List ℕ) (error other : ProofError) → (error ≡ Memory → ⊥) → (other ≡ Memory → ⊥) → IsRefusal near_grammar text error → IsRefusal near_grammar text other
    → IsErrOf {T = NearClaim} (Err error) other ⊎ IsErrOf {T = NearClaim} (Err error) Memory
told text error other some_error some_other is_error is_other =
    inl (ap Err (refused_unique text error other some_error some_other is_error is_other))

exactly : (text : List ℕ) (answer : Result NearClaim ProofError) (error : ProofError) → IfOk answer (λ claim. IsTextOf text claim.best (map box_of claim.closed.items))
    → IfErr answer (IsRefusal near_grammar text) → (error ≡ Memory → ⊥) → IsRefusal near_grammar text error → IsErrOf answer error ⊎ IsErrOf answer Memory
exactly text (Ok claim) error ok refused some is = absurd (some (text_refused text claim.best (map box_of claim.closed.items) error ok is))
exactly text (Err Heading) error ok refused some is = told text Heading error (λ same. cc) some refused is
exactly text (Err (WrongLine number)) error ok refused some is = told text (WrongLine number) error (λ same. cc) some refused is
exactly text (Err Cut) error ok refused some is = told text Cut error (λ same. cc) some refused is
exactly text (Err Memory) error ok refused some is = inr refl

pub returns-clause-exact : goal.returns-clause-exact
returns-clause-exact c = λ error some is. exactly c.args.text.now c.read_lines.result error c.read_lines.ensures.ok c.read_lines.ensures.refused some is
