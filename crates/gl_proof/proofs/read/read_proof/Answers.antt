use Rattle.std.proofs.Common.{◌≡◌, refl, ap, inl, inr, ℕ, List, Result, Ok, Err}
use Rattle.std.specs.Prelude.{◌⊎◌, IfErr, IfOk, IsErrOf}
use Rattle.std.proofs.lemmas.Result.{MatchResult-from_both, IfErr-weaker, IfOk-weaker}
use Rattle.gl_proof.specs.declared.error.ProofError.{ProofError}
use Rattle.gl_proof.specs.declared.error.ProofError.TheVariants.{Heading, Line as WrongLine, Cut, Memory}
use Rattle.gl_proof.specs.declared.proof.Proof.{Proof}
use Rattle.gl_proof.specs.Refusal.{IsRefused}
use Rattle.gl_proof.specs.Text.{IsTextOf, statements_of}
use Rattle.gl_proof.proofs.Unique.{refused_unique, text_refused, text_unique, version_unique}
use Rattle.gl_proof.proofs.read.read_proof.Goals as goal

pub returns-clause-only : goal.returns-clause-only
returns-clause-only c = λ version statements of.
    MatchResult-from_both c.read_lines.result _ _
    (IfOk-weaker c.read_lines.result _ _ (λ proof is. (version_unique c.args.text.now (statements_of proof) statements is of, text_unique c.args.text.now (statements_of proof) statements is of))
    c.read_lines.ensures.ok)
    (IfErr-weaker c.read_lines.result _ _ (λ error is. text_refused c.args.text.now statements error of is) c.read_lines.ensures.refused)

told : (text : List ℕ) (error other : ProofError) → (error ≡ Memory → ⊥) → (other ≡ Memory → ⊥) → IsRefused text error → IsRefused text other
    → IsErrOf {T = Proof} (Err error) other ⊎ IsErrOf {T = Proof} (Err error) Memory
told text error other some_error some_other is_error is_other =
    inl (ap Err (refused_unique text error other some_error some_other is_error is_other))

exactly : (text : List ℕ) (answer : Result Proof ProofError) (error : ProofError) → IfOk answer (λ proof. IsTextOf proof.version text (statements_of proof)) → IfErr answer (IsRefused text)
    → (error ≡ Memory → ⊥) → IsRefused text error → IsErrOf answer error ⊎ IsErrOf answer Memory
exactly text (Ok proof) error ok refused some is = absurd (some (text_refused text (statements_of proof) error ok is))
exactly text (Err Heading) error ok refused some is = told text Heading error (λ same. cc) some refused is
exactly text (Err (WrongLine number)) error ok refused some is = told text (WrongLine number) error (λ same. cc) some refused is
exactly text (Err Cut) error ok refused some is = told text Cut error (λ same. cc) some refused is
exactly text (Err Memory) error ok refused some is = inr refl

pub returns-clause-exact : goal.returns-clause-exact
returns-clause-exact c = λ error some is. exactly c.args.text.now c.read_lines.result error c.read_lines.ensures.ok c.read_lines.ensures.refused some is
