-- Claims of an entrant, one after the other.
use Rattle.std.proofs.Common.{◌≡◌, ◌∙◌, sym, ap, subst, ℕ, ◌+◌, List, [], ◌∷◌, ◌++◌, take, drop, append-nil}
use Rattle.std.specs.List.{AllZip, flat_map}
use Rattle.std.proofs.lemmas.List.{take_more, take-append-drop}
use Rattle.std.proofs.lemmas.List.Concat.{flat_map-append}
use Rattle.gl_desk.specs.Desk.{Told}
use Rattle.gl_desk.specs.declared.error.DeskError.{DeskError}
use Rattle.gl_desk.specs.declared.error.DeskError.TheVariants.{Memory}
use Rattle.gl_goal.specs.declared.any.AnyGoal.{AnyGoal}
use Rattle.gl_goal.specs.AnyGoal.{any_rule}
use Rattle.gl_proof.specs.declared.claim.ClaimKind.{ClaimKind}
use Rattle.gl_proof.specs.Claim.{Statement, claim_text}
use Rattle.gl_day.specs.declared.totals.Totals.{Totals}
use Rattle.gl_day.specs.Expected.{Expected, Proves, expected_of}
use Rattle.gl_judge.specs.Claimed.{rules_of_claims}
use Rattle.gl_day.specs.Totals.{AreTotals}
use Rattle.gl_day.proofs.Walked.{claims_for, claims_for-append}
use Rattle.gl_answer.specs.Appending.{HasAppended, HasAppendedPart}
use Rattle.gl_day_claims.specs.Code.Scoring.{AreClaimed, AreClaimedPartly}
use Rattle.gl_day_claims.proofs.Runs.{AreFirst, ClaimRun, IsNext}
use Rattle.gl_answer.proofs.Appended.{HasAppended-then, HasAppendedPart-memory, HasAppendedPart-then}
use Rattle.gl_text.proofs.Lists.{AllZip-push}

-- the texts of claims and of one more
pub texts-push : (statements : List Statement) (s : Statement) → flat_map claim_text (statements ++ s ∷ []) ≡ flat_map claim_text statements ++ claim_text s
texts-push statements s =
    flat_map-append claim_text statements (s ∷ []) ∙ ap (λ (l : List ℕ). flat_map claim_text statements ++ l) (append-nil (claim_text s))

pushed : (proof : List ℕ) (statements : List Statement) (s : Statement) (x y z : Told) → HasAppended proof (flat_map claim_text statements) x y → HasAppended proof (claim_text s) y z
    → HasAppended proof (flat_map claim_text (statements ++ s ∷ [])) x z
pushed proof statements s x y z one two =
    subst (λ (text : List ℕ). HasAppended proof text x z) (sym (texts-push statements s))
    (HasAppended-then proof (flat_map claim_text statements) (claim_text s) x y z one two)

-- one claim more is proved, and its lines were appended
pub AreClaimed-more : (run : ClaimRun) (i : ℕ) (g : ClaimKind × AnyGoal) (s : Statement) (t u : Totals) (y z : Told) → IsNext run i g s → AreFirst run i t y → HasAppended run.proof (claim_text s) y z
    → ((statements : List Statement) → AreTotals statements t → AreTotals (statements ++ s ∷ []) u) → AreFirst run (i + 1) u z
AreClaimed-more run i g s t u y z next so_far appended noted =
    let more = take_more run.goals i g next.below ∙ ap (λ (e : ClaimKind × AnyGoal). take i run.goals ++ e ∷ []) (sym next.is) in
    let claims = ap (claims_for run.number) more ∙ claims_for-append run.number (take i run.goals) (g ∷ []) in
    subst (λ (l : List Expected). AreClaimed l u run.proof run.before z) (sym claims) (record {
      statements = so_far.statements ++ s ∷ [];
      each = AllZip-push Proves (claims_for run.number (take i run.goals)) so_far.statements (record { number = run.number; kind = g.0; rule = any_rule g.1 }) s so_far.each next.proves;
      totals_are = noted so_far.statements so_far.totals_are;
      appended = pushed run.proof so_far.statements s run.before y z so_far.appended appended;
    })

parts_at : (number : List ℕ) (goals : List (ClaimKind × AnyGoal)) (i : ℕ) → claims_for number goals ≡ claims_for number (take i goals) ++ claims_for number (drop i goals)
parts_at number goals i =
    ap (claims_for number) (sym (take-append-drop i goals)) ∙ claims_for-append number (take i goals) (drop i goals)

-- the next claim wasn't made
pub claimed_memory : (run : ClaimRun) (i : ℕ) (t : Totals) (y : Told) → AreFirst run i t y → AreClaimedPartly (expected_of run.number (rules_of_claims run.goals)) run.proof run.before y Memory
claimed_memory run i t y so_far = record {
  statements = so_far.statements;
  partly = record {
    proved = claims_for run.number (take i run.goals);
    open_claims = claims_for run.number (drop i run.goals);
    parts = parts_at run.number run.goals i;
    each = so_far.each;
  };
  appended = HasAppendedPart-memory run.proof (flat_map claim_text so_far.statements) run.before y so_far.appended;
}

-- the next claim was made, and not all of its lines were appended
pub claimed_partly : (run : ClaimRun) (i : ℕ) (g : ClaimKind × AnyGoal) (s : Statement) (t : Totals) (y z : Told) (stop : DeskError) → IsNext run i g s → AreFirst run i t y
    → HasAppendedPart run.proof (claim_text s) y z stop → AreClaimedPartly (expected_of run.number (rules_of_claims run.goals)) run.proof run.before z stop
claimed_partly run i g s t y z stop next so_far appended =
    let more = take_more run.goals i g next.below ∙ ap (λ (e : ClaimKind × AnyGoal). take i run.goals ++ e ∷ []) (sym next.is) in
    let claims = ap (claims_for run.number) more ∙ claims_for-append run.number (take i run.goals) (g ∷ []) in
    let each = AllZip-push Proves (claims_for run.number (take i run.goals)) so_far.statements (record { number = run.number; kind = g.0; rule = any_rule g.1 }) s so_far.each next.proves in
    record {
      statements = so_far.statements ++ s ∷ [];
      partly = record {
        proved = claims_for run.number (take (i + 1) run.goals);
        open_claims = claims_for run.number (drop (i + 1) run.goals);
        parts = parts_at run.number run.goals (i + 1);
        each = subst (λ (l : List Expected). AllZip Proves l (so_far.statements ++ s ∷ [])) (sym claims) each;
      };
      appended = subst (λ (text : List ℕ). HasAppendedPart run.proof text run.before z stop) (sym (texts-push so_far.statements s))
          (HasAppendedPart-then run.proof (flat_map claim_text so_far.statements) (claim_text s) run.before y z stop so_far.appended appended);
    }
