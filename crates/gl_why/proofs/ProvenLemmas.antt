-- Claims of a flight, one after the other.
use Rattle.std.proofs.Common.{◌≡◌, ◌∙◌, sym, ap, subst, ℕ, ◌+◌, ◌<◌, List, [], ◌∷◌, ◌++◌, length, take, get_or, append-nil}
use Rattle.std.specs.List.{flat_map}
use Rattle.std.proofs.lemmas.List.{take_more}
use Rattle.std.proofs.lemmas.List.Concat.{flat_map-append}
use Rattle.gl_day.proofs.Walked.{claims_for, claims_for-append}
use Rattle.gl_day.specs.Expected.{Expected, Proves}
use Rattle.gl_day.specs.Totals.{AreTotals}
use Rattle.gl_day.specs.declared.totals.Totals.{Totals}
use Rattle.gl_goal.specs.AnyGoal.{any_rule}
use Rattle.gl_goal.specs.declared.any.AnyGoal.{AnyGoal}
use Rattle.gl_proof.specs.Claim.{Statement}
use Rattle.gl_proof.specs.declared.claim.ClaimKind.{ClaimKind}
use Rattle.gl_text.proofs.Lists.{AllZip-push}
use Rattle.gl_why.specs.Code.Scoring.{AreProven}
use Rattle.gl_why.specs.Credits.{credited_by, credited_in}

credited-push : (statements : List Statement) (s : Statement) → credited_by (statements ++ s ∷ []) ≡ credited_by statements ++ credited_in s
credited-push statements s =
    flat_map-append credited_in statements (s ∷ []) ∙ ap (λ (l : List ℕ). flat_map credited_in statements ++ l) (append-nil (credited_in s))

-- one claim more is proved
pub proven-more : (number : List ℕ) (goals : List (ClaimKind × AnyGoal)) (i : ℕ) (g : ClaimKind × AnyGoal) (s : Statement) (t u : Totals) (c d : List ℕ) → i < length goals → g ≡ get_or goals i g
    → Proves (record { number = number; kind = g.0; rule = any_rule g.1 }) s → AreProven (claims_for number (take i goals)) t c
    → ((statements : List Statement) → AreTotals statements t → AreTotals (statements ++ s ∷ []) u) → d ≡ c ++ credited_in s → AreProven (claims_for number (take (i + 1) goals)) u d
proven-more number goals i g s t u c d below is proves so_far noted pushed =
    let more = take_more goals i g below ∙ ap (λ (e : ClaimKind × AnyGoal). take i goals ++ e ∷ []) (sym is) in
    let claims = ap (claims_for number) more ∙ claims_for-append number (take i goals) (g ∷ []) in
    subst (λ (l : List Expected). AreProven l u d) (sym claims) (record {
      statements = so_far.statements ++ s ∷ [];
      each = AllZip-push Proves (claims_for number (take i goals)) so_far.statements (record { number = number; kind = g.0; rule = any_rule g.1 }) s so_far.each proves;
      totals_are = noted so_far.statements so_far.totals_are;
      credited_are = pushed ∙ ap (λ (l : List ℕ). l ++ credited_in s) so_far.credited_are ∙ sym (credited-push so_far.statements s);
    })
