-- How a check goes on from claim to claim.
use Rattle.std.proofs.Common.{◌≡◌, ◌∙◌, sym, ap, subst, refl, ℕ, suc, ◌+◌, ◌<◌, ◌≤◌, List, [], ◌∷◌, ◌++◌, length, take, drop, get_or, Option, Some, None, arith, append_assoc}
use Rattle.std.specs.Prelude.{slice_get, IsSomeAnd}
use Rattle.std.specs.List.{AllZip}
use Rattle.std.proofs.lemmas.List.{take_more, drop_more, take-append-drop, length-append, length-take, append-nil}
use Rattle.gl_goal.specs.declared.any.AnyGoal.{AnyGoal}
use Rattle.gl_goal.specs.AnyGoal.{any_rule}
use Rattle.gl_proof.specs.declared.claim.ClaimKind.{ClaimKind}
use Rattle.gl_proof.specs.Claim.{Statement}
use Rattle.gl_day.specs.declared.fault.NotProved.{NotProved}
use Rattle.gl_day.specs.Checked.{AreProved, IsFaultAt, IsNotProved}
use Rattle.gl_day.specs.Expected.{Expected, Proves, expected_of}
use Rattle.gl_judge.specs.Claimed.{rules_of_claims}
use Rattle.gl_text.proofs.Lists.{AllZip-push, AllZip-length}

-- what a list has where a front of it ends
seam : (front back : List Statement) → slice_get (front ++ back) (length front) ≡ slice_get back 0
seam [] back = refl
seam (x ∷ front) back = seam front back

-- the statement behind those that are proved
pub there : (expected : List Expected) (statements : List Statement) (at : ℕ) (proved : AreProved expected statements) → length expected ≡ at → slice_get statements at ≡ slice_get proved.rest 0
there expected statements at proved long =
    let same : length proved.proved ≡ at = sym (AllZip-length Proves expected proved.proved proved.each) ∙ long in
    subst (λ (n : ℕ). slice_get statements n ≡ slice_get proved.rest 0) same
    (ap (λ (l : List Statement). slice_get l (length proved.proved)) proved.are ∙ seam proved.proved proved.rest)

-- the claims of goals
abbrev pub claims_for : List ℕ → List (ClaimKind × AnyGoal) → List Expected
claims_for number goals = expected_of number (rules_of_claims goals)

pub claims_for-append : (number : List ℕ) (xs ys : List (ClaimKind × AnyGoal)) → claims_for number (xs ++ ys) ≡ claims_for number xs ++ claims_for number ys
claims_for-append number [] ys = refl
claims_for-append number (x ∷ xs) ys =
    let claim : Expected = record { number = number; kind = x.0; rule = any_rule x.1 } in
    ap (λ (l : List Expected). claim ∷ l) (claims_for-append number xs ys)

pub length-claims_for : (number : List ℕ) (xs : List (ClaimKind × AnyGoal)) → length (claims_for number xs) ≡ length xs
length-claims_for number [] = refl
length-claims_for number (x ∷ xs) = ap suc (length-claims_for number xs)
