-- A claim gets one verdict.
use Rattle.std.proofs.Common.{◌≡◌, ◌∙◌, sym, ap, refl, ℕ, List, Option, Some, None}
use Rattle.gl_box.specs.declared.closed.Why.{Why}
use Rattle.std.specs.List.{HoldsAt}
use Rattle.gl_box.specs.declared.checking.Said.{Said}
use Rattle.gl_box.specs.declared.checking.Said.TheVariants.{NoneWrong, ExtraBox, StrayBox, UnclosedBox, Unfinished}
use Rattle.gl_box.specs.Passing.{cells_of}
use Rattle.gl_box.proofs.Exact.{said_unique}
use Rattle.gl_goal.specs.Goal.{Goal, whole_cell}
use Rattle.gl_goal.specs.Certificate.{IsClaimed}
use Rattle.gl_check.specs.declared.verdict.Verdict.{Verdict}
use Rattle.gl_check.specs.declared.verdict.Verdict.TheVariants.{Yes, Fixes, Total, Extra, Place, Cell, Open}
use Rattle.gl_check.specs.Verdict.{AreSaid, IsBoxClosed, IsVerdict, verdict_said}
use Rattle.gl_check.proofs.Said.{certificate_said, same_worth}

-- the verdict is of the fixes and the total, or of the boxes
data Kind (rule : Goal) (total : Option ℕ) (fixes : List ℕ) (boxes : List (List (ℕ × ℕ) × Why)) (verdict : Verdict) : Type 0 where
  of_fixes : verdict ≡ Fixes → IsVerdict rule total fixes boxes Fixes → Kind rule total fixes boxes verdict
  of_total : verdict ≡ Total → IsVerdict rule total fixes boxes Total → Kind rule total fixes boxes verdict
  of_boxes : (said : Said) → verdict ≡ verdict_said said → IsClaimed rule total fixes → AreSaid rule total boxes said → Kind rule total fixes boxes verdict

kind_of : (rule : Goal) (total : Option ℕ) (fixes : List ℕ) (boxes : List (List (ℕ × ℕ) × Why)) (verdict : Verdict) → IsVerdict rule total fixes boxes verdict → Kind rule total fixes boxes verdict
kind_of rule total fixes boxes Yes is = of_boxes NoneWrong refl is.claimed (certificate_said rule total fixes boxes is)
kind_of rule total fixes boxes Fixes is = of_fixes refl is
kind_of rule total fixes boxes Total is = of_total refl is
kind_of rule total fixes boxes (Extra number) is = of_boxes (ExtraBox number) refl is.0 is.1
kind_of rule total fixes boxes (Place number) is = of_boxes (StrayBox number) refl is.0 is.1
kind_of rule total fixes boxes (Cell number) is = of_boxes (UnclosedBox number) refl is.0 is.1
kind_of rule total fixes boxes Open is = of_boxes Unfinished refl is.0 is.1

fixes_unclaimed : (rule : Goal) (total : Option ℕ) (fixes : List ℕ) (boxes : List (List (ℕ × ℕ) × Why)) → IsVerdict rule total fixes boxes Fixes → IsClaimed rule total fixes → ⊥
fixes_unclaimed rule None fixes boxes said claimed = said
fixes_unclaimed rule (Some greatest) fixes boxes said claimed = said claimed.0 claimed.1.legal claimed.2

total_unclaimed : (rule : Goal) (total : Option ℕ) (fixes : List ℕ) (boxes : List (List (ℕ × ℕ) × Why)) → IsVerdict rule total fixes boxes Total → IsClaimed rule total fixes → ⊥
total_unclaimed rule None fixes boxes said claimed = said
total_unclaimed rule (Some greatest) fixes boxes said claimed =
    said.3 (same_worth rule greatest fixes claimed.0 said.0 claimed.1 claimed.2 said.2)

fixes_total : (rule : Goal) (total : Option ℕ) (fixes : List ℕ) (boxes : List (List (ℕ × ℕ) × Why)) → IsVerdict rule total fixes boxes Fixes → IsVerdict rule total fixes boxes Total → ⊥
fixes_total rule None fixes boxes one other = one
fixes_total rule (Some greatest) fixes boxes one other = one other.0 other.1 other.2

kinds_unique : (rule : Goal) (total : Option ℕ) (fixes : List ℕ) (boxes : List (List (ℕ × ℕ) × Why)) (a b : Verdict) → Kind rule total fixes boxes a → Kind rule total fixes boxes b → a ≡ b
kinds_unique rule total fixes boxes a b (of_fixes one is) (of_fixes other at) = one ∙ sym other
kinds_unique rule total fixes boxes a b (of_fixes one is) (of_total other at) = absurd (fixes_total rule total fixes boxes is at)
kinds_unique rule total fixes boxes a b (of_fixes one is) (of_boxes said other claimed at) = absurd (fixes_unclaimed rule total fixes boxes is claimed)
kinds_unique rule total fixes boxes a b (of_total one is) (of_fixes other at) = absurd (fixes_total rule total fixes boxes at is)
kinds_unique rule total fixes boxes a b (of_total one is) (of_total other at) = one ∙ sym other
kinds_unique rule total fixes boxes a b (of_total one is) (of_boxes said other claimed at) = absurd (total_unclaimed rule total fixes boxes is claimed)
kinds_unique rule total fixes boxes a b (of_boxes said one claimed is) (of_fixes other at) = absurd (fixes_unclaimed rule total fixes boxes at claimed)
kinds_unique rule total fixes boxes a b (of_boxes said one claimed is) (of_total other at) = absurd (total_unclaimed rule total fixes boxes at claimed)
kinds_unique rule total fixes boxes a b (of_boxes said one claimed is) (of_boxes too other also at) =
    one ∙ ap verdict_said (said_unique (whole_cell rule.axes) (cells_of boxes) (HoldsAt (IsBoxClosed rule total) boxes) said too is at) ∙ sym other

-- one verdict is said of a claim
pub verdict_unique : (rule : Goal) (total : Option ℕ) (fixes : List ℕ) (boxes : List (List (ℕ × ℕ) × Why)) (a b : Verdict) → IsVerdict rule total fixes boxes a → IsVerdict rule total fixes boxes b
    → a ≡ b
verdict_unique rule total fixes boxes a b one other =
    kinds_unique rule total fixes boxes a b (kind_of rule total fixes boxes a one) (kind_of rule total fixes boxes b other)
