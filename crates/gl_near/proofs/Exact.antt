-- A claim gets one verdict.
use Rattle.std.proofs.Common.{◌≡◌, ◌∙◌, sym, ap, refl, ℕ, List, Option, Some, None}
use Rattle.std.specs.List.{HoldsAt}
use Rattle.gl_box.specs.declared.checking.Said.{Said}
use Rattle.gl_box.specs.declared.checking.Said.TheVariants.{NoneWrong, ExtraBox, StrayBox, UnclosedBox, Unfinished}
use Rattle.gl_box.specs.Passing.{cells_of}
use Rattle.gl_box.proofs.Exact.{said_unique}
use Rattle.gl_near.specs.declared.found.NearBest.{NearBest}
use Rattle.gl_near.specs.declared.found.NearWhy.{NearWhy}
use Rattle.gl_near.specs.Pairing.{Pairing, whole_cell}
use Rattle.gl_near.specs.Certificate.{IsSound}
use Rattle.gl_near.specs.declared.answer.NearVerdict.{NearVerdict}
use Rattle.gl_near.specs.declared.answer.NearVerdict.TheVariants.{Yes, Pair, Total, Extra, Place, Cell, Open}
use Rattle.gl_near.proofs.PairsLemmas.{reached_once}
use Rattle.gl_near.specs.Verdict.{AreSaid, IsBoxClosed, IsVerdict, verdict_said}
use Rattle.gl_near.proofs.Said.{certificate_said}

-- the verdict is of the pair and the total, or of the boxes
data Kind (pairing : Pairing) (best : Option NearBest) (boxes : List (List (ℕ × ℕ) × NearWhy)) (verdict : NearVerdict) : Type 0 where
  of_pair : verdict ≡ Pair → IsVerdict pairing best boxes Pair → Kind pairing best boxes verdict
  of_total : verdict ≡ Total → IsVerdict pairing best boxes Total → Kind pairing best boxes verdict
  of_boxes : (said : Said) → verdict ≡ verdict_said said → IsSound pairing best → AreSaid pairing best boxes said → Kind pairing best boxes verdict

kind_of : (pairing : Pairing) (best : Option NearBest) (boxes : List (List (ℕ × ℕ) × NearWhy)) (verdict : NearVerdict) → IsVerdict pairing best boxes verdict → Kind pairing best boxes verdict
kind_of pairing best boxes Yes is = of_boxes NoneWrong refl is.sound (certificate_said pairing best boxes is)
kind_of pairing best boxes Pair is = of_pair refl is
kind_of pairing best boxes Total is = of_total refl is
kind_of pairing best boxes (Extra number) is = of_boxes (ExtraBox number) refl is.0 is.1
kind_of pairing best boxes (Place number) is = of_boxes (StrayBox number) refl is.0 is.1
kind_of pairing best boxes (Cell number) is = of_boxes (UnclosedBox number) refl is.0 is.1
kind_of pairing best boxes Open is = of_boxes Unfinished refl is.0 is.1

pair_unclaimed : (pairing : Pairing) (best : Option NearBest) (boxes : List (List (ℕ × ℕ) × NearWhy)) → IsVerdict pairing best boxes Pair → IsSound pairing best → ⊥
pair_unclaimed pairing None boxes said claimed = said
pair_unclaimed pairing (Some best) boxes said claimed = said (best.total, claimed)

total_unclaimed : (pairing : Pairing) (best : Option NearBest) (boxes : List (List (ℕ × ℕ) × NearWhy)) → IsVerdict pairing best boxes Total → IsSound pairing best → ⊥
total_unclaimed pairing None boxes said claimed = said
total_unclaimed pairing (Some best) boxes said claimed =
    said.2 (reached_once pairing said.0 best.total best.first best.second said.1 claimed)

pair_total : (pairing : Pairing) (best : Option NearBest) (boxes : List (List (ℕ × ℕ) × NearWhy)) → IsVerdict pairing best boxes Pair → IsVerdict pairing best boxes Total → ⊥
pair_total pairing None boxes one other = one
pair_total pairing (Some best) boxes one other = one (other.0, other.1)

kinds_unique : (pairing : Pairing) (best : Option NearBest) (boxes : List (List (ℕ × ℕ) × NearWhy)) (a b : NearVerdict) → Kind pairing best boxes a → Kind pairing best boxes b → a ≡ b
kinds_unique pairing best boxes a b (of_pair one is) (of_pair other at) = one ∙ sym other
kinds_unique pairing best boxes a b (of_pair one is) (of_total other at) = absurd (pair_total pairing best boxes is at)
kinds_unique pairing best boxes a b (of_pair one is) (of_boxes said other claimed at) = absurd (pair_unclaimed pairing best boxes is claimed)
kinds_unique pairing best boxes a b (of_total one is) (of_pair other at) = absurd (pair_total pairing best boxes at is)
kinds_unique pairing best boxes a b (of_total one is) (of_total other at) = one ∙ sym other
kinds_unique pairing best boxes a b (of_total one is) (of_boxes said other claimed at) = absurd (total_unclaimed pairing best boxes is claimed)
kinds_unique pairing best boxes a b (of_boxes said one claimed is) (of_pair other at) = absurd (pair_unclaimed pairing best boxes at claimed)
kinds_unique pairing best boxes a b (of_boxes said one claimed is) (of_total other at) = absurd (total_unclaimed pairing best boxes at claimed)
kinds_unique pairing best boxes a b (of_boxes said one claimed is) (of_boxes too other also at) =
    one ∙ ap verdict_said (said_unique (whole_cell pairing) (cells_of boxes) (HoldsAt (IsBoxClosed pairing best) boxes) said too is at) ∙ sym other

-- one verdict is said of a claim
pub verdict_unique : (pairing : Pairing) (best : Option NearBest) (boxes : List (List (ℕ × ℕ) × NearWhy)) (a b : NearVerdict) → IsVerdict pairing best boxes a → IsVerdict pairing best boxes b → a ≡ b
verdict_unique pairing best boxes a b one other =
    kinds_unique pairing best boxes a b (kind_of pairing best boxes a one) (kind_of pairing best boxes b other)
