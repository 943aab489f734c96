-- The verdicts, from what is said of the boxes.
use Rattle.std.proofs.Common.{◌≡◌, ◌∙◌, sym, ap, ℕ, List, length, Option, arith}
use Rattle.std.proofs.lemmas.List.{length-map}
use Rattle.gl_box.specs.declared.closed.Why.{Why}
use Rattle.gl_box.specs.declared.checking.Said.{Said}
use Rattle.gl_box.specs.declared.checking.Said.TheVariants.{NoneWrong, ExtraBox, StrayBox, UnclosedBox, Unfinished}
use Rattle.gl_box.specs.Passing.{cells_of}
use Rattle.gl_goal.specs.Goal.{Goal, IsReached, chosen, value}
use Rattle.gl_goal.specs.Certificate.{IsCertificate, IsClaimed}
use Rattle.gl_check.specs.Verdict.{AreSaid, IsVerdict, verdict_said}

length-cells : (boxes : List (List (ℕ × ℕ) × Why)) → length (cells_of boxes) ≡ length boxes
length-cells boxes = length-map boxes (λ (box : List (ℕ × ℕ) × Why). box.0)

-- the verdict, where the claim holds
pub said_verdict : (rule : Goal) (total : Option ℕ) (fixes : List ℕ) (boxes : List (List (ℕ × ℕ) × Why)) (said : Said) → IsClaimed rule total fixes → AreSaid rule total boxes said
    → IsVerdict rule total fixes boxes (verdict_said said)
said_verdict rule total fixes boxes NoneWrong claimed is = record {
  claimed = claimed;
  frontier = is.0;
  closed = λ k d below. is.1 k (omega (arith, below, length-cells boxes)) d;
}
said_verdict rule total fixes boxes (ExtraBox number) claimed is = (claimed, is)
said_verdict rule total fixes boxes (StrayBox number) claimed is = (claimed, is)
said_verdict rule total fixes boxes (UnclosedBox number) claimed is = (claimed, is)
said_verdict rule total fixes boxes Unfinished claimed is = (claimed, is)

-- a tuple with the fixes of a claim is worth its total
pub same_worth : (rule : Goal) (total : ℕ) (fixes tuple other : List ℕ) → IsReached rule total tuple → fixes ≡ chosen rule.axes tuple → fixes ≡ chosen rule.axes other → value rule other ≡ total
same_worth rule total fixes tuple other reached is also = ap rule.worth (sym also ∙ is) ∙ reached.worth

-- nothing is wrong with the boxes of a certificate
pub certificate_said : (rule : Goal) (total : Option ℕ) (fixes : List ℕ) (boxes : List (List (ℕ × ℕ) × Why)) → IsCertificate rule total fixes boxes → AreSaid rule total boxes NoneWrong
certificate_said rule total fixes boxes certificate =
    (certificate.frontier, λ place below d. certificate.closed place d (omega (arith, below, length-cells boxes)))
