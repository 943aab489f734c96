-- The verdicts, from what is said of the boxes.
use Rattle.std.proofs.Common.{◌≡◌, ℕ, List, length, Option, arith}
use Rattle.std.proofs.lemmas.List.{length-map}
use Rattle.gl_box.specs.declared.checking.Said.{Said}
use Rattle.gl_box.specs.declared.checking.Said.TheVariants.{NoneWrong, ExtraBox, StrayBox, UnclosedBox, Unfinished}
use Rattle.gl_box.specs.Passing.{cells_of}
use Rattle.gl_near.specs.declared.found.NearBest.{NearBest}
use Rattle.gl_near.specs.declared.found.NearWhy.{NearWhy}
use Rattle.gl_near.specs.Pairing.{Pairing}
use Rattle.gl_near.specs.Certificate.{IsCertificate, IsSound}
use Rattle.gl_near.specs.Verdict.{AreSaid, IsVerdict, verdict_said}

length-cells : (boxes : List (List (ℕ × ℕ) × NearWhy)) → length (cells_of boxes) ≡ length boxes
length-cells boxes = length-map boxes (λ (box : List (ℕ × ℕ) × NearWhy). box.0)

-- the verdict, where the claim holds
pub said_verdict : (pairing : Pairing) (best : Option NearBest) (boxes : List (List (ℕ × ℕ) × NearWhy)) (said : Said) → IsSound pairing best → AreSaid pairing best boxes said
    → IsVerdict pairing best boxes (verdict_said said)
said_verdict pairing best boxes NoneWrong claimed is = record {
  sound = claimed;
  frontier = is.0;
  closed = λ k d below. is.1 k (omega (arith, below, length-cells boxes)) d;
}
said_verdict pairing best boxes (ExtraBox number) claimed is = (claimed, is)
said_verdict pairing best boxes (StrayBox number) claimed is = (claimed, is)
said_verdict pairing best boxes (UnclosedBox number) claimed is = (claimed, is)
said_verdict pairing best boxes Unfinished claimed is = (claimed, is)

-- nothing is wrong with the boxes of a certificate
pub certificate_said : (pairing : Pairing) (best : Option NearBest) (boxes : List (List (ℕ × ℕ) × NearWhy)) → IsCertificate pairing best boxes → AreSaid pairing best boxes NoneWrong
certificate_said pairing best boxes certificate =
    (certificate.frontier, λ place below d. certificate.closed place d (omega (arith, below, length-cells boxes)))
