-- Yes is said exactly of a certificate.
use Rattle.std.proofs.Common.{◌≡◌, subst, ℕ, List, Option}
use Rattle.std.specs.Prelude.{◌↔◌}
use Rattle.gl_near.specs.declared.found.NearBest.{NearBest}
use Rattle.gl_near.specs.declared.found.NearWhy.{NearWhy}
use Rattle.gl_near.specs.Pairing.{Pairing}
use Rattle.gl_near.specs.Certificate.{IsCertificate}
use Rattle.gl_near.specs.declared.answer.NearVerdict.{NearVerdict}
use Rattle.gl_near.specs.declared.answer.NearVerdict.TheVariants.{Yes}
use Rattle.gl_near.specs.Verdict.{IsVerdict}
use Rattle.gl_near.proofs.Exact.{verdict_unique}

-- a certificate gets no other verdict
pub certificate_yes : (pairing : Pairing) (best : Option NearBest) (boxes : List (List (ℕ × ℕ) × NearWhy)) (verdict : NearVerdict) → IsVerdict pairing best boxes verdict
    → IsCertificate pairing best boxes → verdict ≡ Yes
certificate_yes pairing best boxes verdict said certificate = verdict_unique pairing best boxes verdict Yes said certificate

-- yes exactly for a certificate
pub yes_exactly : (pairing : Pairing) (best : Option NearBest) (boxes : List (List (ℕ × ℕ) × NearWhy)) (verdict : NearVerdict) → IsVerdict pairing best boxes verdict
    → (verdict ≡ Yes) ↔ IsCertificate pairing best boxes
yes_exactly pairing best boxes verdict said =
    (λ same. subst (IsVerdict pairing best boxes) same said, λ certificate. certificate_yes pairing best boxes verdict said certificate)
