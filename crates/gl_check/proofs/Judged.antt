-- Yes is said exactly of a certificate.
use Rattle.std.proofs.Common.{◌≡◌, subst, ℕ, List, Option}
use Rattle.std.specs.Prelude.{◌↔◌}
use Rattle.gl_box.specs.declared.closed.Why.{Why}
use Rattle.gl_goal.specs.Goal.{Goal}
use Rattle.gl_goal.specs.Certificate.{IsCertificate}
use Rattle.gl_check.specs.declared.verdict.Verdict.{Verdict}
use Rattle.gl_check.specs.declared.verdict.Verdict.TheVariants.{Yes}
use Rattle.gl_check.specs.Verdict.{IsVerdict}
use Rattle.gl_check.proofs.Exact.{verdict_unique}

-- a certificate gets no other verdict
pub certificate_yes : (rule : Goal) (total : Option ℕ) (fixes : List ℕ) (boxes : List (List (ℕ × ℕ) × Why)) (verdict : Verdict) → IsVerdict rule total fixes boxes verdict
    → IsCertificate rule total fixes boxes → verdict ≡ Yes
certificate_yes rule total fixes boxes verdict said certificate = verdict_unique rule total fixes boxes verdict Yes said certificate

-- yes exactly for a certificate
pub yes_exactly : (rule : Goal) (total : Option ℕ) (fixes : List ℕ) (boxes : List (List (ℕ × ℕ) × Why)) (verdict : Verdict) → IsVerdict rule total fixes boxes verdict
    → (verdict ≡ Yes) ↔ IsCertificate rule total fixes boxes
yes_exactly rule total fixes boxes verdict said =
    (λ same. subst (IsVerdict rule total fixes boxes) same said, λ certificate. certificate_yes rule total fixes boxes verdict said certificate)
