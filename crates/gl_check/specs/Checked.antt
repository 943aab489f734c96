-- What is said of a claim as a whole.
use Rattle.gl_goal.specs.Goal.{Goal}
use Rattle.gl_goal.specs.Certificate.{IsCertificate}
use Rattle.gl_proof.specs.declared.claim.Claim.{Claim}
use Rattle.gl_box.specs.InLists.{boxes_in}
use Rattle.gl_check.specs.declared.verdict.Verdict.{Verdict}
use Rattle.gl_check.specs.Verdict.{IsVerdict}

-- the boxes of the claim certify its total and its fixes
abbrev pub IsCertified : Goal → Claim → Type 0
IsCertified goal claim =
    IsCertificate goal claim.total claim.fixes.items (boxes_in claim.cells)

-- this is the first thing that is to be said of the claim
abbrev pub IsCheckedAs : Goal → Claim → Verdict → Type 0
IsCheckedAs goal claim verdict =
    IsVerdict goal claim.total claim.fixes.items (boxes_in claim.cells) verdict
