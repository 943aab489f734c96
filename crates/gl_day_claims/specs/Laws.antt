-- What the answers are like, beside their rules.
use Rattle.std.specs.Prelude.{◌≡◌, ℕ, List, Some}
use Rattle.std.specs.List.{AllZip}
use Rattle.gl_desk.specs.Desk.{FilesByName}
use Rattle.gl_proof.specs.Claim.{Statement}
use Rattle.gl_proof.specs.Text.{IsTextOf}
use Rattle.gl_proof.specs.declared.version.Version.TheVariants.{Two}
use Rattle.gl_day.specs.Flight.{StewardRules}
use Rattle.gl_words.specs.DayWords.{DayNames}
use Rattle.gl_day_claims.specs.Alike.{AreAlike}
use Rattle.gl_answer.specs.Answer.{Answer}
use Rattle.gl_day_claims.specs.Score.{IsScore}

-- in two proofs each claim is one, but for the choice of its fixes and its boxes
abbrev pub AreProofsAlike : List ℕ → List ℕ → Type 0
AreProofsAlike one other =
    (statements others : List Statement) → IsTextOf Two one statements → IsTextOf Two other others
    → AllZip AreAlike statements others

-- In a folder, `score` has one status, one sheet and one proof but for the choice of fixes and
-- boxes: two answers that are both right for it end and say the same, and their proofs have the
-- same claims with the same totals.
abbrev pub HasOneAnswer : Type 0
HasOneAnswer =
    (files : FilesByName) (stewards : List StewardRules) (names : DayNames) (one other : Answer)
    → IsScore (Some files) stewards names one → IsScore (Some files) stewards names other
    → (one.status ≡ other.status) × (one.said ≡ other.said)
    × AreProofsAlike one.appended other.appended
