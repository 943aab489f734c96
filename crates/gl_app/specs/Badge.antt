-- The right answers of `badge` and `badgecheck`.
use Rattle.std.specs.Prelude.{◌≡◌, ◌≢◌, ℕ, ◌≤◌, List, length, take, Option, None, Some, IsSomeAnd}
use Rattle.gl_badge.specs.Proved.{IsBadgeChecked, IsBadgeFound}
use Rattle.gl_desk.specs.Desk.{FilesByName}
use Rattle.gl_day.specs.FileChecked.{SaysOfText}
use Rattle.gl_day.specs.declared.fault.Checked.{Checked}
use Rattle.gl_igc.specs.declared.recording.Recording.{Recording}
use Rattle.gl_proof.specs.declared.version.Version.TheVariants.{Two}
use Rattle.gl_proof.specs.Claim.{Statement}
use Rattle.gl_proof.specs.Text.{IsTextOf}
use Rattle.gl_words.specs.Words.{BadgeWords}
use Rattle.gl_flights.specs.BadgeFiles.{BadgeSeen, IsBadgeRead, IsBadgeSeen, badge_check_tests, badge_tests}
use Rattle.gl_answer.specs.FileTests.{most_proof_bytes}
use Rattle.gl_answer.specs.declared.status.Status.TheVariants as status
use Rattle.gl_answer.specs.Answer.{Answer}
use Rattle.gl_day_claims.specs.Check.{checked_answer}
use Rattle.gl_answer.specs.ByTests.{IsByTests, PassByTests}
use Rattle.gl_answer.specs.Promise.{IsTold, Promise}

-- The answer says the three lines of a recording's badge claims, and appends the text, in version
-- 2, of a proof that has exactly these claims, in their order, each proved.
pub record IsBadgeSaid (recording : Recording) (answer : Answer) : Type 0 where
  pub statements : List Statement
  pub found : IsBadgeFound recording answer.said statements
  pub ended : answer.status ≡ status.Done
  pub appended : IsTextOf Two answer.appended statements

-- so for the recording that was seen
abbrev pub IsBadgeTold : BadgeWords → BadgeSeen → Answer → Type 0
IsBadgeTold words seen answer =
    (recording : Recording) × IsBadgeRead seen recording × IsBadgeSaid recording answer

-- the answer of `badge`
abbrev pub IsBadge : Option FilesByName → BadgeWords → Answer → Type 0
IsBadge folder words answer =
    IsByTests (IsBadgeSeen words folder) (badge_tests words) (IsBadgeTold words) answer

-- a first part of what a right answer appends
abbrev pub IsBadgeBegun : Option FilesByName → BadgeWords → List ℕ → Type 0
IsBadgeBegun folder words text =
    (answer : Answer) × IsBadge folder words answer × (count : ℕ)
    × (text ≡ take count answer.appended)

-- the promise of `badge`
abbrev pub badge_promise : Option FilesByName → BadgeWords → Promise
badge_promise folder words = record {
  IsRight = IsBadge folder words;
  IsBegun = IsBadgeBegun folder words;
  Passes = PassByTests folder (IsBadgeSeen words) (badge_tests words);
  ChecksOwn = ⊥;
  target = Some words.proof;
}

-- what is to be said of the proof that was seen, by the recording that was
abbrev pub IsBadgeProofChecked : BadgeSeen → Checked → Type 0
IsBadgeProofChecked seen said =
    (recording : Recording) × IsBadgeRead seen recording
    × IsSomeAnd seen.proof (λ text. SaysOfText (IsBadgeChecked recording) text said)

-- the answer says so
abbrev pub IsBadgeJudged : BadgeWords → BadgeSeen → Answer → Type 0
IsBadgeJudged words seen answer =
    (said : Checked) × IsBadgeProofChecked seen said × (answer ≡ checked_answer said)

-- the answer of `badgecheck`
abbrev pub IsBadgeCheck : Option FilesByName → BadgeWords → Answer → Type 0
IsBadgeCheck folder words answer =
    IsByTests (IsBadgeSeen words folder) (badge_check_tests words) (IsBadgeJudged words) answer

-- A folder in which `badge` ended with a result: it has the proof that was appended, of a size that
-- is read, and else the files that it had before.
pub record IsBadgeFolder (files : FilesByName) (words : BadgeWords) : Type 0 where
  pub before : FilesByName
  pub answer : Answer
  pub told : IsBadge (Some before) words answer
  pub done : answer.status ≡ status.Done
  pub small : length answer.appended ≤ most_proof_bytes
  pub proof : files words.proof ≡ Some answer.appended
  pub others : (other : List ℕ) → other ≢ words.proof → files other ≡ before other

-- the promise of `badgecheck`
abbrev pub badge_check_promise : Option FilesByName → BadgeWords → Promise
badge_check_promise folder words = record {
  IsRight = IsBadgeCheck folder words;
  IsBegun = λ text. ⊥;
  Passes = PassByTests folder (IsBadgeSeen words) (badge_check_tests words);
  ChecksOwn = IsTold folder (λ files. IsBadgeFolder files words);
  target = None;
}
