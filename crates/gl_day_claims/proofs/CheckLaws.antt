-- The laws of `check`.
use Rattle.std.proofs.Common.{◌≡◌, ◌≢◌, ap, ◌⊎◌, inl, inr, Option, None, Some}
use Rattle.gl_desk.specs.Desk.{FilesByName}
use Rattle.gl_day.specs.declared.fault.Checked.{Checked}
use Rattle.gl_day.specs.declared.fault.Checked.TheVariants as checked
use Rattle.gl_words.specs.DayWords.{DayNames}
use Rattle.gl_words.proofs.UnbrokenNames.{AreUnbroken}
use Rattle.gl_day_files.specs.DayFiles.{IsScoreSeen, ScoreSeen, check_tests}
use Rattle.gl_answer.specs.FileTests.{most_proof_bytes}
use Rattle.gl_day_files.proofs.DayDecided.{check_decided}
use Rattle.gl_day_files.proofs.DayRefusals.{check_named}
use Rattle.gl_answer.specs.declared.status.Status.TheVariants.{Done, NotProved}
use Rattle.gl_answer.specs.Answer.{Answer}
use Rattle.gl_answer.specs.Texts.{IsLine}
use Rattle.gl_day_claims.specs.Check.{IsCheck, IsCheckTold, check_promise, checked_answer}
use Rattle.gl_day_claims.proofs.Accepting.{scored_accepted}
use Rattle.gl_day_claims.proofs.DayLines.{checked_line}
use Rattle.gl_answer.proofs.ByTests.{by_tests_line, by_tests_passes, by_tests_result}
use Rattle.gl_answer.proofs.Promises.{IsLawful, done_no_refusal, some_result}

pub checked_result : (said : Checked) (answer : Answer) → answer ≡ checked_answer said → (answer.status ≡ Done) ⊎ (answer.status ≡ NotProved)
checked_result (checked.Accepted claims) answer same = inl (ap (λ (a : Answer). a.status) same)
checked_result (checked.Refused wrong) answer same = inr (ap (λ (a : Answer). a.status) same)

told_result : (folder : Option FilesByName) (seen : ScoreSeen) (answer : Answer) → IsCheckTold folder seen answer → (answer.status ≡ Done) ⊎ (answer.status ≡ NotProved)
told_result folder seen answer (said, found, same) = checked_result said answer same

told_line : (folder : Option FilesByName) (seen : ScoreSeen) (answer : Answer) → IsCheckTold folder seen answer → answer.status ≢ Done → IsLine answer.said
told_line folder seen answer (said, found, same) unless = checked_line said answer same unless

told_own : (folder : Option FilesByName) (names : DayNames) → (check_promise folder names).ChecksOwn → (answer : Answer) → IsCheck folder names answer → answer.status ≡ Done
told_own None names own answer right = absurd own
told_own (Some files) names own answer right = scored_accepted files names answer own right

pub check_lawful : (folder : Option FilesByName) (names : DayNames) → AreUnbroken names → IsLawful (check_promise folder names)
check_lawful folder names named =
    let tests = check_tests most_proof_bytes names in record {
      result = by_tests_result (IsScoreSeen names folder) tests (IsCheckTold folder) (λ seen answer is. some_result answer.status (told_result folder seen answer is));
      passes = by_tests_passes folder (IsScoreSeen names) tests (IsCheckTold folder) (check_decided most_proof_bytes names) (λ seen answer is. done_no_refusal answer.status (told_result folder seen answer is));
      line = by_tests_line (IsScoreSeen names folder) tests (IsCheckTold folder) (check_named most_proof_bytes names named) (told_line folder);
      own = told_own folder names;
      begun = λ text none. absurd none;
    }
