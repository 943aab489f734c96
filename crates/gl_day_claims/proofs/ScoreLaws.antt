-- The laws of `score`.
use Rattle.std.proofs.Common.{◌≡◌, inl, List, ℕ, Option}
use Rattle.gl_desk.specs.Desk.{FilesByName}
use Rattle.gl_day.specs.Flight.{StewardRules}
use Rattle.gl_words.specs.DayWords.{DayNames}
use Rattle.gl_words.proofs.UnbrokenNames.{AreUnbroken}
use Rattle.gl_day_files.specs.DayFiles.{IsScoreSeen, ScoreSeen, score_tests}
use Rattle.gl_day_files.proofs.DayDecided.{score_decided}
use Rattle.gl_day_files.proofs.DayRefusals.{score_named}
use Rattle.gl_day_claims.proofs.Completing.{begun_either}
use Rattle.gl_answer.specs.declared.status.Status.TheVariants.{Done}
use Rattle.gl_answer.specs.Answer.{Answer}
use Rattle.gl_day_claims.specs.Score.{IsScoreBegun, IsScoreTold, score_promise}
use Rattle.gl_day_claims.proofs.PartOfDay.{part_of_day}
use Rattle.gl_answer.proofs.ByTests.{by_tests_line, by_tests_passes, by_tests_result}
use Rattle.gl_answer.proofs.Promises.{IsLawful, IsPart, done_no_refusal}

told_done : (folder : Option FilesByName) (stewards : List StewardRules) (seen : ScoreSeen) (answer : Answer) → IsScoreTold folder stewards seen answer → answer.status ≡ Done
told_done folder stewards seen answer (day, read, scored) = scored.ended

score_part : (folder : Option FilesByName) (stewards : List StewardRules) (names : DayNames) (text : List ℕ) → IsScoreBegun folder names text → IsPart (score_promise folder stewards names) text
score_part folder stewards names text (day, (seen, is, passes, read), begun) =
    let part = part_of_day folder day stewards text (begun_either folder day stewards text begun begun.part) in
    record { answer = part.answer; right = (seen, is, inl (passes, (day, read, part.right))); count = part.count; is = part.is }

pub score_lawful : (folder : Option FilesByName) (stewards : List StewardRules) (names : DayNames) → AreUnbroken names → IsLawful (score_promise folder stewards names)
score_lawful folder stewards names named =
    let tests = score_tests names in
    let done = told_done folder stewards in record {
      result = by_tests_result (IsScoreSeen names folder) tests (IsScoreTold folder stewards) (λ seen answer is. inl (done seen answer is));
      passes = by_tests_passes folder (IsScoreSeen names) tests (IsScoreTold folder stewards) (score_decided names) (λ seen answer is. done_no_refusal answer.status (inl (done seen answer is)));
      line = by_tests_line (IsScoreSeen names folder) tests (IsScoreTold folder stewards) (score_named names named) (λ seen answer is unless. absurd (unless (done seen answer is)));
      own = λ none. absurd none;
      begun = score_part folder stewards names;
    }
