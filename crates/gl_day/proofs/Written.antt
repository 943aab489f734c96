-- What proves all that is expected of a flight has a text.
use Rattle.std.proofs.Common.{ℕ, ◌<◌, ◌≤◌, List, [], ◌∷◌, length, get_or, arith}
use Rattle.std.specs.Prelude.{IsTrue, All}
use Rattle.std.specs.List.{AllZip}
use Rattle.std.proofs.lemmas.List.Elements.{All-cons, All-tail}
use Rattle.gl_airspace.specs.declared.volume.Airspace.{Airspace}
use Rattle.gl_igc.specs.declared.fix.Fix.{Fix}
use Rattle.gl_igc.specs.declared.recording.Recording.{Recording}
use Rattle.gl_goal.specs.Lists.{AreNamed}
use Rattle.gl_judge.specs.Claims.{AreExpected}
use Rattle.gl_judge.proofs.ExpectedGoals.{AreGoalsOver, IsGoalOver, expected_over}
use Rattle.gl_proof.specs.Claim.{IsStatement, Statement}
use Rattle.gl_text.specs.Forms.{is_number}
use Rattle.gl_task.specs.declared.task.Task.{Task}
use Rattle.gl_day.specs.Expected.{Proves, expected_of}
use Rattle.gl_day.proofs.Statements.{AreShort, certificate_statement}
use Rattle.gl_judge.specs.Claimed.{FlightClaim}

pub named_short : (fixes : List Fix) (lists : List (List ℕ)) → length fixes ≤ 90_000 → All (AreNamed fixes) lists → AreShort lists
named_short fixes lists most named = λ k d below j e inside.
    let less : get_or (get_or lists k d) j e < length fixes = named k d below j e inside in
    omega (arith, less, most)

each_written : (fixes : List Fix) (number : List ℕ) (claims : List FlightClaim) (statements : List Statement) → length fixes ≤ 90_000 → IsTrue (is_number number) → AreGoalsOver fixes claims
    → AllZip Proves (expected_of number claims) statements → All IsStatement statements
each_written fixes number [] [] most numbered over each = λ k d below. absurd (omega arith)
each_written fixes number [] (s ∷ statements) most numbered over each = absurd each
each_written fixes number (c ∷ claims) [] most numbered over each = absurd each
each_written fixes number (c ∷ claims) (s ∷ statements) most numbered over each =
    let first : IsGoalOver fixes c.rule = over 0 c (omega arith) in
    All-cons IsStatement s statements
    (certificate_statement number c.kind c.rule s numbered first.is_goal (named_short fixes c.rule.axes most first.named) each.0)
    (each_written fixes number claims statements most numbered (All-tail (λ (claim : FlightClaim). IsGoalOver fixes claim.rule) c claims over) each.1)

-- where each claim that is expected of a flight is proved, each proof has a text
pub expected_statements : (task : Task) (air : Airspace) (recording : Recording) (number : List ℕ) (claims : List FlightClaim) (statements : List Statement) → IsTrue (is_number number)
    → AreExpected task air recording claims → AllZip Proves (expected_of number claims) statements → All IsStatement statements
expected_statements task air recording number claims statements numbered expected each =
    each_written recording.fixes number claims statements recording.at_most_90000 numbered (expected_over task air recording claims expected) each
