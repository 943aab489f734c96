-- The laws of `replay`.
use Rattle.std.proofs.Common.{◌≡◌, ap, inl, Option}
use Rattle.gl_desk.specs.Desk.{FilesByName}
use Rattle.gl_words.specs.Words.{ReplayWords}
use Rattle.gl_words.proofs.Unbroken.{HasUnbrokenFiles}
use Rattle.gl_flights.specs.ReplayFiles.{IsReplaySeen, ReplaySeen, replay_tests}
use Rattle.gl_answer.proofs.FileTests.{AreNamed}
use Rattle.gl_answer.specs.declared.status.Status.TheVariants.{Done}
use Rattle.gl_answer.specs.Answer.{Answer}
use Rattle.gl_flights.specs.Replay.{IsReplay, IsReplayed, replay_promise}
use Rattle.gl_flights.proofs.ReplayTests.{replay_decided}
use Rattle.gl_answer.proofs.ByTests.{by_tests_line, by_tests_passes, by_tests_result}
use Rattle.gl_answer.proofs.Promises.{IsLawful, done_no_refusal, reading_lawful}

replay_named : (words : ReplayWords) → HasUnbrokenFiles words → (seen : ReplaySeen) → AreNamed (replay_tests words seen)
replay_named words named seen = (named.flight, (named.schedule, (named.flight, (named.flight, (named.schedule, (named.schedule, tt))))))

replayed_done : (words : ReplayWords) (seen : ReplaySeen) (answer : Answer) → IsReplayed words seen answer → answer.status ≡ Done
replayed_done words seen answer (read, are, said, is, same) = ap (λ (a : Answer). a.status) same

pub replay_lawful : (folder : Option FilesByName) (words : ReplayWords) → HasUnbrokenFiles words → IsLawful (replay_promise folder words)
replay_lawful folder words named =
    reading_lawful (IsReplay folder words) (replay_promise folder words).Passes
    (by_tests_result (IsReplaySeen words folder) (replay_tests words) (IsReplayed words) (λ seen answer is. inl (replayed_done words seen answer is)))
    (by_tests_passes folder (IsReplaySeen words) (replay_tests words) (IsReplayed words) (replay_decided words) (λ seen answer is. done_no_refusal answer.status (inl (replayed_done words seen answer is))))
    (by_tests_line (IsReplaySeen words folder) (replay_tests words) (IsReplayed words) (replay_named words named) (λ seen answer is unless. absurd (unless (replayed_done words seen answer is))))
