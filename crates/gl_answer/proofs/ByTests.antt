-- The laws of an answer by tests, from those of what the files give.
use Rattle.std.proofs.Common.{◌≢◌, inl, inr, List, Option, None, Some}
use Rattle.gl_desk.specs.Desk.{FilesByName}
use Rattle.gl_answer.specs.FileTests.{FileTest}
use Rattle.gl_answer.proofs.FileTests.{AreDecided, AreNamed, none_fails, refusal_named}
use Rattle.gl_answer.specs.declared.status.Status.TheVariants as status
use Rattle.gl_answer.specs.Answer.{Answer}
use Rattle.gl_answer.specs.ByTests.{IsByTests, PassByTests}
use Rattle.gl_answer.specs.Texts.{IsLine}
use Rattle.gl_answer.proofs.LineTexts.{said_by}
use Rattle.gl_answer.proofs.Promises.{IsResult, refuses}

pub by_tests_result : {Seen : Type 0} (IsSeen : Seen → Type 0) (tests : Seen → List FileTest) (Gives : Seen → Answer → Type 0)
    → ((seen : Seen) (answer : Answer) → Gives seen answer → IsResult answer.status)
    → (answer : Answer) → IsByTests IsSeen tests Gives answer → IsResult answer.status
by_tests_result IsSeen tests Gives given answer (seen, is, inl (all, gives)) = given seen answer gives
by_tests_result IsSeen tests Gives given answer (seen, is, inr (refusal, fails, same)) = refuses answer refusal.file refusal.cause same

pub by_tests_passes : {Seen : Type 0} (folder : Option FilesByName) (IsSeen : Option FilesByName → Seen → Type 0) (tests : Seen → List FileTest) (Gives : Seen → Answer → Type 0)
    → ((seen : Seen) → AreDecided (tests seen)) → ((seen : Seen) (answer : Answer) → Gives seen answer → answer.status ≢ status.Refused)
    → PassByTests folder IsSeen tests → (answer : Answer) → IsByTests (IsSeen folder) tests Gives answer → answer.status ≢ status.Refused
by_tests_passes None IsSeen tests Gives decided given passes answer right = absurd passes
by_tests_passes (Some files) IsSeen tests Gives decided given passes answer (seen, is, inl (all, gives)) = given seen answer gives
by_tests_passes (Some files) IsSeen tests Gives decided given passes answer (seen, is, inr (refusal, fails, same)) =
    absurd (none_fails (tests seen) refusal (decided seen) (passes seen is) fails)

pub by_tests_line : {Seen : Type 0} (IsSeen : Seen → Type 0) (tests : Seen → List FileTest) (Gives : Seen → Answer → Type 0)
    → ((seen : Seen) → AreNamed (tests seen))
    → ((seen : Seen) (answer : Answer) → Gives seen answer → answer.status ≢ status.Done → IsLine answer.said)
    → (answer : Answer) → IsByTests IsSeen tests Gives answer → answer.status ≢ status.Done → IsLine answer.said
by_tests_line IsSeen tests Gives named given answer (seen, is, inl (all, gives)) unless = given seen answer gives unless
by_tests_line IsSeen tests Gives named given answer (seen, is, inr (refusal, fails, same)) unless =
    said_by answer refusal.file refusal.cause same (refusal_named (tests seen) refusal (named seen) fails)
