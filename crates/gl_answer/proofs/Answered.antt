-- How commands answer, and how they are stopped.
use Rattle.std.proofs.Common.{◌≡◌, ℕ, sym, subst, refl, inr, List, [], Result, Ok, Err, None, Some, Vec}
use Rattle.std.specs.Prelude.{IfErr, IfOk}
use Rattle.std.specs.declared.alloc.AllocError.{AllocError}
use Rattle.std.specs.declared.alloc.Global.{Global}
use Rattle.gl_desk.specs.Answers.{OnlyReads, stop_of}
use Rattle.gl_desk.specs.Desk.{Told}
use Rattle.gl_desk.specs.declared.error.DeskError.{DeskError}
use Rattle.gl_desk.specs.declared.error.DeskError.TheVariants.{Failed, Memory}
use Rattle.gl_answer.specs.declared.halt.Halt.{Halt}
use Rattle.gl_answer.specs.declared.halt.Halt.TheVariants.{Refused, Stopped}
use Rattle.gl_answer.specs.FileTests.{FileTest, HasTested}
use Rattle.gl_answer.proofs.ReadsTwice.{reads_twice}
use Rattle.gl_answer.specs.declared.answer.Answer as code
use Rattle.gl_answer.specs.declared.status.Status.{Status}
use Rattle.gl_answer.specs.declared.status.Status.TheVariants.{Done}
use Rattle.gl_answer.specs.Answer.{Answer, answer_of, AnswersHalt, SaysDone, saying}
use Rattle.gl_answer.specs.ByTests.{IsByTests}
use Rattle.gl_answer.specs.Given.{Ends, HasAnswered, Stops}
use Rattle.gl_answer.specs.Promise.{Promise, reading}
use Rattle.gl_answer.specs.Statuses.{status_of}

-- a command that only reads has its answer
pub reads_right : (IsRight : Answer → Type 0) (Passes : Type 0) (x y : Told) (result : Result code.Answer DeskError) → IfOk result (λ answer. IsRight (answer_of answer))
    → OnlyReads (stop_of result) x y → IfOk result (HasAnswered (reading IsRight Passes) x y)
reads_right IsRight Passes x y (Ok answer) right reads =
    ([], right, record { written = record { appended = (refl, reads.folder, reads.outputs); said = reads.said; faults = reads.faults }; untouched = λ none. (reads.folder, reads.outputs) })
reads_right IsRight Passes x y (Err stop) right reads = tt

-- so has one that doesn't use the desk
pub unread_right : (IsRight : Answer → Type 0) (Passes : Type 0) (x : Told) (result : Result code.Answer DeskError) → IfOk result (λ answer. IsRight (answer_of answer))
    → IfOk result (HasAnswered (reading IsRight Passes) x x)
unread_right IsRight Passes x (Ok answer) right =
    ([], right, record { written = record { appended = (refl, refl, refl); said = refl; faults = refl }; untouched = λ none. (refl, refl) })
unread_right IsRight Passes x (Err stop) right = tt

-- a text that is right makes a right answer
pub done_right : (IsRight : Answer → Type 0) (text : Result (Vec ℕ Global) AllocError) (result : Result code.Answer DeskError) → SaysDone text result
    → IfOk text (λ text. IsRight (saying Done text.items)) → IfOk result (λ answer. IsRight (answer_of answer))
done_right IsRight (Ok text) (Ok answer) same right = subst IsRight (sym same) right
done_right IsRight (Ok text) (Err stop) same right = tt
done_right IsRight (Err error) (Ok answer) same right = absurd same
done_right IsRight (Err error) (Err stop) same right = tt

-- only want of memory stops an answer that says a text
pub done_stopped : (text : Result (Vec ℕ Global) AllocError) (result : Result code.Answer DeskError) → SaysDone text result → IfErr result (λ stop. stop ≡ Memory)
done_stopped (Ok text) (Ok answer) same = tt
done_stopped (Ok text) (Err stop) same = absurd same
done_stopped (Err error) (Ok answer) same = absurd same
done_stopped (Err error) (Err stop) same = same

-- what is made of files that were only read, where only want of memory can stop it, leaves the desk as it is
pub only_read : (x y z : Told) (result : Result code.Answer DeskError) → OnlyReads None x y → OnlyReads None y z → IfErr result (λ stop. stop ≡ Memory) → OnlyReads (stop_of result) x z
only_read x y z (Ok answer) one two stopped = reads_twice x y z one two
only_read x y z (Err stop) one two stopped =
    let all = reads_twice x y z one two in
    subst (λ (s : DeskError). OnlyReads (Some s) x z) (sym stopped) (record { folder = all.folder; said = all.said; outputs = all.outputs; faults = all.faults })

-- a run that is stopped ends so
pub stopped_ends : (promise : Promise) (stop : DeskError) (status : Status) (x z : Told) → status ≡ status_of stop → Stops promise x z → Ends promise status x z
stopped_ends promise Failed status x z is stops = subst (λ (s : Status). Ends promise s x z) (sym is) stops
stopped_ends promise Memory status x z is stops = subst (λ (s : Status). Ends promise s x z) (sym is) stops

-- What ended the tests of files is answered: the line of the first that failed.
pub halt_answered : {Seen X : Type 0} (IsSeen : Seen → Type 0) (tests : Seen → List FileTest) (AreRead : Seen → X → Type 0) (Gives : Seen → Answer
    → Type 0) (halt : Halt) (result : Result code.Answer DeskError) → HasTested IsSeen tests AreRead (Err halt) → AnswersHalt halt result
    → IfOk result (λ answer. IsByTests IsSeen tests Gives (answer_of answer))
halt_answered IsSeen tests AreRead Gives (Refused refusal) (Ok answer) (seen, is, fails) same = (seen, is, inr (refusal, fails, same))
halt_answered IsSeen tests AreRead Gives (Refused refusal) (Err stop) tested same = tt
halt_answered IsSeen tests AreRead Gives (Stopped stop) (Ok answer) tested same = absurd same
halt_answered IsSeen tests AreRead Gives (Stopped stop) (Err error) tested same = tt
