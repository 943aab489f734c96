-- An answer to a question is one to the words that ask it.
use Rattle.std.proofs.Common.{◌≡◌, refl, sym, subst, ℕ, Bool, true, false, if◌then◌else◌, List, Option, None, Some}
use Rattle.std.specs.List.{list_any}
use Rattle.gl_desk.specs.Desk.{FilesByName}
use Rattle.gl_why.specs.Code.Run.{Answers, IsAnswerFor}
use Rattle.gl_why.specs.Facts.{is_refusal}
use Rattle.gl_why.specs.Run.{IsAnswer, status_of_facts}
use Rattle.gl_why.specs.Status.{stop_at}
use Rattle.gl_why.specs.Words.{Question, words_of}
use Rattle.gl_why.specs.declared.answer.Status.TheVariants as status
use Rattle.gl_why.specs.declared.command.Answer.{Answer}
use Rattle.gl_why.specs.declared.fact.Fact.{Fact}

pub answered : (folder : Option FilesByName) (words : List (List ℕ)) (question : Question) → words_of words ≡ Some question → (answer : Answer) → IsAnswerFor folder question answer
    → Answers folder words answer
answered folder words question form answer is =
    record { goes = is.goes; is = subst (λ (o : Option Question). IsAnswer folder o answer.status answer.text.items) (sym form) is.is }

goes_on : (refused : Bool) → stop_at (if refused then status.Refused else status.Said) ≡ None
goes_on true = refl
goes_on false = refl

-- no answer stops a run
pub never_stops : (facts : List Fact) → stop_at (status_of_facts facts) ≡ None
never_stops facts = goes_on (list_any is_refusal facts)
