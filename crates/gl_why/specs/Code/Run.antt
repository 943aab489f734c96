-- What the code answers before it says it.
use Rattle.std.specs.Prelude.{◌≡◌, ℕ, List, Option, None}
use Rattle.gl_desk.specs.Desk.{FilesByName}
use Rattle.gl_why.specs.Run.{IsAnswer, IsAnswered}
use Rattle.gl_why.specs.Status.{stop_at}
use Rattle.gl_why.specs.Words.{Question, words_of}
use Rattle.gl_why.specs.declared.command.Answer as code_answer

-- an answer of a run that nothing stopped
pub record Answers (folder : Option FilesByName) (words : List (List ℕ))
    (answer : code_answer.Answer) : Type 0 where
  pub goes : stop_at answer.status ≡ None
  pub is : IsAnswer folder (words_of words) answer.status answer.text.items

-- an answer to a question, which nothing stopped
pub record IsAnswerFor (folder : Option FilesByName) (question : Question)
    (answer : code_answer.Answer) : Type 0 where
  pub goes : stop_at answer.status ≡ None
  pub is : IsAnswered folder question answer.status answer.text.items
