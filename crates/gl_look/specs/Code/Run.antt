-- What the code answers before it says it.
use Rattle.std.specs.Prelude.{◌≡◌, ℕ, List, Option, None}
use Rattle.gl_desk.specs.Desk.{FilesByName}
use Rattle.gl_look.specs.Run.{IsAnswer, IsClear, IsRemarked}
use Rattle.gl_look.specs.declared.answer.Status as code_status
use Rattle.gl_look.specs.declared.answer.Status.TheVariants as status
use Rattle.gl_look.specs.Status.{stop_at}
use Rattle.gl_look.specs.declared.command.Answer as code_answer

-- an answer of a run that nothing stopped
pub record Answers (folder : Option FilesByName) (words : List (List ℕ))
    (answer : code_answer.Answer) : Type 0 where
  pub goes : stop_at answer.status ≡ None
  pub is : IsAnswer folder words answer.status answer.text.items

-- an answer to words that ask to look over a file, which nothing stopped
abbrev pub IsGivenFor : Option FilesByName → List ℕ → code_status.Status → List ℕ → Type 0
IsGivenFor folder file status.Clear text = IsClear folder file text
IsGivenFor folder file status.Words text = ⊥
IsGivenFor folder file status.Desk text = ⊥
IsGivenFor folder file status.Memory text = ⊥
IsGivenFor folder file status.Remarks text = IsRemarked folder file text

abbrev pub IsAnswerFor : Option FilesByName → List ℕ → code_answer.Answer → Type 0
IsAnswerFor folder file answer = IsGivenFor folder file answer.status answer.text.items
