-- An answer to words of the right form is one to the words.
use Rattle.std.proofs.Common.{◌≡◌, refl, sym, subst, ℕ, List, Option, None, Some}
use Rattle.gl_desk.specs.Desk.{FilesByName}
use Rattle.gl_look.specs.Code.Run.{Answers, IsAnswerFor, IsGivenFor}
use Rattle.gl_look.specs.Run.{IsAnswer, IsClear, IsRemarked, OnFile}
use Rattle.gl_look.specs.Status.{stop_at}
use Rattle.gl_look.specs.Words.{words_of}
use Rattle.gl_look.specs.declared.answer.Status.{Status}
use Rattle.gl_look.specs.declared.answer.Status.TheVariants as status
use Rattle.gl_look.specs.declared.command.Answer.{Answer}

given : (folder : Option FilesByName) (words : List (List ℕ)) (file : List ℕ) → words_of words ≡ Some file → (status : Status) (text : List ℕ) → IsGivenFor folder file status text
    → (stop_at status ≡ None) × IsAnswer folder words status text
given folder words file form status.Clear text is =
    let P : Option (List ℕ) → Type 0 = λ some. OnFile some (λ f. IsClear folder f text) in
    (refl, subst P (sym form) is)
given folder words file form status.Words text is = absurd is
given folder words file form status.Desk text is = absurd is
given folder words file form status.Memory text is = absurd is
given folder words file form status.Remarks text is =
    let P : Option (List ℕ) → Type 0 = λ some. OnFile some (λ f. IsRemarked folder f text) in
    (refl, subst P (sym form) is)

pub answered : (folder : Option FilesByName) (words : List (List ℕ)) (file : List ℕ) → words_of words ≡ Some file → (answer : Answer) → IsAnswerFor folder file answer → Answers folder words answer
answered folder words file form answer is =
    let both = given folder words file form answer.status answer.text.items is in
    record { goes = both.0; is = both.1 }
