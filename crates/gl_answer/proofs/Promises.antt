-- What holds of each promise: the laws that a command's own file proves.
use Rattle.std.proofs.Common.{◌≡◌, ◌≢◌, ◌∙◌, sym, ap, ℕ, ◌⊎◌, inl, inr, List, take, None}
use Rattle.gl_answer.specs.declared.refusal.Cause.{Cause}
use Rattle.gl_answer.specs.declared.status.Status.{Status}
use Rattle.gl_answer.specs.declared.status.Status.TheVariants.{Done, Words, Refused, NotProved}
use Rattle.gl_answer.specs.Answer.{Answer, refused}
use Rattle.gl_answer.specs.Promise.{Promise, reading}
use Rattle.gl_answer.specs.Statuses.{stop_at}
use Rattle.gl_answer.specs.Texts.{IsLine}

-- a command ends with a result, a refusal, or a proof that isn't accepted
abbrev pub IsResult : Status → Type 0
IsResult status = (status ≡ Done) ⊎ ((status ≡ Refused) ⊎ (status ≡ NotProved))

-- a right answer, of which a text is a first part
pub record IsPart (promise : Promise) (text : List ℕ) : Type 0 where
  pub answer : Answer
  pub right : promise.IsRight answer
  pub count : ℕ
  pub is : text ≡ take count answer.appended

-- The laws of a promise.
pub record IsLawful (promise : Promise) : Type 0 where
  pub result : (answer : Answer) → promise.IsRight answer → IsResult answer.status
  pub passes : promise.Passes → (answer : Answer) → promise.IsRight answer → answer.status ≢ Refused
  pub line : (answer : Answer) → promise.IsRight answer → answer.status ≢ Done → IsLine answer.said
  pub own : promise.ChecksOwn → (answer : Answer) → promise.IsRight answer → answer.status ≡ Done
  pub begun : (text : List ℕ) → promise.IsBegun text → IsPart promise text

-- those of a command that appends nothing and checks no proof
pub reading_lawful : (IsRight : Answer → Type 0) (Passes : Type 0)
    → ((answer : Answer) → IsRight answer → IsResult answer.status)
    → (Passes → (answer : Answer) → IsRight answer → answer.status ≢ Refused)
    → ((answer : Answer) → IsRight answer → answer.status ≢ Done → IsLine answer.said)
    → IsLawful (reading IsRight Passes)
reading_lawful IsRight Passes result passes line = record {
  result = result;
  passes = passes;
  line = line;
  own = λ none. absurd none;
  begun = λ text none. absurd none;
}

-- a refusal is one of these
pub refuses : (answer : Answer) (file : List ℕ) (cause : Cause) → answer ≡ refused file cause → IsResult answer.status
refuses answer file cause same = inr (inl (ap (λ (a : Answer). a.status) same))

pub some_result : (status : Status) → (status ≡ Done) ⊎ (status ≡ NotProved) → IsResult status
some_result status (inl done) = inl done
some_result status (inr wrong) = inr (inr wrong)

-- none of them stops a run
pub result_goes_on : (status : Status) → IsResult status → stop_at status ≡ None
result_goes_on status (inl same) = ap stop_at same
result_goes_on status (inr (inl same)) = ap stop_at same
result_goes_on status (inr (inr same)) = ap stop_at same

-- none is that of words of no form
pub result_no_words : (status : Status) → IsResult status → status ≢ Words
result_no_words status (inl done) same = let e : ◌≡◌ {A = Status} Done Words = sym done ∙ same in cc
result_no_words status (inr (inl refused)) same = let e : ◌≡◌ {A = Status} Refused Words = sym refused ∙ same in cc
result_no_words status (inr (inr wrong)) same = let e : ◌≡◌ {A = Status} NotProved Words = sym wrong ∙ same in cc

-- what is found isn't refused
pub done_no_refusal : (status : Status) → (status ≡ Done) ⊎ (status ≡ NotProved) → status ≢ Refused
done_no_refusal status (inl done) same = let e : ◌≡◌ {A = Status} Done Refused = sym done ∙ same in cc
done_no_refusal status (inr wrong) same = let e : ◌≡◌ {A = Status} NotProved Refused = sym wrong ∙ same in cc
