-- An answer by the tests of a command's files.
use Rattle.std.specs.Prelude.{◌≡◌, ◌⊎◌, List, Option, Some}
use Rattle.gl_desk.specs.Desk.{FilesByName}
use Rattle.gl_answer.specs.declared.refusal.Refusal.{Refusal}
use Rattle.gl_answer.specs.FileTests.{FileTest, AllPass, FirstFails}
use Rattle.gl_answer.specs.Answer.{Answer, refused}
use Rattle.gl_answer.specs.Promise.{IsTold}

-- An answer by what was seen: where all tests pass it is one that the files then give, else it is
-- the line of the first that fails.
abbrev pub IsByTests : {Seen : Type 0} → (Seen → Type 0) → (Seen → List FileTest)
    → (Seen → Answer → Type 0) → Answer → Type 0
IsByTests IsSeen tests Gives answer = (seen : _) × IsSeen seen
    × ((AllPass (tests seen) × Gives seen answer)
    ⊎ ((refusal : Refusal) × FirstFails (tests seen) refusal
    × (answer ≡ refused refusal.file refusal.cause)))

-- whatever is seen in a folder that is told passes the tests
abbrev pub PassByTests : {Seen : Type 0} → Option FilesByName
    → (Option FilesByName → Seen → Type 0) → (Seen → List FileTest) → Type 0
PassByTests folder IsSeen tests =
    IsTold folder (λ files. (seen : _) → IsSeen (Some files) seen → AllPass (tests seen))
