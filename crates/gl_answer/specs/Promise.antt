-- What a command is to a run: its promise.
use Rattle.std.specs.Prelude.{◌≡◌, ℕ, List, Option, None, Some}
use Rattle.gl_desk.specs.Desk.{FilesByName}
use Rattle.gl_answer.specs.declared.status.Status.TheVariants.{Words}
use Rattle.gl_answer.specs.Answer.{Answer, saying}
use Rattle.gl_answer.specs.Texts.{usage_line}

-- What a command promises, by what a folder has and by the rules of the stewards. A command's own
-- file says its promise.
pub record Promise : Type 1 where
  -- the answer is right for what the tests of the command saw, and where the desk tells its folder,
  -- that is what the folder has
  pub IsRight : Answer → Type 0
  -- a run that is stopped on its way has appended this text, which is a first part of that of a
  -- right answer
  pub IsBegun : List ℕ → Type 0
  -- the desk tells its folder, and its files pass every test
  pub Passes : Type 0
  -- the desk tells its folder, and a command of this program wrote the proof that is checked
  pub ChecksOwn : Type 0
  -- the file that is appended to, if one is
  pub target : Option (List ℕ)

-- the desk tells its folder, whose files meet a fact
abbrev pub IsTold : Option FilesByName → (FilesByName → Type 0) → Type 0
IsTold None Fact = ⊥
IsTold (Some files) Fact = Fact files

-- the promise of a command that appends nothing and checks no proof
abbrev pub reading : (Answer → Type 0) → Type 0 → Promise
reading IsRight Passes = record {
  IsRight = IsRight;
  IsBegun = λ text. ⊥;
  Passes = Passes;
  ChecksOwn = ⊥;
  target = None;
}

-- words of no form promise the usage line
abbrev pub no_command : Promise
no_command = reading (λ answer. answer ≡ saying Words usage_line) ⊥
