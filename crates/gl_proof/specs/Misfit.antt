-- What is told of a single line.
use Rattle.std.specs.Prelude.{◌≡◌, ℕ, List, ⊤}
use Rattle.gl_proof.specs.declared.error.ProofError.{ProofError}
use Rattle.gl_proof.specs.declared.error.ProofError.TheVariants.{Heading, Line as WrongLine, Cut, Memory}
use Rattle.gl_proof.specs.LineRefusal.{HasLine}

-- the line at the front of a text, which has this number, can't stand there: it is wrong where it
-- is ended by LF, and cut else
abbrev pub IsMisfit : List ℕ → ℕ → ProofError → Type 0
IsMisfit text number Heading = ⊥
IsMisfit text number (WrongLine told) = HasLine text × (told ≡ number)
IsMisfit text number Cut = HasLine text → ⊥
IsMisfit text number Memory = ⊥

-- want of memory, or another fault
abbrev pub OrMemory : ProofError → Type 0 → Type 0
OrMemory Heading P = P
OrMemory (WrongLine told) P = P
OrMemory Cut P = P
OrMemory Memory P = ⊤
