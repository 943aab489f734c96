-- What is no text of a proof, and what is told of it.
use Rattle.std.specs.Prelude.{ℕ, List, ⊤}
use Rattle.gl_proof.specs.declared.error.ProofError.{ProofError}
use Rattle.gl_proof.specs.declared.error.ProofError.TheVariants.{Heading, Line as WrongLine, Cut, Memory}
use Rattle.gl_proof.specs.LineRefusal.{IsHeadless, IsRefusal}
use Rattle.gl_proof.specs.declared.version.Version.{Version}
use Rattle.gl_proof.specs.Line.{proof_grammar}

-- What an error tells of a text: that it begins with the heading of no version; or else what is
-- wrong
-- by the version that its heading tells. Want of memory tells nothing.
abbrev pub IsRefused : List ℕ → ProofError → Type 0
IsRefused text Heading = (version : Version) → IsHeadless (proof_grammar version) text
IsRefused text (WrongLine told) =
    (version : Version) × IsRefusal (proof_grammar version) text (WrongLine told)
IsRefused text Cut = (version : Version) × IsRefusal (proof_grammar version) text Cut
IsRefused text Memory = ⊤
