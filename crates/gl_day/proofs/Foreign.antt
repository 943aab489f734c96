-- The text of a proof is no recording.
use Rattle.std.proofs.Common.{◌≡◌, refl, List, Option, ℤ}
use Rattle.std.specs.Prelude.{Err}
use Rattle.gl_text.specs.Lines.{lines_of}
use Rattle.gl_igc.specs.declared.error.IgcError.TheVariants.{NotIgc}
use Rattle.gl_igc.specs.Reading.{opening_of_line, reading_of_opening, recording_of, recording_of_lines}
use Rattle.gl_proof.specs.Claim.{Statement}
use Rattle.gl_proof.specs.Text.{proof_text}
use Rattle.gl_proof.specs.declared.version.Version.{Version}
use Rattle.gl_proof.specs.declared.version.Version.TheVariants.{One, Two}

-- its first line begins with G, and that of a recording with A
pub proof_is_no_recording : (version : Version) (statements : List Statement) (day : Option ℤ) → recording_of (proof_text version statements) day ≡ Err NotIgc
unfolding recording_of recording_of_lines reading_of_opening opening_of_line lines_of
proof_is_no_recording One statements day = refl
proof_is_no_recording Two statements day = refl
