-- Names of files of a day have no LF.
use Rattle.std.proofs.Common.{◌≡◌, true}
use Rattle.gl_text.proofs.Forms.{is_unbroken}
use Rattle.gl_words.specs.DayWords.{DayNames}

-- the names of the files of a day have no LF
pub record AreUnbroken (names : DayNames) : Type 0 where
  pub task : is_unbroken names.task ≡ true
  pub proof : is_unbroken names.proof ≡ true
