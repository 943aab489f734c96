-- Names of files have no LF.
use Rattle.std.proofs.Common.{◌≡◌, true}
use Rattle.gl_words.specs.Words.{ReplayWords, NearWords, BadgeWords}
use Rattle.gl_text.proofs.Forms.{is_unbroken}

-- the names of the files of `replay` have no LF
pub record HasUnbrokenFiles (words : ReplayWords) : Type 0 where
  pub flight : is_unbroken words.flight ≡ true
  pub schedule : is_unbroken words.schedule ≡ true

-- nor have those of `near`
pub record HasUnbrokenNear (words : NearWords) : Type 0 where
  pub flight : is_unbroken words.flight ≡ true
  pub other : is_unbroken words.other ≡ true
  pub proof : is_unbroken words.proof ≡ true

-- nor have those of `badge`
pub record HasUnbrokenBadge (words : BadgeWords) : Type 0 where
  pub flight : is_unbroken words.flight ≡ true
  pub proof : is_unbroken words.proof ≡ true
