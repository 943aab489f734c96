-- The badge claims of a flight in a proof.
use Rattle.std.specs.Prelude.{ℕ, List, All}
use Rattle.std.specs.List.{AllZip}
use Rattle.gl_day.specs.declared.fault.Checked.{Checked}
use Rattle.gl_day.specs.Checked.{IsChecked}
use Rattle.gl_day.specs.Expected.{Proves}
use Rattle.gl_goal.specs.Goal.{Goal}
use Rattle.gl_igc.specs.declared.recording.Recording.{Recording}
use Rattle.gl_proof.specs.Claim.{IsStatement, Statement}
use Rattle.gl_badge.specs.declared.badge.Badge.{Badge}
use Rattle.gl_badge.specs.Claims.{AreBadgeClaims}
use Rattle.gl_badge.specs.Named.{expected_of}
use Rattle.gl_badge.specs.Text.{AreBadgeLines}

-- The three lines are those of the flight, and the statements, which have a text, prove its badge
-- claims, one each, in their order.
pub record IsBadgeFound (recording : Recording) (lines : List ℕ) (statements : List Statement)
    : Type 0 where
  pub said : AreBadgeLines recording lines
  pub claims : List (Badge × Goal)
  pub are : AreBadgeClaims recording claims
  pub proved : AllZip Proves (expected_of claims) statements
  pub written : All IsStatement statements

-- what is said of statements where the badge claims of a flight are expected
abbrev pub IsBadgeChecked : Recording → List Statement → Checked → Type 0
IsBadgeChecked recording statements said =
    (claims : List (Badge × Goal)) × AreBadgeClaims recording claims
    × IsChecked (expected_of claims) statements said
