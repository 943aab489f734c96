-- What the code finds of a flight's window, and of a claim.
use Rattle.std.specs.Prelude.{Option, None, Some, IsSomeAnd, ◌<◌, ◌≤◌, List, length}
use Rattle.gl_igc.specs.declared.fix.Fix.{Fix}
use Rattle.gl_proof.specs.Claim.{Statement}
use Rattle.gl_day.specs.Checked.{IsFaultAt}
use Rattle.gl_day.specs.Expected.{Expected, Proves}
use Rattle.gl_day.specs.declared.fault.Fault.{Fault}
use Rattle.gl_judge.specs.declared.outcome.Judged.{Judged}
use Rattle.gl_judge.specs.declared.outcome.Judged.TheVariants as judged
use Rattle.gl_judge.specs.declared.outcome.Window.{Window}

-- what is wrong there, or the claim is proved
abbrev pub IsFoundAt : Expected → Option Statement → Option Fault → Type 0
IsFoundAt expected there None = IsSomeAnd there (Proves expected)
IsFoundAt expected there (Some fault) = IsFaultAt expected there fault

-- a fact of the window of a flight, if it has one
abbrev pub OnWindow : Judged → (Window → Type 0) → Type 0
OnWindow (judged.Finished window seconds) fact = fact window
OnWindow (judged.Outlanded window zones) fact = fact window
OnWindow judged.NoStart fact = Unit {0}

-- a window lies within fixes
pub record IsWindowOf (fixes : List Fix) (window : Window) : Type 0 where
  pub ordered : window.first ≤ window.last
  pub within : window.last < length fixes
