-- What is said of a proof by the files of a day.
use Rattle.std.specs.Prelude.{◌≡◌, List, [], ◌∷◌, ◌++◌, Option}
use Rattle.gl_desk.specs.Desk.{FilesByName}
use Rattle.gl_proof.specs.Claim.{Statement}
use Rattle.gl_task.specs.declared.task.Entrant.{Entrant}
use Rattle.gl_day.specs.declared.fault.Checked.{Checked}
use Rattle.gl_day.specs.declared.fault.Checked.TheVariants.{Refused}
use Rattle.gl_day.specs.declared.fault.NotProved.{NotProved}
use Rattle.gl_day.specs.Checked.{IsChecked, IsNotProved}
use Rattle.gl_day_files.specs.declared.day_files.DayFiles.{DayFiles}
use Rattle.gl_day_claims.specs.Asked.{AreAsked}
use Rattle.gl_day.specs.Expected.{Expected}

-- what is said of a proof by the claims that are expected of some entrants: where others follow, a
-- claim is wrong; else the proof has exactly these claims, or doesn't
abbrev pub IsSaidBehind : List Entrant → List Expected → List Statement → Checked → Type 0
IsSaidBehind [] expected statements said = IsChecked expected statements said
IsSaidBehind (entrant ∷ others) expected statements said =
    (wrong : NotProved) × (said ≡ Refused wrong) × IsNotProved expected statements wrong

-- What is said of a proof by the files of a folder: the claims are compared entrant by entrant, up
-- to the first that is wrong.
pub record IsDayChecked (folder : Option FilesByName) (day : DayFiles)
    (statements : List Statement) (said : Checked) : Type 0 where
  pub entrants : List Entrant
  pub others : List Entrant
  pub are : day.task.entrants ≡ entrants ++ others
  pub expected : List Expected
  pub asked : AreAsked folder day.task day.airspace entrants expected
  pub is : IsSaidBehind others expected statements said
