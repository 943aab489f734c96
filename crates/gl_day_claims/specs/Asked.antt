-- Which claims a proof has to have, by what is seen of the entrants' files.
use Rattle.std.specs.Prelude.{◌≡◌, List, [], ◌∷◌, ◌++◌, Option}
use Rattle.gl_airspace.specs.declared.volume.Airspace.{Airspace}
use Rattle.gl_desk.specs.Desk.{FilesByName}
use Rattle.gl_task.specs.declared.task.Entrant.{Entrant}
use Rattle.gl_task.specs.declared.task.Task.{Task}
use Rattle.gl_day.specs.Asked.{AreAskedOf}
use Rattle.gl_day_files.specs.DayFiles.{Sees}
use Rattle.gl_day.specs.Expected.{Expected}

-- those of an entrant, by the file in a folder
abbrev pub AreAskedIn : Option FilesByName → Task → Airspace → Entrant → List Expected → Type 0
AreAskedIn folder task air entrant claims =
    Sees folder entrant.file (λ seen. AreAskedOf task air entrant seen claims)

-- those of some entrants, one entrant after the other
abbrev pub AreAsked : Option FilesByName → Task → Airspace → List Entrant → List Expected → Type 0
AreAsked folder task air [] claims = claims ≡ []
AreAsked folder task air (entrant ∷ entrants) claims =
    (first : List Expected) × (rest : List Expected)
    × AreAskedIn folder task air entrant first × AreAsked folder task air entrants rest
    × (claims ≡ first ++ rest)
