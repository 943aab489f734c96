-- What a search answers.
use Rattle.std.specs.Prelude.{◌≡◌, ℕ, List, All, map}
use Rattle.gl_box.specs.declared.closed.Why.{Why}
use Rattle.gl_box.specs.Along.{boxes_along}
use Rattle.gl_box.specs.Cell.{Holds}
use Rattle.gl_box.specs.Frontier.{mult}
use Rattle.gl_box.specs.Turns.{reason_of}
use Rattle.gl_goal.specs.Goal.{Goal, whole_cell}
use Rattle.gl_goal.specs.Certificate.{IsCertificate}
use Rattle.gl_plain.specs.declared.found.Found.{Found}
use Rattle.gl_goal.specs.Best.{fixes_of, total_of}
use Rattle.gl_plain.specs.Search.{IsNeeded}

-- its boxes, each with its reason
abbrev pub boxes_of : Found → List (List (ℕ × ℕ) × Why)
boxes_of found = boxes_along reason_of found.closed

-- they certify the total and the fixes that were found
abbrev pub IsCertified : Goal → Found → Type 0
IsCertified goal found =
    IsCertificate goal (total_of found.best) (fixes_of goal found.best) (boxes_of found)

-- each is the whole cell, or a half of a node that had to be cut
abbrev pub AreNeeded : Goal → Found → Type 0
AreNeeded goal found = All (λ box. IsNeeded goal box.0) (boxes_of found)

-- each tuple of the whole cell lies in exactly one of them
abbrev pub HoldsEachOnce : Goal → Found → Type 0
HoldsEachOnce goal found = (tuple : List ℕ) → Holds (whole_cell goal.axes) tuple
    → mult (map (λ box. box.0) (boxes_of found)) tuple ≡ 1
