-- What is remarked of the entrants of a task among one another, and of recordings that none names.
use Rattle.std.specs.Prelude.{ℕ, ◌*◌, ◌-◌, nat_le, nat_lt, ◌&&◌, not, codes, ◌++◌, Bool, if◌then◌else◌, length, List, [], ◌∷◌, drop, map, Option, None, Some}
use Rattle.std.specs.Char.{to_ascii_lowercase}
use Rattle.std.specs.List.{flat_map, list_any}
use Rattle.gl_task.specs.declared.task.Entrant.{Entrant}
use Rattle.gl_text.specs.Forms.{is_text}
use Rattle.gl_look.specs.Keys.{told_if}
use Rattle.gl_look.specs.declared.told.Slip as code_slip
use Rattle.gl_look.specs.declared.told.Slip.TheVariants as slip
use Rattle.gl_look.specs.declared.told.Subject.TheVariants as subject
use Rattle.gl_look.specs.declared.told.Told.{Told}

-- an entrant has a file
abbrev pub has_file : List ℕ → Entrant → Bool
has_file file entrant = is_text entrant.file file

-- of each entrant whose file one behind him has as well
abbrev pub shared_told : List Entrant → List Told
shared_told [] = []
shared_told (entrant ∷ others) =
    told_if (subject.Entrant entrant.number)
    (if list_any (has_file entrant.file) others then Some slip.Shared else None)
    ++ shared_told others

-- one handicap is more than one and a half times another
abbrev pub is_far : Entrant → Entrant → Bool
is_far great small = nat_lt (3 * small.handicap) (2 * great.handicap)

abbrev pub are_far : List Entrant → Bool
are_far entrants = list_any (λ great. list_any (is_far great) entrants) entrants

abbrev pub handicaps_told : List Entrant → List Told
handicaps_told entrants =
    told_if subject.Task (if are_far entrants then Some slip.Handicaps else None)

-- a name ends in .igc, in small letters or capitals
abbrev pub is_igc : List ℕ → Bool
is_igc name =
    nat_le 4 (length name)
    && is_text (map to_ascii_lowercase (drop (length name - 4) name)) (codes ".igc")

-- a recording that no entrant names
abbrev pub slip_of_name : List Entrant → List ℕ → Option code_slip.Slip
slip_of_name entrants name =
    if is_igc name && not (list_any (has_file name) entrants) then Some slip.Unnamed else None

abbrev pub unnamed_told : List Entrant → List (List ℕ) → List Told
unnamed_told entrants names =
    flat_map (λ name. told_if (subject.File name) (slip_of_name entrants name)) names
