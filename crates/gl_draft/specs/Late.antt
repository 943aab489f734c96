-- The entrants of recordings that no entrant of a task file names.
use Rattle.std.specs.Prelude.{◌≡◌, ℕ, not, List, length, drop, filter, map, Bool, Some}
use Rattle.std.specs.List.{list_any}
use Rattle.gl_task.specs.declared.task.Entrant as task_entrant
use Rattle.gl_text.specs.Forms.{is_text}
use Rattle.gl_draft.specs.declared.entrant.Entrant.{Entrant}
use Rattle.gl_draft.specs.declared.line.Line.{Line}
use Rattle.gl_draft.specs.declared.recording.Recording.{Recording}
use Rattle.gl_draft.specs.Draft.{entrants_lines}
use Rattle.gl_draft.specs.Line.{is_spoken, marked_text}
use Rattle.gl_draft.specs.Recordings.{entrants_behind}

-- an entrant of a task file
abbrev pub known_entrant : task_entrant.Entrant → Entrant
known_entrant e = record { number = Some e.number; name = e.name; file = e.file }

-- a recording that no entrant of a task file names
abbrev pub is_named : Recording → task_entrant.Entrant → Bool
is_named r e = is_text e.file r.file

abbrev pub is_late : List task_entrant.Entrant → Recording → Bool
is_late entrants r = not (list_any (is_named r) entrants)

-- the entrants of recordings behind those of a task file: a number that one of these or an earlier
-- one has is left to fill in
abbrev pub late_entrants : List task_entrant.Entrant → List Recording → List Entrant
late_entrants entrants late =
    drop (length entrants) (entrants_behind (map known_entrant entrants) late)

-- the tables of late recordings, with remarks between their lines
pub record IsLateText (entrants : List task_entrant.Entrant) (late : List Recording)
    (text : List ℕ) : Type 0 where
  pub lines : List Line
  pub says : filter is_spoken lines ≡ entrants_lines 0 (late_entrants entrants late)
  pub spelled : text ≡ marked_text lines
