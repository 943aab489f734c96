use Rattle.std.specs.Prelude.{ℕ, List, ◌∷◌, map, Vec}
use Rattle.std.specs.List.{range_with_len}
use Rattle.std.specs.declared.alloc.Global.{Global}
use Rattle.gl_demo.specs.Draws.{after}
use Rattle.gl_demo.specs.Recording.{draws_before, recording_name, recording_text}
use Rattle.gl_demo.specs.Task.{task_file_name, task_text}

-- files by their names and bytes
abbrev pub named : List (List ℕ × Vec ℕ Global) → List (List ℕ × List ℕ)
named files = map (λ file. (file.0, file.1.items)) files

-- an entrant's file of the day of a number
abbrev pub entrant_file : ℕ → ℕ → List ℕ × List ℕ
entrant_file number entrant =
    (recording_name entrant, recording_text entrant (after (draws_before entrant) number))

-- the files of the day of a number: the task, and the recordings of entrants 0 to 3
unfoldable pub generated_files : ℕ → List (List ℕ × List ℕ)
generated_files number =
    (task_file_name, task_text) ∷ map (entrant_file number) (range_with_len 0 4)
