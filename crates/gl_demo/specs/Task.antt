use Rattle.std.specs.Prelude.{ℕ, List, [], ◌∷◌, ◌++◌, codes}
use Rattle.std.specs.List.{flat_map}

-- the name of the task's file
abbrev pub task_file_name : List ℕ
task_file_name = codes "DAY.TOML"

-- the lines of the task
abbrev pub task_lines : List (List ℕ)
task_lines =
    codes "date = \"2024-07-01\"" ∷ codes "kind = \"area\"" ∷ codes "minimum = 14400" ∷
    codes "closes = 72000" ∷ [] ∷
    codes "[start]" ∷ codes "at = \"4800000N01100000E\"" ∷
    codes "towards = \"4840000N01130000E\"" ∷ codes "half = 5000" ∷ codes "open = 36000" ∷
    codes "close = 43200" ∷ [] ∷
    codes "[[zone]]" ∷ codes "at = \"4840000N01130000E\"" ∷ codes "[[zone.part]]" ∷
    codes "radius = 20000" ∷ [] ∷
    codes "[[zone]]" ∷ codes "at = \"4820000N01220000E\"" ∷ codes "[[zone.part]]" ∷
    codes "radius = 20000" ∷ [] ∷
    codes "[finish]" ∷ codes "at = \"4800000N01100000E\"" ∷ codes "ring = 3000" ∷ [] ∷
    codes "[[entrant]]" ∷ codes "number = \"D0\"" ∷ codes "name = \"Demo 0\"" ∷
    codes "handicap = 1000" ∷ codes "file = \"D0.IGC\"" ∷ [] ∷
    codes "[[entrant]]" ∷ codes "number = \"D1\"" ∷ codes "name = \"Demo 1\"" ∷
    codes "handicap = 1020" ∷ codes "file = \"D1.IGC\"" ∷ [] ∷
    codes "[[entrant]]" ∷ codes "number = \"D2\"" ∷ codes "name = \"Demo 2\"" ∷
    codes "handicap = 1040" ∷ codes "file = \"D2.IGC\"" ∷ [] ∷
    codes "[[entrant]]" ∷ codes "number = \"D3\"" ∷ codes "name = \"Demo 3\"" ∷
    codes "handicap = 1060" ∷ codes "file = \"D3.IGC\"" ∷ []

-- the task, each line with LF
unfoldable pub task_text : List ℕ
task_text = flat_map (λ line. line ++ 10 ∷ []) task_lines
