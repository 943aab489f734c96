-- How the files of a desk in memory come and grow.
use Rattle.std.specs.Prelude.{ℕ, List, [], ◌++◌, map, Option, None, Some, Vec}
use Rattle.std.specs.declared.alloc.Global.{Global}
use Rattle.gl_desk.specs.MemDesk.{StoredFile}

-- the files that a desk is given, by their names
abbrev pub given_files : List (List ℕ × Vec ℕ Global) → List (List ℕ × StoredFile)
given_files files = map (λ file. (file.0, (file.1.items, []))) files

-- the file with the piece appended; one that isn't there is made
abbrev pub with_piece : Option StoredFile → List ℕ → StoredFile
with_piece None piece = ([], piece)
with_piece (Some file) piece = (file.0, file.1 ++ piece)
