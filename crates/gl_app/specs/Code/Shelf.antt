-- A folder in memory on which `demo` works, as a desk.
use Rattle.std.specs.Prelude.{ℕ, List, Some}
use Rattle.gl_app.specs.declared.shelf.Shelf.{Shelf}
use Rattle.gl_desk.specs.Desk.{FilesByName, AppendedByName, Told}
use Rattle.gl_desk.specs.MemDesk.{files_of, said_to, outputs_of}

-- the shelf's files, what was said to it, and what was appended under each name
abbrev pub folder_on : Shelf → FilesByName
folder_on shelf = files_of shelf.desk

abbrev pub said_on : Shelf → List ℕ
said_on shelf = said_to shelf.desk

abbrev pub outputs_on : Shelf → AppendedByName
outputs_on shelf = outputs_of shelf.desk

-- a shelf tells everything, and that nothing outside ever failed
abbrev pub told_on : Shelf → Told
told_on shelf = record {
  folder = Some (folder_on shelf);
  said = Some (said_on shelf);
  outputs = Some (outputs_on shelf);
  faults = 0;
}
