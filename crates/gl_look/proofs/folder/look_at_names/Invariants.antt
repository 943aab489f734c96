use Rattle.std.proofs.Common.{◌≡◌, ◌++◌, take}
use Rattle.gl_look.specs.Folder.{unnamed_told}
use Rattle.gl_look.proofs.folder.look_at_names.Given as goal

-- of the names so far
abbrev pub invariant-names : goal.invariant-names
invariant-names l = l.remarks ≡ l.initial.remarks ++ unnamed_told l.entrants (take l.name-index l.names)
