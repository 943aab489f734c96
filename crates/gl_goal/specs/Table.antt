-- What a table of hulls keeps.
use Rattle.std.specs.Prelude.{◌≡◌, ◌*◌, ◌≤◌, List, length, All}
use Rattle.gl_box.specs.Cell.{ends}
use Rattle.gl_igc.specs.declared.fix.Fix.{Fix}
use Rattle.gl_goal.specs.Box.{IsLeastBox, fixes_in}
use Rattle.gl_goal.specs.Hull.{box_of}
use Rattle.gl_goal.specs.declared.entry.Entry.{Entry}

-- an entry has the hull of the fixes of its own span
abbrev pub IsEntry : List Fix → Entry → Type 0
IsEntry fixes entry = IsLeastBox (box_of entry.hull) (fixes_in fixes (ends entry.span))

-- a table has two entries for each fix, of which there are at most 90,000
pub record IsTable (fixes : List Fix) (table : List Entry) : Type 0 where
  pub most : length fixes ≤ 90_000
  pub sized : length table ≡ 2 * length fixes
  pub entries : All (IsEntry fixes) table
