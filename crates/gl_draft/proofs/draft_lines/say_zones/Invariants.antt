use Rattle.std.proofs.Common.{◌≡◌, ◌++◌, take}
use Rattle.std.specs.List.{flat_map}
use Rattle.gl_draft.specs.Draft.{zone_lines}
use Rattle.gl_draft.proofs.draft_lines.say_zones.Given as goal

abbrev pub invariant-zones : goal.invariant-zones
invariant-zones l = l.lines ≡ l.initial.lines ++ flat_map zone_lines (take l.n l.zones)
