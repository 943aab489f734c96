use Rattle.std.proofs.Common.{◌≡◌, ◌-◌}
use Rattle.std.specs.Prelude.{option_map}
use Rattle.gl_igc.specs.Extension.{extension_of, groups_of}
use Rattle.gl_igc.specs.Parts.{extension_view}
use Rattle.gl_igc.proofs.GroupLemmas.{with_groups}
use Rattle.gl_igc.proofs.groups.read_groups.Given as goal

-- the fields so far, and then those of the groups that are left
abbrev pub invariant-loop-group : goal.invariant-loop-group
invariant-loop-group l = option_map (with_groups (extension_view l.fields)) (groups_of (l.count - l._group) l.rest) ≡ option_map extension_of (groups_of l.count l.text)
