use Rattle.std.proofs.Common.{◌≡◌, map, take}
use Rattle.gl_judge.specs.Choices.{zone_lists}
use Rattle.gl_judge.proofs.zone_lists.zone_lists.Given as goal

abbrev pub invariant-loop-zone : goal.invariant-loop-zone
invariant-loop-zone l =
    map (λ list. list.items) l.lists.items ≡ zone_lists l.fixes (take l.zone-index l.zones) l.fn.stretch.from l.fn.stretch.to
