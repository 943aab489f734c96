use Rattle.std.proofs.Common.{◌≡◌, ◌+◌, ◌++◌, length, map}
use Rattle.toml.specs.View.{view}
use Rattle.gl_look.specs.Keys.{each_told, item_told}
use Rattle.gl_look.proofs.keys.look_at_items.Given as goal

-- the remarks so far, and those of the rest
abbrev pub invariant-items : goal.invariant-items
invariant-items l = record {
  all :
      l.remarks ++ each_told (item_told l.section l.item) (l.n + 1) (map view l.rest)
      ≡ l.initial.remarks ++ each_told (item_told l.section l.item) 1 (map view l.values);
  number : l.n + length l.rest ≡ length l.values;
}

abbrev pub decreases-items : goal.decreases-items
decreases-items l = length l.rest
