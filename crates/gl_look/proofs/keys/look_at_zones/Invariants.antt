use Rattle.std.proofs.Common.{◌≡◌, ◌+◌, ◌++◌, length, map}
use Rattle.toml.specs.View.{view}
use Rattle.gl_look.specs.Keys.{each_told, zone_told}
use Rattle.gl_look.proofs.keys.look_at_zones.Given as goal

-- the remarks so far, and those of the rest
abbrev pub invariant-zones : goal.invariant-zones
invariant-zones l = record {
  all :
      l.remarks ++ each_told zone_told (l.n + 1) (map view l.rest)
      ≡ l.initial.remarks ++ each_told zone_told 1 (map view l.values);
  number : l.n + length l.rest ≡ length l.values;
}

abbrev pub decreases-zones : goal.decreases-zones
decreases-zones l = length l.rest
