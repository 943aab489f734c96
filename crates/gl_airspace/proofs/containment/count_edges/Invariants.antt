use Rattle.std.proofs.Common.{◌≡◌, ◌+◌, ◌≤◌, drop}
use Rattle.std.specs.Prelude.{count_by}
use Rattle.gl_airspace.specs.Inside.{counts, edges_from}
use Rattle.gl_airspace.proofs.containment.count_edges.Given as goal

-- the edges that were counted and those that are left are all of them
abbrev pub invariant-loop-to : goal.invariant-loop-to
invariant-loop-to l = record {
  parted :
      l.count + count_by (counts l.place) (edges_from l.from (drop l.to-index l.corners))
      ≡ count_by (counts l.place) (edges_from l.fn.corner l.corners);
  within : l.count ≤ l.to-index;
}
