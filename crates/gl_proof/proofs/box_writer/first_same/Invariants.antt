use Rattle.std.proofs.Common.{◌≡◌, ◌≤◌, drop, length}
use Rattle.gl_proof.proofs.box_writer.first_same.Given as goal

-- the spans from the first one on are the same
abbrev pub invariant-axes : goal.invariant-axes
invariant-axes l = record {
  within : l.first ≤ length l.others;
  same : drop l.first l.spans ≡ drop l.first l.others;
}

abbrev pub decreases-axes : goal.decreases-axes
decreases-axes l = l.first
