use Rattle.std.proofs.Common.{◌≡◌, ℕ, ap, ◌∙◌, arith}
use Rattle.gl_sphere.specs.Distance.{floor_root, arc_over, written_distance}
use Rattle.gl_sphere.proofs.Arcs.{written_distance-mono}
use Rattle.gl_sphere.proofs.distance.dist.Goals as goal

value_of : (q c r : ℕ) → c ≡ floor_root q → r ≡ arc_over c → r ≡ written_distance q
unfolding written_distance
value_of q c r root_is arc_is = arc_is ∙ ap arc_over root_is

pub returns-clause-value : goal.returns-clause-value
returns-clause-value c = value_of c.args.q c.root.result c.arc.result c.root.ensures.value c.arc.ensures.value

pub returns-clause-from_below : goal.returns-clause-from_below
returns-clause-from_below c =
    λ r h. omega (arith, returns-clause-value c, written_distance-mono r c.args.q h)

pub returns-clause-to_above : goal.returns-clause-to_above
returns-clause-to_above c =
    λ r h. omega (arith, returns-clause-value c, written_distance-mono c.args.q r h)
