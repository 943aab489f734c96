use Rattle.std.proofs.Common.{◌≡◌, ◌-◌, ◌<◌, ◌≤◌, true, false}
use Rattle.gl_draft.specs.Bearing.{radial_at, whole_turn}
use Rattle.gl_zone.specs.Zones.{is_clockwise}
use Rattle.gl_draft.proofs.angle.angle_between.Given as goal

-- the direction lies between the two radials
abbrev pub invariant-halvings : goal.invariant-halvings
invariant-halvings l = record {
  order : l.low < l.high;
  within : l.high ≤ whole_turn;
  reached : is_clockwise (radial_at l.low) (l.direction.north, l.direction.east) ≡ true;
  next : is_clockwise (radial_at l.high) (l.direction.north, l.direction.east) ≡ false;
}

abbrev pub decreases-halvings : goal.decreases-halvings
decreases-halvings l = l.high - l.low
