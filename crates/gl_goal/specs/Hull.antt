use Rattle.gl_goal.specs.declared.hull.Hull.{Hull}
use Rattle.gl_goal.specs.Box.{Box}

-- the box of a hull
abbrev pub box_of : Hull → Box
box_of hull = record {
  x = (hull.lo.x, hull.hi.x);
  y = (hull.lo.y, hull.hi.y);
  z = (hull.lo.z, hull.hi.z);
  alt = (hull.alt_lo, hull.alt_hi);
}
