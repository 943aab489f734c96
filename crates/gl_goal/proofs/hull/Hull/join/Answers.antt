use Rattle.std.proofs.Common.{◌≡◌, to_z, of_z, w32}
use Rattle.std.specs.Int.{int_min, int_max}
use Rattle.gl_goal.proofs.Ends.{AreEnds-join, joined-ordered, lower-bound, upper-bound}
use Rattle.gl_goal.proofs.Kept.{altitude-within, higher-kept, lower-kept}
use Rattle.gl_goal.proofs.hull.Hull.join.Goals as goal
use Rattle.gl_goal.proofs.hull.Hull.join.Goals.{After-max}

alt_lo-is : (c : After-max) → to_z w32 (of_z w32 c.min.result) ≡ int_min c.args.self.now.alt_lo c.args.other.now.alt_lo
alt_lo-is c =
    let one = c.args.self.now in
    let other = c.args.other.now in
    lower-kept one.alt_lo other.alt_lo c.min.result (altitude-within _ _ one.lowest one.alt_ordered one.highest).0
    (altitude-within _ _ other.lowest other.alt_ordered other.highest).0 c.min.ensures.value

alt_hi-is : (c : After-max) → to_z w32 (of_z w32 c.max.result) ≡ int_max c.args.self.now.alt_hi c.args.other.now.alt_hi
alt_hi-is c =
    let one = c.args.self.now in
    let other = c.args.other.now in
    higher-kept one.alt_hi other.alt_hi c.max.result (altitude-within _ _ one.lowest one.alt_ordered one.highest).1
    (altitude-within _ _ other.lowest other.alt_ordered other.highest).1 c.max.ensures.value

pub invariant_of-result : goal.invariant_of-result
invariant_of-result c =
    let one = c.args.self.now in
    let other = c.args.other.now in
    record {
      x_ordered = joined-ordered _ _ _ _ _ _ one.x_ordered c.lower.ensures.x c.higher.ensures.x;
      y_ordered = joined-ordered _ _ _ _ _ _ one.y_ordered c.lower.ensures.y c.higher.ensures.y;
      z_ordered = joined-ordered _ _ _ _ _ _ one.z_ordered c.lower.ensures.z c.higher.ensures.z;
      alt_ordered = joined-ordered _ _ _ _ _ _ one.alt_ordered (alt_lo-is c) (alt_hi-is c);
      lowest = lower-bound _ _ _ _ one.lowest other.lowest (alt_lo-is c);
      highest = upper-bound _ _ _ _ one.highest other.highest (alt_hi-is c);
    }

pub returns : goal.returns
returns c =
    λ fixes more h k. record {
      x = AreEnds-join (λ fix. fix.at.x) _ _ _ fixes more c.lower.ensures.x c.higher.ensures.x h.x k.x;
      y = AreEnds-join (λ fix. fix.at.y) _ _ _ fixes more c.lower.ensures.y c.higher.ensures.y h.y k.y;
      z = AreEnds-join (λ fix. fix.at.z) _ _ _ fixes more c.lower.ensures.z c.higher.ensures.z h.z k.z;
      alt = AreEnds-join (λ fix. fix.alt) _ _ _ fixes more (alt_lo-is c.before) (alt_hi-is c.before) h.alt k.alt;
    }
