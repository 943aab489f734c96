use Rattle.std.proofs.Common.{◌≡◌, arith, subst, List, ℤ, w32, to_z, of_z}
use Rattle.std.proofs.lemmas.Int.{ints, to_z-of_z}
use Rattle.gl_judge.specs.Starts.{IsAnnounced}
use Rattle.gl_why.proofs.crossing.legality_of.Goals as goal

pub returns-then-is_announced : goal.returns-then-is_announced
returns-then-is_announced c =
    let whole : to_z w32 (of_z w32 c.args.time) ≡ c.args.time = to_z-of_z w32 c.args.time c.ranges.time in
    record {
      crossed = c.requires;
      opened = grind (arith, ints);
      not_closed = grind (arith, ints);
      announced = subst (λ (events : List ℤ). IsAnnounced c.args.start.now.pilot events c.args.time) c.as_slice.ensures
          (subst (λ (time : ℤ). IsAnnounced c.args.start.now.pilot c.as_slice.result.now time) whole (c.is_announced.ensures.0 c.if-is_announced.true));
    }
