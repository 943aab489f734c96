use Rattle.std.proofs.Common.{◌≡◌, ◌*◌, ◌≤ℤ◌, ◌-ℤ◌, pos, to_z, of_z, w32, ap, arith}
use Rattle.std.specs.Prelude.{unsigned_abs}
use Rattle.std.specs.Int.{int_max}
use Rattle.std.proofs.lemmas.Int.{ints}
use Rattle.gl_goal.specs.Chords.{reach}
use Rattle.gl_goal.proofs.Gaps.{reach-natural, reach-is, reach-bound, square-bound}
use Rattle.gl_goal.proofs.Kept.{greater-kept}
use Rattle.gl_goal.proofs.extent.Extent.square_of_reach.Goals as goal
use Rattle.gl_goal.proofs.extent.Extent.square_of_reach.Goals.{After-max-reach}

-- the machine's number is the greater difference
greater-is : (c : After-max-reach) → to_z w32 (of_z w32 c.max-reach.result) ≡ int_max (c.args.self.hi -ℤ c.args.other.lo) (c.args.other.hi -ℤ c.args.self.lo)
greater-is c =
    let one = c.args.self in
    let other = c.args.other in
    greater-kept one.hi other.lo other.hi one.lo c.max-reach.result one.hi_in_range other.lo_in_range other.hi_in_range one.lo_in_range c.max-reach.ensures.value

natural : (c : After-max-reach) → pos 0 ≤ℤ to_z w32 (of_z w32 c.max-reach.result)
natural c = reach-natural _ _ _ _ _ c.args.self.ordered c.args.other.ordered (greater-is c)

is-reach : (c : After-max-reach) → unsigned_abs (to_z w32 (of_z w32 c.max-reach.result)) ≡ reach (c.args.self.lo, c.args.self.hi) (c.args.other.lo, c.args.other.hi)
is-reach c = reach-is _ _ _ _ _ c.args.self.ordered c.args.other.ordered (greater-is c)

pub overflow_cast-reach : goal.overflow_cast-reach
overflow_cast-reach c = let n = natural c in grind (arith, ints)

pub returns-clause-value : goal.returns-clause-value
returns-clause-value c = ap (λ n. n * n) (is-reach c)

pub returns-clause-bound : goal.returns-clause-bound
returns-clause-bound c =
    let one = c.args.self in
    let other = c.args.other in
    let bound = reach-bound one.lo one.hi other.lo other.hi one.lo_in_range one.hi_in_range other.lo_in_range other.hi_in_range in
    square-bound _ (omega (arith, is-reach c, bound))
