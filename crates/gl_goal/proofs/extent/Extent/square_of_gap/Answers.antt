use Rattle.std.proofs.Common.{◌≡◌, ◌*◌, ◌≤ℤ◌, ◌-ℤ◌, pos, to_z, of_z, w32, ap, ◌∙◌, arith}
use Rattle.std.specs.Prelude.{unsigned_abs}
use Rattle.std.specs.Int.{int_max}
use Rattle.gl_goal.specs.Chords.{gap}
use Rattle.gl_goal.proofs.Gaps.{gap-natural, gap-is, gap-bound, square-bound}
use Rattle.gl_goal.proofs.Kept.{greater-kept, held-kept}
use Rattle.gl_goal.proofs.extent.Extent.square_of_gap.Goals as goal
use Rattle.gl_goal.proofs.extent.Extent.square_of_gap.Goals.{After-max-gap}

-- the machine's number is the greater difference, or 0
greater-is : (c : After-max-gap) → to_z w32 (of_z w32 c.max.result) ≡ int_max (c.args.other.lo -ℤ c.args.self.hi) (c.args.self.lo -ℤ c.args.other.hi)
greater-is c =
    let one = c.args.self in
    let other = c.args.other in
    greater-kept other.lo one.hi one.lo other.hi c.max.result other.lo_in_range one.hi_in_range one.lo_in_range other.hi_in_range c.max.ensures.value

least-is : (c : After-max-gap) → to_z w32 (of_z w32 c.max-gap.result) ≡ int_max (to_z w32 (of_z w32 c.max.result)) (pos 0)
least-is c = held-kept c.max-gap.result c.max-gap.type_inv ∙ c.max-gap.ensures.value

natural : (c : After-max-gap) → pos 0 ≤ℤ to_z w32 (of_z w32 c.max-gap.result)
natural c =
    gap-natural c.args.self.lo c.args.self.hi c.args.other.lo c.args.other.hi _ _ (greater-is c) (least-is c)

is-gap : (c : After-max-gap) → unsigned_abs (to_z w32 (of_z w32 c.max-gap.result)) ≡ gap (c.args.self.lo, c.args.self.hi) (c.args.other.lo, c.args.other.hi)
is-gap c =
    gap-is c.args.self.lo c.args.self.hi c.args.other.lo c.args.other.hi _ _ (greater-is c) (least-is c)

pub returns-clause-value : goal.returns-clause-value
returns-clause-value c = ap (λ n. n * n) (is-gap c)

pub returns-clause-bound : goal.returns-clause-bound
returns-clause-bound c =
    let one = c.args.self in
    let other = c.args.other in
    let bound = gap-bound one.lo one.hi other.lo other.hi one.lo_in_range one.hi_in_range other.lo_in_range other.hi_in_range in
    square-bound _ (omega (arith, is-gap c, bound))
