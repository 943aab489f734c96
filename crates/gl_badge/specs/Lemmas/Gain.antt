-- The gain of height meets the laws of a goal.
use Rattle.std.proofs.Common.{◌≡◌, ◌∙◌, ap, refl, ℕ, zero, suc, ◌<◌, ◌≤◌, List, [], ◌∷◌, length, map, ℤ, pos, neg_ℤ, ◌≤ℤ◌, arith}
use Rattle.std.specs.Prelude.{All}
use Rattle.std.specs.List.{AllZip}
use Rattle.std.specs.List.Sorted.{IsStrictlyIncreasing}
use Rattle.std.proofs.lemmas.Int.{clamps, ints}
use Rattle.gl_igc.specs.declared.fix.Fix.{Fix}
use Rattle.gl_goal.specs.Box.{Box}
use Rattle.gl_goal.specs.Goal.{IsGoal, chosen}
use Rattle.gl_goal.specs.Chain.{fixes_at, last_of}
use Rattle.gl_goal.specs.Free.{numbers_from}
use Rattle.gl_goal.specs.Lists.{AreNamed}
use Rattle.gl_goal.specs.Lemmas.Chain.{AllZip-end, IsHeld, fix_box, hulls_of-hold, hulls_of-point}
use Rattle.gl_goal.specs.Lemmas.Free.{get_or-numbers_from, length-numbers_from, numbers_from-rises, last_of-boxes}
use Rattle.gl_goal.specs.Lemmas.Points.{point_in_order}
use Rattle.gl_badge.specs.Gain.{gain_goal, gain_over, greatest_gain, rise, two_axes}

-- the rise between two altitudes of fixes
rise-limited : (low high : ℤ) → neg_ℤ (pos 9_999) ≤ℤ low → high ≤ℤ pos 32_767
    → rise low high ≤ 42_766
unfolding rise
rise-limited low high above below = omega (arith, ints, clamps)

-- from lower to higher there is more rise
pub rise-mono : (low high lower higher : ℤ) → lower ≤ℤ low → high ≤ℤ higher
    → rise low high ≤ rise lower higher
unfolding rise
rise-mono low high lower higher down up = omega (arith, ints, clamps)

gain-limited : (fixes : List Fix) → gain_over fixes ≤ 42_766
gain-limited [] = omega arith
gain-limited (fix ∷ fixes) =
    let last = last_of fix fixes in rise-limited fix.alt last.alt fix.above last.below

-- fixes in boxes gain at most what the boxes say
gain-at_most : (boxes : List Box) (fixes : List Fix) → AllZip IsHeld boxes fixes
    → gain_over fixes ≤ greatest_gain boxes
gain-at_most [] [] held = omega arith
gain-at_most [] (fix ∷ fixes) held = absurd held
gain-at_most (box ∷ boxes) [] held = absurd held
gain-at_most (box ∷ boxes) (fix ∷ fixes) held =
    let first = held.0.altitude in
    let last = (AllZip-end IsHeld box boxes fix fixes held.0 held.1).altitude in
    rise-mono _ _ _ _ first.0 last.1

-- and exactly that where they are single fixes
greatest_gain-point : (fixes : List Fix) → greatest_gain (map fix_box fixes) ≡ gain_over fixes
greatest_gain-point [] = refl
greatest_gain-point (fix ∷ fixes) =
    ap (λ (box : Box). rise fix.alt box.alt.1) (last_of-boxes fix fixes)

-- what holds of an axis holds of two such axes
All-two : (P : List ℕ → Type 0) (axis : List ℕ) → P axis → All P (axis ∷ axis ∷ [])
All-two P axis holds zero other below = holds
All-two P axis holds (suc zero) other below = holds
All-two P axis holds (suc (suc k)) other below = absurd (omega arith)

-- the numbers of all fixes name them
pub all-named : (fixes : List Fix) → AreNamed fixes (numbers_from 0 (length fixes))
all-named fixes k d below =
    let inside : k < length fixes = omega (arith, length-numbers_from 0 (length fixes)) in
    omega (arith, get_or-numbers_from 0 (length fixes) k d inside)

pub two_axes-named : (fixes : List Fix) → All (AreNamed fixes) (two_axes (length fixes))
two_axes-named fixes = All-two (AreNamed fixes) (numbers_from 0 (length fixes)) (all-named fixes)

pub gain_goal-is_goal : (fixes : List Fix) → 1 ≤ length fixes → IsGoal (gain_goal fixes)
unfolding gain_goal
gain_goal-is_goal fixes some =
    let count = length fixes in
    let all = numbers_from 0 count in
    let axes = two_axes count in
    let every = two_axes-named fixes in
    record {
      some_axis = omega arith;
      ten_axes = omega arith;
      some_fix = All-two (λ axis. 0 < length axis) all (omega (arith, length-numbers_from 0 count));
      rising = All-two IsStrictlyIncreasing all (numbers_from-rises 0 count);
      limited = λ tuple fits. omega (arith, gain-limited (fixes_at fixes (chosen axes tuple)));
      shut_out = λ cell tuple covers shut held legal. absurd (cc);
      bounded = λ cell tuple covers held legal.
          gain-at_most _ _ (hulls_of-hold fixes axes cell tuple every covers held legal.is_tuple);
      single_legal = λ tuple fits open_. record {
        is_tuple = fits;
        in_order = point_in_order axes tuple fits open_.ordered;
        allowed = refl;
      };
      single_bound = λ tuple legal.
          ap greatest_gain (hulls_of-point fixes axes tuple every legal.is_tuple)
          ∙ greatest_gain-point (fixes_at fixes (chosen axes tuple));
    }
