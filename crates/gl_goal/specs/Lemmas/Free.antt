-- The free distance meets the laws of a goal.
use Rattle.std.proofs.Common.{◌≡◌, ◌∙◌, ap, refl, ℕ, zero, suc, ◌+◌, ◌-◌, ◌<◌, ◌≤◌, List, [], ◌∷◌, length, map, get_or, ℤ, ◌-ℤ◌, ◌≤ℤ◌, true, false, ⊎_elim, arith}
use Rattle.std.specs.Prelude.{All, IsTrue, int_le, int_lt}
use Rattle.std.specs.List.{AllZip}
use Rattle.std.specs.List.Sorted.{IsStrictlyIncreasing}
use Rattle.std.proofs.lemmas.Int.{ints}
use Rattle.std.proofs.lemmas.Bool.{cases_Bool}
use Rattle.std.proofs.lemmas.List.{length-map}
use Rattle.gl_igc.specs.declared.fix.Fix.{Fix}
use Rattle.gl_goal.specs.Box.{Box}
use Rattle.gl_goal.specs.Goal.{IsGoal, chosen}
use Rattle.gl_goal.specs.Chain.{fixes_at, greatest_legs, last_of, points_of}
use Rattle.gl_goal.specs.Free.{five_axes, free_goal, least_loss, loss_over, numbers_between, numbers_from}
use Rattle.gl_goal.specs.Lists.{AreNamed}
use Rattle.gl_goal.specs.Lemmas.Chain.{IsHeld, chosen-named, fix_box, greatest_legs-point, hulls_of-hold, hulls_of-point, legs-at_most, legs-limited, length-fixes_at, points-inside}
use Rattle.gl_goal.specs.Lemmas.Points.{length-chosen, point_in_order}

pub length-numbers_from : (first count : ℕ) → length (numbers_from first count) ≡ count
length-numbers_from first zero = refl
length-numbers_from first (suc count) = ap suc (length-numbers_from (suc first) count)

pub get_or-numbers_from : (first count place : ℕ) (d : ℕ) → place < count
    → get_or (numbers_from first count) place d ≡ first + place
get_or-numbers_from first zero place d below = absurd (omega arith)
get_or-numbers_from first (suc count) zero d below = omega arith
get_or-numbers_from first (suc count) (suc place) d below =
    get_or-numbers_from (suc first) count place d (omega arith) ∙ omega arith

pub length-numbers_between : (first last : ℕ)
    → length (numbers_between first last) ≡ suc (last - first)
length-numbers_between first last = length-numbers_from first (suc (last - first))

-- they rise strictly
pub numbers_from-rises : (first count : ℕ) → IsStrictlyIncreasing (numbers_from first count)
numbers_from-rises first count k more =
    let next : k + 1 < count = omega (arith, length-numbers_from first count) in
    omega (
      arith,
      get_or-numbers_from first count k 0 (omega arith),
      get_or-numbers_from first count (k + 1) 0 next,
    )

-- the numbers from the first to the last name fixes
pub numbers_between-named : (fixes : List Fix) (first last : ℕ) → first ≤ last → last < length fixes
    → AreNamed fixes (numbers_between first last)
numbers_between-named fixes first last order within k d below =
    let inside : k < suc (last - first) = omega (arith, length-numbers_between first last) in
    omega (arith, get_or-numbers_from first (suc (last - first)) k d inside)

-- what holds of an axis holds of five such axes
All-five : (P : List ℕ → Type 0) (axis : List ℕ) → P axis
    → All P (axis ∷ axis ∷ axis ∷ axis ∷ axis ∷ [])
All-five P axis holds zero other below = holds
All-five P axis holds (suc zero) other below = holds
All-five P axis holds (suc (suc zero)) other below = holds
All-five P axis holds (suc (suc (suc zero))) other below = holds
All-five P axis holds (suc (suc (suc (suc zero)))) other below = holds
All-five P axis holds (suc (suc (suc (suc (suc k))))) other below = absurd (omega arith)

last-held : (box : Box) (boxes : List Box) (fix : Fix) (fixes : List Fix)
    → AllZip IsHeld (box ∷ boxes) (fix ∷ fixes) → IsHeld (last_of box boxes) (last_of fix fixes)
last-held box [] fix [] held = held.0
last-held box [] fix (next ∷ fixes) held = absurd held.1
last-held box (other ∷ boxes) fix [] held = absurd held.1
last-held box (other ∷ boxes) fix (next ∷ fixes) held = last-held other boxes next fixes held.1

-- fixes in boxes lose at least what the boxes say
least_loss-at_most : (boxes : List Box) (fixes : List Fix) → AllZip IsHeld boxes fixes
    → least_loss boxes ≤ℤ loss_over fixes
least_loss-at_most [] [] held = omega (arith, ints)
least_loss-at_most [] (fix ∷ fixes) held = absurd held
least_loss-at_most (box ∷ boxes) [] held = absurd held
least_loss-at_most (box ∷ boxes) (fix ∷ fixes) held =
    let first = held.0.altitude in
    let end = (last-held box boxes fix fixes held).altitude in
    omega (arith, ints, first.0, end.1)

pub last_of-boxes : (fix : Fix) (fixes : List Fix)
    → last_of (fix_box fix) (map fix_box fixes) ≡ fix_box (last_of fix fixes)
last_of-boxes fix [] = refl
last_of-boxes fix (next ∷ fixes) = last_of-boxes next fixes

-- and exactly that where they are single fixes
least_loss-point : (fixes : List Fix) → least_loss (map fix_box fixes) ≡ loss_over fixes
least_loss-point [] = refl
least_loss-point (fix ∷ fixes) = ap (λ (box : Box). fix.alt -ℤ box.alt.1) (last_of-boxes fix fixes)

not_both : (least loss limit : ℤ) → least ≤ℤ loss → IsTrue (int_lt limit least)
    → IsTrue (int_le loss limit) → ⊥
not_both least loss limit at_most above within = grind (arith, ints)

above-past : (least loss limit : ℤ) → least ≡ loss → int_le loss limit ≡ false
    → IsTrue (int_lt limit least)
above-past least loss limit same past = grind (arith, ints)

allowed-else : (least loss limit : ℤ) → least ≡ loss → (IsTrue (int_lt limit least) → ⊥)
    → IsTrue (int_le loss limit)
allowed-else least loss limit same not_above =
    ⊎_elim
    (λ (within : int_le loss limit ≡ true). within)
    (λ (past : int_le loss limit ≡ false). absurd
    (not_above (above-past least loss limit same past)))
    (cases_Bool (int_le loss limit))

pub five_axes-named : (fixes : List Fix) (first last : ℕ) → first ≤ last → last < length fixes
    → All (AreNamed fixes) (five_axes first last)
five_axes-named fixes first last order within =
    All-five (AreNamed fixes) (numbers_between first last)
    (numbers_between-named fixes first last order within)

pub free_goal-is_goal : (fixes : List Fix) (first last : ℕ) (loss : ℤ) → first ≤ last
    → last < length fixes → IsGoal (free_goal fixes first last loss)
unfolding free_goal
free_goal-is_goal fixes first last loss order within =
    let all = numbers_between first last in
    let axes = five_axes first last in
    let some : 0 < length all = omega (arith, length-numbers_between first last) in
    let every = five_axes-named fixes first last order within in
    record {
      some_axis = omega arith;
      ten_axes = omega arith;
      some_fix = All-five (λ axis. 0 < length axis) all some;
      rising = All-five IsStrictlyIncreasing all (numbers_from-rises first (suc (last - first)));
      limited = λ tuple fits.
          let named = chosen-named fixes axes tuple every fits in
          omega (
            arith,
            legs-limited (points_of (fixes_at fixes (chosen axes tuple))),
            length-map (fixes_at fixes (chosen axes tuple)) (λ (fix : Fix). fix.at),
            length-fixes_at fixes (chosen axes tuple) named,
            length-chosen axes tuple fits,
          );
      shut_out = λ cell tuple covers shut held legal.
          not_both _ _ loss (least_loss-at_most _ _
          (hulls_of-hold fixes axes cell tuple every covers held legal.is_tuple)) shut
          legal.allowed;
      bounded = λ cell tuple covers held legal.
          legs-at_most _ _ (points-inside _ _
          (hulls_of-hold fixes axes cell tuple every covers held legal.is_tuple));
      single_legal = λ tuple fits open_. record {
        is_tuple = fits;
        in_order = point_in_order axes tuple fits open_.ordered;
        allowed = allowed-else _ _ loss (ap least_loss (hulls_of-point fixes axes tuple every fits)
            ∙ least_loss-point (fixes_at fixes (chosen axes tuple))) open_.not_shut;
      };
      single_bound = λ tuple legal.
          ap greatest_legs (hulls_of-point fixes axes tuple every legal.is_tuple)
          ∙ greatest_legs-point (fixes_at fixes (chosen axes tuple));
    }
