-- The free distance: five fixes in time order, of which the last isn't much lower than the first,
-- worth the four legs between them.
use Rattle.std.specs.Prelude.{ℕ, zero, suc, ◌-◌, List, [], ◌∷◌, ℤ, pos, ◌-ℤ◌, int_le, int_lt}
use Rattle.gl_igc.specs.declared.fix.Fix.{Fix}
use Rattle.gl_goal.specs.Box.{Box}
use Rattle.gl_goal.specs.Chain.{fixes_at, greatest_legs, hulls_of, last_of, legs, points_of}
use Rattle.gl_goal.specs.Goal.{Goal}

-- how much lower the last of some fixes is than the first, in metres
abbrev pub loss_over : List Fix → ℤ
loss_over [] = pos 0
loss_over (fix ∷ fixes) = fix.alt -ℤ (last_of fix fixes).alt

-- the least that fixes in these boxes can lose: from the lowest altitude of the first box to the
-- highest of the last
abbrev pub least_loss : List Box → ℤ
least_loss [] = pos 0
least_loss (box ∷ boxes) = box.alt.0 -ℤ (last_of box boxes).alt.1

-- so many numbers, from the first one on
abbrev pub numbers_from : ℕ → ℕ → List ℕ
numbers_from first zero = []
numbers_from first (suc count) = first ∷ numbers_from (suc first) count

-- the numbers from the first to the last
abbrev pub numbers_between : ℕ → ℕ → List ℕ
numbers_between first last = numbers_from first (suc (last - first))

-- the fixes from the first to the last number
abbrev pub fixes_between : List Fix → ℕ → ℕ → List Fix
fixes_between fixes first last = fixes_at fixes (numbers_between first last)

-- five axes, each with the numbers from the first to the last
abbrev pub five_axes : ℕ → ℕ → List (List ℕ)
five_axes first last =
    let all = numbers_between first last in all ∷ all ∷ all ∷ all ∷ all ∷ []

-- The goal of the free distance over the fixes from the first to the last number, with a greatest
-- loss in metres. A cell is shut where its fixes lose more, and its bound is the sum of the
-- greatest legs.
unfoldable pub free_goal : List Fix → ℕ → ℕ → ℤ → Goal
free_goal fixes first last loss = record {
  axes = five_axes first last;
  allows = λ numbers. int_le (loss_over (fixes_at fixes numbers)) loss;
  worth = λ numbers. legs (points_of (fixes_at fixes numbers));
  shut = λ cell. int_lt loss (least_loss (hulls_of fixes (five_axes first last) cell));
  bound = λ cell. greatest_legs (hulls_of fixes (five_axes first last) cell);
}
