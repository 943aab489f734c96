-- The triangle: three fixes in time order with fair legs, on a flight that closes past the first
-- and
-- the third of them, worth the three legs.
use Rattle.std.specs.Prelude.{ℕ, ◌+◌, ◌-◌, Bool, not, ◌&&◌, ◌||◌, nat_le, List, [], ◌∷◌, take, drop, slice_index}
use Rattle.std.specs.List.{list_any, sum}
use Rattle.gl_box.specs.Halves.{span_at}
use Rattle.gl_igc.specs.declared.fix.Fix.{Fix}
use Rattle.gl_sphere.specs.Distance.{distance}
use Rattle.gl_goal.specs.Chain.{fixes_at, greatest_distance, hulls_of, least_distance, points_of}
use Rattle.gl_goal.specs.Fair.{is_fair, is_none_fair, most_of_fair}
use Rattle.gl_goal.specs.Free.{fixes_between, numbers_between}
use Rattle.gl_goal.specs.Goal.{Goal}

-- how far each of three is from the next, all the way round
abbrev pub around : {X : Type 0} → (X → X → ℕ) → List X → List ℕ
around far [] = []
around far (a ∷ []) = []
around far (a ∷ b ∷ []) = []
around far (a ∷ b ∷ c ∷ []) = far a b ∷ far b c ∷ far c a ∷ []
around far (a ∷ b ∷ c ∷ d ∷ others) = []

-- A flight closes past the places a and c of its fixes: a fix at a or before and a fix at c or
-- later
-- are at most so far apart, in centimetres.
unfoldable pub closes : List Fix → ℕ → ℕ → ℕ → Bool
closes fixes closing a c =
    list_any (λ from. list_any (λ to. nat_le (distance from.at to.at) closing) (drop c fixes))
    (take (a + 1) fixes)

-- three axes, each with the numbers from the first to the last
abbrev pub three_axes : ℕ → ℕ → List (List ℕ)
three_axes first last = let all = numbers_between first last in all ∷ all ∷ all ∷ []

-- The goal of the triangle over the fixes from the first to the last number, which are the flight
-- that has to close. A cell is shut where none of its legs are fair, or where the flight doesn't
-- close past the last of its first fixes and the first of its third ones.
unfoldable pub triangle_goal : List Fix → ℕ → ℕ → ℕ → Goal
triangle_goal fixes first last closing = record {
  axes = three_axes first last;
  allows = λ numbers.
      is_fair (around distance (points_of (fixes_at fixes numbers)))
      && closes (fixes_between fixes first last) closing (slice_index numbers 0 - first)
      (slice_index numbers 2 - first);
  worth = λ numbers. sum (around distance (points_of (fixes_at fixes numbers)));
  shut = λ cell.
      let hulls = hulls_of fixes (three_axes first last) cell in
      is_none_fair (around least_distance hulls) (around greatest_distance hulls)
      || not (closes (fixes_between fixes first last) closing (span_at cell 0).1
      (span_at cell 2).0);
  bound = λ cell.
      most_of_fair (around greatest_distance (hulls_of fixes (three_axes first last) cell));
}
