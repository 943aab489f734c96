use Rattle.std.proofs.Common.{ℕ, ◌<◌, ◌≤◌}
use Rattle.std.specs.Prelude.{All, slice_index}
use Rattle.gl_places.proofs.by_place.ByPlace.numbers_in.Given as goal

-- the numbers that were gone over lie between the ends, and the higher one is a number
abbrev pub invariant-loop-place : goal.invariant-loop-place
invariant-loop-place l =
    ((place : ℕ) → l.fn.span.lo ≤ place → place < l.place → (l.ends.lo ≤ slice_index l.self.numbers.items place) × (slice_index l.self.numbers.items place ≤ l.ends.hi))
    × ((most : ℕ) → All (λ number. number < most) l.self.numbers.items → l.ends.hi < most)
