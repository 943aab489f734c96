-- The spans of a cell over five axes with the same fixes that were gone over.
use Rattle.std.proofs.Common.{ℕ, ◌-◌, ◌<◌, ◌≤◌, List, arith}
use Rattle.gl_box.specs.Halves.{span_at}
use Rattle.gl_goal.specs.Goal.{IsDisordered}
use Rattle.gl_goal.specs.Free.{five_axes}
use Rattle.gl_goal.proofs.Fives.{five-fix_at}
use Rattle.gl_goal.proofs.Seen.{IsSeen, seen_past}

-- the ends of the spans
abbrev pub begins : List (ℕ × ℕ) → ℕ → ℕ
begins cell k = (span_at cell k).0

abbrev pub closes : List (ℕ × ℕ) → ℕ → ℕ
closes cell k = (span_at cell k).1

-- a span that ends before `latest` disorders the cell
pub five_past : (first last : ℕ) (cell : List (ℕ × ℕ)) (count latest : ℕ) → IsSeen (begins cell) (closes cell) count latest → count < 5 → (span_at cell count).1 < latest
    → ((k : ℕ) → k < 5 → (span_at cell k).1 ≤ last - first) → ((k : ℕ) → k < 5 → (span_at cell k).0 ≤ last - first) → IsDisordered (five_axes first last) cell
five_past first last cell count latest seen below past high low =
    let at = seen_past (begins cell) (closes cell) count latest seen past in
    record {
      earlier = at.0;
      later = count;
      apart = at.1;
      within = below;
      above = omega (
        arith,
        five-fix_at first last count (span_at cell count).1 below (omega (arith, high count below)),
        five-fix_at first last at.0 (span_at cell at.0).0 (omega (arith, at.1)) (omega (arith, low at.0 (omega (arith, at.1)))),
        at.2,
      );
    }

-- where all five were seen the cell isn't disordered
pub five_seen : (first last : ℕ) (cell : List (ℕ × ℕ)) (count latest : ℕ) → IsSeen (begins cell) (closes cell) count latest → 5 ≤ count → ((k : ℕ) → k < 5 → (span_at cell k).1 ≤ last - first)
    → ((k : ℕ) → k < 5 → (span_at cell k).0 ≤ last - first) → IsDisordered (five_axes first last) cell → ⊥
five_seen first last cell count latest seen all high low disordered =
    let i = disordered.earlier in
    let j = disordered.later in
    let below : j < 5 = disordered.within in
    omega (
      arith,
      disordered.apart,
      disordered.above,
      seen.ordered i j disordered.apart (omega arith),
      five-fix_at first last j (span_at cell j).1 below (omega (arith, high j below)),
      five-fix_at first last i (span_at cell i).0 (omega (arith, disordered.apart)) (omega (arith, low i (omega (arith, disordered.apart)))),
    )
