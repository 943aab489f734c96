-- The reach of the ends in a span, and the farthest of them.
use Rattle.std.proofs.Common.{◌≡◌, ◌∙◌, ap, sym, subst, ℕ, ◌+◌, ◌-◌, ◌<◌, ◌≤◌, ◌≤ℤ◌, List, length, ℤ, ⊎_elim, arith}
use Rattle.std.proofs.lemmas.Bool.{cases_lt}
use Rattle.std.proofs.lemmas.Int.{ints}
use Rattle.gl_sphere.proofs.Arcs.{written_distance-mono}
use Rattle.gl_sphere.specs.Distance.{written_distance}
use Rattle.gl_igc.specs.declared.fix.Fix.{Fix}
use Rattle.gl_goal.specs.Box.{IsBetween, fixes_in, hull_of}
use Rattle.gl_free.specs.declared.ends.Ends.{Ends}
use Rattle.gl_free.specs.declared.far.Far.{Far}
use Rattle.gl_free.specs.declared.side.Side.{Side}
use Rattle.gl_free.specs.declared.side.Side.TheVariants.{Before, After}
use Rattle.gl_free.specs.Code.Ends.{IsPast, Stands}
use Rattle.gl_free.specs.Code.Farthest.{IsFarthest}
use Rattle.gl_free.specs.Code.Places.{IsMost, altitude_at, chord, leg}
use Rattle.gl_free.specs.Code.Reach.{IsReach, Raises}
use Rattle.gl_free.proofs.PlaceLemmas.{altitude-between, altitude-single}

-- and a single place that doesn't lie past a single one may
pub single-stands : (side : Side) (span of_ : ℕ × ℕ) → span.0 ≡ span.1 → of_.0 ≡ of_.1 → (IsPast side span of_ → ⊥) → Stands side span.0 of_.0
single-stands Before span of_ one other not_past =
    ⊎_elim (λ (past : of_.1 < span.0). absurd (not_past past)) (λ (fits : span.0 ≤ of_.1). omega (arith, fits)) (cases_lt of_.1 span.0)
single-stands After span of_ one other not_past =
    ⊎_elim (λ (past : span.1 < of_.0). absurd (not_past past)) (λ (fits : of_.0 ≤ span.1). omega (arith, fits)) (cases_lt span.1 of_.0)

-- no fix is an end where the hull meets no altitude that is allowed
pub reach-missed : (fixes : List Fix) (allowed : Ends) (span of_ : ℕ × ℕ) (lo hi : ℤ) → span.1 < length fixes → (lo, hi) ≡ (hull_of (fixes_in fixes span)).alt
    → ((allowed.lowest ≤ℤ hi) × (lo ≤ℤ allowed.highest) → ⊥) → IsReach fixes allowed span of_ 0
reach-missed fixes allowed span of_ lo hi within is missed = record {
  above = λ end inner in_span in_of is_end.
      let between = subst (λ (ends : ℤ × ℤ). IsBetween ends (altitude_at fixes end)) (sym is) (altitude-between fixes span end in_span within) in
      absurd (missed (omega (arith, ints, between.1, is_end.allowed.not_lower), omega (arith, ints, between.0, is_end.allowed.not_higher)));
  reached = λ one other some. absurd (omega arith);
}

pub reach-met : (fixes : List Fix) (allowed : Ends) (span of_ : ℕ × ℕ) (lo hi : ℤ) (most : ℕ) → span.1 < length fixes → (lo, hi) ≡ (hull_of (fixes_in fixes span)).alt
    → (IsPast allowed.side span of_ → ⊥) → (allowed.lowest ≤ℤ hi) × (lo ≤ℤ allowed.highest) → IsMost (chord fixes) span of_ most → IsReach fixes allowed span of_ (most + 1)
reach-met fixes allowed span of_ lo hi most within is not_past met chords = record {
  above = λ end inner in_span in_of is_end. omega (arith, chords.at_most end inner in_span in_of);
  reached = λ one other some.
      let both = is ∙ altitude-single fixes span one within in
      let low : lo ≡ altitude_at fixes span.0 = ap (λ (ends : ℤ × ℤ). ends.0) both in
      let high : hi ≡ altitude_at fixes span.0 = ap (λ (ends : ℤ × ℤ). ends.1) both in (
        record {
          allowed = record {
            within = omega arith;
            not_lower = subst (λ (z : ℤ). allowed.lowest ≤ℤ z) high met.0;
            not_higher = subst (λ (z : ℤ). z ≤ℤ allowed.highest) low met.1;
          };
          stands = single-stands allowed.side span of_ one other not_past;
        },
        omega (arith, chords.single one other),
      );
}

-- where nothing was found over all places, no place is an end
pub farthest-none : (fixes : List Fix) (allowed : Ends) (span of_ : ℕ × ℕ) (old found : Far) → Raises fixes allowed span of_ old found → span.0 ≡ 0 → span.1 + 1 ≡ length fixes → found.value ≡ 0
    → IsFarthest fixes allowed of_ found
farthest-none fixes allowed span of_ old found raises first last none = record {
  above = λ end inner in_of is_end. absurd (omega (arith, raises.above end inner (omega arith, omega (arith, is_end.allowed.within)) in_of is_end));
  reached = λ one some. absurd (omega arith);
  limited = omega arith;
}

-- the distance of the greatest chord is that of the farthest end
pub farthest-found : (fixes : List Fix) (allowed : Ends) (span of_ : ℕ × ℕ) (old found : Far) (far : ℕ) → Raises fixes allowed span of_ old found → span.0 ≡ 0 → span.1 + 1 ≡ length fixes
    → 0 < found.value → far ≡ written_distance (found.value - 1) → far ≤ 7460377693 → IsFarthest fixes allowed of_ (record { value = far + 1; place = found.place })
unfolding leg
farthest-found fixes allowed span of_ old found far raises first last some is limited = record {
  above = λ end inner in_of is_end.
      let below = raises.above end inner (omega arith, omega (arith, is_end.allowed.within)) in_of is_end in
      let less : chord fixes end inner ≤ found.value - 1 = omega (arith, below) in
      omega (arith, is, written_distance-mono (chord fixes end inner) (found.value - 1) less);
  reached = λ one more.
      let end = raises.reached one some in
      let same : found.value - 1 ≡ chord fixes found.place of_.0 = omega (arith, end.1) in
      (end.0, omega (arith, is, ap written_distance same));
  limited = omega arith;
}
