-- A run over a range of altitudes, and what is left to run over.
use Rattle.std.proofs.Common.{◌≡◌, ◌∙◌, true, false, ap, sym, subst, ℕ, ◌+◌, ◌<◌, ◌≤◌, ◌⊎◌, inl, inr, ⊎_elim, List, [], ◌∷◌, ◌++◌, length, take, get_or, Option, None, Some, slice_get, ℤ, pos, neg_ℤ, ◌+ℤ◌, ◌-ℤ◌, ◌≤ℤ◌, arith}
use Rattle.std.specs.Prelude.{Any, int_le}
use Rattle.std.specs.Int.{int_min}
use Rattle.std.proofs.lemmas.Bool.{cases_Bool, cases_lt}
use Rattle.std.proofs.lemmas.Int.{int_min_is, ints}
use Rattle.std.proofs.lemmas.List.{length-append}
use Rattle.std.proofs.Math.ListN.{get_or-append}
use Rattle.std.proofs.Math.Seq.{get_or-append_seam}
use Rattle.gl_igc.specs.declared.fix.Fix.{Fix}
use Rattle.gl_free.specs.declared.altitudes.Altitudes.{Altitudes}
use Rattle.gl_free.specs.declared.arm.Part.{Part}
use Rattle.gl_free.specs.declared.candidate.Candidate.{Candidate}
use Rattle.gl_free.specs.declared.ends.Sides.{Sides}
use Rattle.gl_free.specs.declared.pair.Pair.{Pair}
use Rattle.gl_free.specs.declared.side.Side.{Side}
use Rattle.gl_free.specs.declared.side.Side.TheVariants.{Before, After}
use Rattle.gl_free.specs.Code.Candidates.{Starts}
use Rattle.gl_free.specs.Code.Ends.{Stands}
use Rattle.gl_free.specs.Code.Places.{altitude_at, altitude_of}
use Rattle.gl_free.specs.Code.Ranges.{AreLeft, IsBetterChoice, IsIn, IsRun, IsSplit}
use Rattle.gl_free.specs.Code.Search.{AreFound, AreSides, IsBetter, IsOver}

-- at the start the whole holds each better choice
pub starts-found : (fixes : List Fix) (sides : Sides) (middle : ℕ × ℕ) (found : ℕ) (before_list after_list : List Candidate) (before after : Part) → Starts fixes sides.before middle before_list before
    → Starts fixes sides.after middle after_list after → AreFound fixes sides middle found (take before.to before_list) before.from (take after.to after_list) after.from
starts-found fixes sides middle found before_list after_list before after first second better =
    (first.among better.second better.first better.third better.before, second.among better.fourth better.last better.third better.after)

altitude_of-bounds : (fix : Option Fix) → (neg_ℤ (pos 9999) ≤ℤ altitude_of fix) × (altitude_of fix ≤ℤ pos 32767)
altitude_of-bounds None = (omega (arith, ints), omega (arith, ints))
altitude_of-bounds (Some fix) = (omega (arith, ints, fix.above), omega (arith, ints, fix.below))

pub altitude-bounds : (fixes : List Fix) (place : ℕ) → (neg_ℤ (pos 9999) ≤ℤ altitude_at fixes place) × (altitude_at fixes place ≤ℤ pos 32767)
unfolding altitude_at
altitude-bounds fixes place = altitude_of-bounds (slice_get fixes place)

stood-before : (side : Side) (place of_ : ℕ) → side ≡ Before → place ≤ of_ → Stands side place of_
stood-before side place of_ is order = subst (λ (s : Side). Stands s place of_) (sym is) order

stood-after : (side : Side) (place of_ : ℕ) → side ≡ After → of_ ≤ place → Stands side place of_
stood-after side place of_ is order = subst (λ (s : Side). Stands s place of_) (sym is) order

-- a better choice with its first fix in a range is one of two arms with ends on these sides
pub better-arms : (fixes : List Fix) (sides : Sides) (whole : ℕ × ℕ) (loss : ℤ) (range : Altitudes) (found : ℕ) → AreSides sides → sides.before.lowest ≡ range.lowest
    → sides.before.highest ≡ range.highest → sides.after.lowest ≡ (range.lowest -ℤ int_min loss (pos 50000)) → sides.after.highest ≡ pos 2147483647 → whole.0 ≡ 0 → whole.1 + 1 ≡ length fixes
    → (better : IsBetterChoice fixes loss found) → IsIn range (altitude_at fixes better.first) → IsBetter fixes sides whole found
better-arms fixes sides whole loss range found are lowest highest reach any first last better inside =
    let order = better.order in
    let first_bounds = altitude-bounds fixes better.first in
    let last_bounds = altitude-bounds fixes better.last in
    record {
      first = better.first;
      second = better.second;
      third = better.third;
      fourth = better.fourth;
      last = better.last;
      third_in = (omega arith, omega (arith, order.fourth_later, order.last_later, order.within));
      before = record {
        inner_in = omega (arith, order.third_later, order.fourth_later, order.last_later, order.within);
        is_end = record {
          allowed = record {
            within = omega (arith, order.second_later, order.third_later, order.fourth_later, order.last_later, order.within);
            not_lower = omega (arith, ints, inside.0);
            not_higher = omega (arith, ints, inside.1);
          };
          stands = stood-before sides.before.side better.first better.second are.before order.second_later;
        };
        stands = stood-before sides.before.side better.second better.third are.before order.third_later;
      };
      after = record {
        inner_in = omega (arith, order.last_later, order.within);
        is_end = record {
          allowed = record {
            within = order.within;
            not_lower = omega (arith, ints, inside.0, better.within, last_bounds.0, first_bounds.1, int_min_is loss (pos 50000));
            not_higher = omega (arith, ints, last_bounds.1);
          };
          stands = stood-after sides.after.side better.last better.fourth are.after order.last_later;
        };
        stands = stood-after sides.after.side better.fourth better.third are.after order.fourth_later;
      };
      more = better.more;
    }

pub run-over : (fixes : List Fix) (sides : Sides) (whole : ℕ × ℕ) (loss : ℤ) (range : Altitudes) (found : ℕ) (stop : Option Pair) → AreSides sides → sides.before.lowest ≡ range.lowest
    → sides.before.highest ≡ range.highest → sides.after.lowest ≡ (range.lowest -ℤ int_min loss (pos 50000)) → sides.after.highest ≡ pos 2147483647 → whole.0 ≡ 0 → whole.1 + 1 ≡ length fixes
    → IsOver fixes sides whole loss found stop → IsRun fixes loss range found stop
run-over fixes sides whole loss range found None are lowest highest reach any first last over = λ better inside.
    over (better-arms fixes sides whole loss range found are lowest highest reach any first last better inside)
run-over fixes sides whole loss range found (Some pair) are lowest highest reach any first last over = record {
  first_within = over.first.within;
  last_within = over.last.within;
  first_in = (omega (arith, ints, over.first.not_lower), omega (arith, ints, over.first.not_higher));
  low = over.low;
  reached = omega (arith, ints, over.last.not_lower, over.low, (altitude-bounds fixes pair.first).1, (altitude-bounds fixes pair.last).0, int_min_is loss (pos 50000));
}

-- one of some ranges, or of more
any-pushed : (P : Altitudes → Type 0) (ranges : List Altitudes) (range : Altitudes) → Any P (ranges ++ range ∷ []) → Any P ranges ⊎ P range
any-pushed P ranges range found =
    let size = length-append ranges (range ∷ []) in
    ⊎_elim
    (λ (early : found.0 < length ranges). inl (found.0, found.1, early, sym (get_or-append ranges (range ∷ []) found.1 found.0 early) ∙ found.3, found.4))
    (λ (late : length ranges ≤ found.0).
    let last : found.0 ≡ length ranges = omega (arith, found.2) in
    let same : found.1 ≡ range = sym found.3 ∙ ap (λ (n : ℕ). get_or (ranges ++ range ∷ []) n found.1) last ∙ get_or-append_seam ranges range [] found.1 in
    inr (subst P same found.4))
    (cases_lt found.0 (length ranges))

any-earlier : (P : Altitudes → Type 0) (ranges : List Altitudes) (range : Altitudes) → Any P ranges → Any P (ranges ++ range ∷ [])
any-earlier P ranges range found = (found.0, found.1, omega (arith, found.2, length-append ranges (range ∷ [])), get_or-append ranges (range ∷ []) found.1 found.0 found.2 ∙ found.3, found.4)

any-last : (P : Altitudes → Type 0) (ranges : List Altitudes) (range : Altitudes) → P range → Any P (ranges ++ range ∷ [])
any-last P ranges range holds = (length ranges, range, omega (arith, length-append ranges (range ∷ [])), get_or-append_seam ranges range [] range, holds)

-- a better choice was one before, against a smaller total
abbrev pub choice-earlier : (fixes : List Fix) (loss : ℤ) (found less : ℕ) → less ≤ found → IsBetterChoice fixes loss found → IsBetterChoice fixes loss less
choice-earlier fixes loss found less order better = record {
  first = better.first;
  second = better.second;
  third = better.third;
  fourth = better.fourth;
  last = better.last;
  order = better.order;
  within = better.within;
  more = omega (arith, better.more);
}

-- a range that was run over to its end is done
pub left-done : (fixes : List Fix) (loss : ℤ) (found more : ℕ) (ranges : List Altitudes) (range : Altitudes) → found ≤ more
    → ((better : IsBetterChoice fixes loss more) → IsIn range (altitude_at fixes better.first) → ⊥) → AreLeft fixes loss found (ranges ++ range ∷ []) → AreLeft fixes loss more ranges
left-done fixes loss found more ranges range order none left better =
    ⊎_elim
    (λ (others : Any (λ (r : Altitudes). IsIn r (altitude_at fixes better.first)) ranges). others)
    (λ (here : IsIn range (altitude_at fixes better.first)). absurd (none better here))
    (any-pushed (λ (r : Altitudes). IsIn r (altitude_at fixes better.first)) ranges range (left (choice-earlier fixes loss more found order better)))

-- a range that was split gives way to two
pub left-split : (fixes : List Fix) (loss : ℤ) (found more : ℕ) (ranges with_upper with_both : List Altitudes) (range lower upper : Altitudes) → found ≤ more → IsSplit range lower upper
    → with_upper ≡ ranges ++ upper ∷ [] → with_both ≡ with_upper ++ lower ∷ [] → AreLeft fixes loss found (ranges ++ range ∷ []) → AreLeft fixes loss more with_both
left-split fixes loss found more ranges with_upper with_both range lower upper order split upper_is both_is left better =
    let P : Altitudes → Type 0 = λ (r : Altitudes). IsIn r (altitude_at fixes better.first) in
    let Q : List Altitudes → Type 0 = Any P in
    let all : with_both ≡ (ranges ++ upper ∷ []) ++ lower ∷ [] = both_is ∙ ap (λ (list : List Altitudes). list ++ lower ∷ []) upper_is in
    subst Q (sym all)
    (⊎_elim
    (λ (others : Any P ranges). any-earlier P (ranges ++ upper ∷ []) lower (any-earlier P ranges upper others))
    (λ (here : P range). ⊎_elim
    (λ (in_lower : P lower). any-last P (ranges ++ upper ∷ []) lower in_lower)
    (λ (in_upper : P upper). any-earlier P (ranges ++ upper ∷ []) lower (any-last P ranges upper in_upper))
    (split.parts (altitude_at fixes better.first) here))
    (any-pushed P ranges range (left (choice-earlier fixes loss more found order better))))

not-above : (altitude between : ℤ) → int_le altitude between ≡ true → altitude ≤ℤ between
not-above altitude between is = grind (arith, ints)

is-above : (altitude between : ℤ) → int_le altitude between ≡ false → (between +ℤ pos 1) ≤ℤ altitude
is-above altitude between is = grind (arith, ints)

-- the altitudes up to one, and those above it
pub split-at : (range lower upper : Altitudes) (between : ℤ) → lower.lowest ≡ range.lowest → lower.highest ≡ between → upper.lowest ≡ between +ℤ pos 1 → upper.highest ≡ range.highest
    → IsSplit range lower upper
split-at range lower upper between from below above to = record {
  parts = λ altitude inside. ⊎_elim
      (λ (is : int_le altitude between ≡ true). inl (omega (arith, ints, inside.0), omega (arith, ints, not-above altitude between is)))
      (λ (is : int_le altitude between ≡ false). inr (omega (arith, ints, is-above altitude between is), omega (arith, ints, inside.1)))
      (cases_Bool (int_le altitude between));
  less = omega (arith, ints, lower.ordered, upper.ordered);
}

-- a range of all altitudes leaves nothing out
pub left-whole : (fixes : List Fix) (loss : ℤ) (found : ℕ) (old new : List Altitudes) (all : Altitudes) → new ≡ old ++ all ∷ []
    → ((place : ℕ) → place < length fixes → IsIn all (altitude_at fixes place)) → AreLeft fixes loss found new
left-whole fixes loss found old new all is inside better =
    let order = better.order in
    let P : Altitudes → Type 0 = λ (r : Altitudes). IsIn r (altitude_at fixes better.first) in
    subst (λ (list : List Altitudes). Any P list) (sym is) (any-last P old all
    (inside better.first (omega (arith, order.second_later, order.third_later, order.fourth_later, order.last_later, order.within))))

-- and where no range is left, nothing is
pub left-none : (fixes : List Fix) (loss : ℤ) (found : ℕ) (ranges : List Altitudes) → length ranges ≡ 0 → AreLeft fixes loss found ranges → IsBetterChoice fixes loss found → ⊥
left-none fixes loss found ranges empty left better = omega (arith, (left better).2)
