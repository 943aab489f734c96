-- What is known of the ends of spans that were gone over.
use Rattle.std.proofs.Common.{◌≡◌, ◌∙◌, ap, ℕ, ◌+◌, ◌<◌, ◌≤◌, ◌⊎◌, inl, inr, ⊎_elim, max, arith}
use Rattle.std.proofs.lemmas.Bool.{cases_lt}

-- of the first `count` spans `latest` is the highest low end, 0 where there is none, and none of them ends before an earlier begins
pub record IsSeen (low high : ℕ → ℕ) (count latest : ℕ) : Type 0 where
  pub highest : (k : ℕ) → k < count → low k ≤ latest
  pub reached : (latest ≡ 0) ⊎ ((k : ℕ) × (k < count) × (low k ≡ latest))
  pub ordered : (i j : ℕ) → i < j → j < count → low i ≤ high j

-- one span more, that doesn't end before `latest`
pub seen_more : (low high : ℕ → ℕ) (count latest lo hi next : ℕ) → IsSeen low high count latest → low count ≡ lo → high count ≡ hi → latest ≤ hi → next ≡ max latest lo
    → IsSeen low high (count + 1) next
seen_more low high count latest lo hi next seen lo_is hi_is fits is = record {
  highest = λ k below. ⊎_elim
      (λ (past : k < count). omega (arith, seen.highest k past))
      (λ (last : count ≤ k). let same : k ≡ count = omega arith in omega (arith, ap low same))
      (cases_lt k count);
  reached = ⊎_elim
      (λ (more : latest < lo). inr (count, omega arith, lo_is ∙ omega arith))
      (λ (same : lo ≤ latest). ⊎_elim
      (λ (none : latest ≡ 0). inl (omega arith))
      (λ (at : (k : ℕ) × (k < count) × (low k ≡ latest)). inr (at.0, omega (arith, at.1), at.2 ∙ omega arith))
      seen.reached)
      (cases_lt latest lo);
  ordered = λ i j apart below. ⊎_elim
      (λ (past : j < count). seen.ordered i j apart past)
      (λ (last : count ≤ j). let same : j ≡ count = omega arith in omega (arith, seen.highest i (omega arith), ap high same))
      (cases_lt j count);
}

-- a span that ends before `latest` ends before an earlier one begins
pub seen_past : (low high : ℕ → ℕ) (count latest : ℕ) → IsSeen low high count latest → high count < latest → (k : ℕ) × (k < count) × (high count < low k)
seen_past low high count latest seen past = ⊎_elim
    (λ (none : latest ≡ 0). absurd (omega arith))
    (λ (at : (k : ℕ) × (k < count) × (low k ≡ latest)). (at.0, at.1, omega (arith, at.2)))
    seen.reached
