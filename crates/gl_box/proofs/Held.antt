-- What a cell holds and covers, axis by axis.
use Rattle.std.proofs.Common.{◌≡◌, ap, refl, ℕ, zero, suc, ◌<◌, ◌≤◌, List, [], ◌∷◌, length, get_or, arith}
use Rattle.std.proofs.lemmas.Bool.Decides.{nat_tests}
use Rattle.gl_box.specs.Cell.{Covers, Holds}
use Rattle.gl_box.specs.Halves.{span_at}

pub length-covers : (outer inner : List (ℕ × ℕ)) → Covers outer inner → length outer ≡ length inner
length-covers [] [] covers = refl
length-covers [] (i ∷ is) covers = absurd covers
length-covers (o ∷ os) [] covers = absurd covers
length-covers (o ∷ os) (i ∷ is) covers = ap suc (length-covers os is covers.2)

pub covers_at : (outer inner : List (ℕ × ℕ)) (k : ℕ) → Covers outer inner → k < length outer → ((span_at outer k).0 ≤ (span_at inner k).0) × ((span_at inner k).1 ≤ (span_at outer k).1)
covers_at [] inner k covers below = absurd (omega arith)
covers_at (o ∷ os) [] k covers below = absurd covers
covers_at (o ∷ os) (i ∷ is) zero covers below = (covers.0, covers.1)
covers_at (o ∷ os) (i ∷ is) (suc k) covers below = covers_at os is k covers.2 (omega arith)

pub covers_from : (outer inner : List (ℕ × ℕ)) → length outer ≡ length inner → ((k : ℕ) → k < length outer → ((span_at outer k).0 ≤ (span_at inner k).0) × ((span_at inner k).1 ≤ (span_at outer k).1))
    → Covers outer inner
covers_from [] [] same each = tt
covers_from [] (i ∷ is) same each = absurd (omega arith)
covers_from (o ∷ os) [] same each = absurd (omega arith)
covers_from (o ∷ os) (i ∷ is) same each =
    let here = each 0 (omega arith) in
    (here.0, here.1, covers_from os is (omega arith) (λ k below. each (suc k) (omega arith)))

-- a cell holds a tuple by its first axis and the rest
pub holds_parts : (span : ℕ × ℕ) (spans : List (ℕ × ℕ)) (place : ℕ) (places : List ℕ) → Holds (span ∷ spans) (place ∷ places) → (span.0 ≤ place) × (place ≤ span.1) × Holds spans places
holds_parts span spans place places held = (grind (arith, nat_tests), grind (arith, nat_tests), grind (arith, nat_tests))

pub holds_whole : (span : ℕ × ℕ) (spans : List (ℕ × ℕ)) (place : ℕ) (places : List ℕ) → span.0 ≤ place → place ≤ span.1 → Holds spans places → Holds (span ∷ spans) (place ∷ places)
holds_whole span spans place places low high held = grind (arith, nat_tests)

pub length-holds : (cell : List (ℕ × ℕ)) (tuple : List ℕ) → Holds cell tuple → length cell ≡ length tuple
length-holds [] [] held = refl
length-holds [] (p ∷ ps) held = absurd (cc)
length-holds (s ∷ ss) [] held = absurd (cc)
length-holds (s ∷ ss) (p ∷ ps) held = ap suc (length-holds ss ps (holds_parts s ss p ps held).2)

pub holds_at : (cell : List (ℕ × ℕ)) (tuple : List ℕ) (k : ℕ) → Holds cell tuple → k < length cell → ((span_at cell k).0 ≤ get_or tuple k 0) × (get_or tuple k 0 ≤ (span_at cell k).1)
holds_at [] tuple k held below = absurd (omega arith)
holds_at (s ∷ ss) [] k held below = absurd (cc)
holds_at (s ∷ ss) (p ∷ ps) zero held below = let parts = holds_parts s ss p ps held in (parts.0, parts.1)
holds_at (s ∷ ss) (p ∷ ps) (suc k) held below = holds_at ss ps k (holds_parts s ss p ps held).2 (omega arith)

pub holds_from : (cell : List (ℕ × ℕ)) (tuple : List ℕ) → length cell ≡ length tuple → ((k : ℕ) → k < length cell → ((span_at cell k).0 ≤ get_or tuple k 0) × (get_or tuple k 0 ≤ (span_at cell k).1))
    → Holds cell tuple
holds_from [] [] same each = refl
holds_from [] (p ∷ ps) same each = absurd (omega arith)
holds_from (s ∷ ss) [] same each = absurd (omega arith)
holds_from (s ∷ ss) (p ∷ ps) same each =
    let here = each 0 (omega arith) in
    holds_whole s ss p ps here.0 here.1 (holds_from ss ps (omega arith) (λ k below. each (suc k) (omega arith)))
