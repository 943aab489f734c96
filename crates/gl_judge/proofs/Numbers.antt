-- Numbers of fixes from one on, and those of them in a zone.
use Rattle.std.proofs.Common.{◌≡◌, ◌∙◌, sym, ap, refl, subst, ℕ, zero, suc, ◌+◌, ◌-◌, ◌<◌, ◌≤◌, Bool, true, false, List, [], ◌∷◌, ◌++◌, length, get_or, Option, None, Some, slice_get, ◌⊎◌, ⊎_elim, arith, inl, inr}
use Rattle.std.specs.Prelude.{All, IsTrue, IsSomeAnd}
use Rattle.std.specs.List.{filter}
use Rattle.std.specs.List.Sorted.{IsStrictlyIncreasing}
use Rattle.std.proofs.lemmas.Bool.{cases_Bool}
use Rattle.std.proofs.lemmas.List.Elements.{All-filter, filter-append}
use Rattle.std.proofs.lemmas.List.Kept.{IsStrictlyIncreasing-filter}
use Rattle.gl_igc.specs.declared.fix.Fix.{Fix}
use Rattle.gl_zone.specs.declared.zone.Zone.{Zone}
use Rattle.gl_zone.specs.Zones.{is_in_zone}
use Rattle.gl_goal.specs.Free.{numbers_from}
use Rattle.gl_goal.specs.Lemmas.Free.{get_or-numbers_from, length-numbers_from, numbers_from-rises}
use Rattle.gl_goal.proofs.FreeLosses.{numbers_from-more}
use Rattle.gl_judge.specs.Choices.{lies_in, numbers_before, numbers_in_zone}

-- one number more
pub number-more : (first i : ℕ) (numbers pushed : List ℕ) → first ≤ i → pushed ≡ numbers ++ i ∷ [] → numbers ≡ numbers_from first (i - first) → pushed ≡ numbers_from first (i + 1 - first)
number-more first i numbers pushed after is before =
    let at : first + (i - first) ≡ i = omega arith in
    let count : suc (i - first) ≡ i + 1 - first = omega arith in
    is ∙ ap (λ (ns : List ℕ). ns ++ i ∷ []) before ∙ ap (λ (n : ℕ). numbers_from first (i - first) ++ n ∷ []) (sym at)
    ∙ sym (numbers_from-more first (i - first)) ∙ ap (numbers_from first) count

numbers-next : (first i : ℕ) → first ≤ i → numbers_from first (i + 1 - first) ≡ numbers_from first (i - first) ++ i ∷ []
numbers-next first i after = sym (number-more first i (numbers_from first (i - first)) (numbers_from first (i - first) ++ i ∷ []) after refl refl)

lies-when : (zone : Zone) (seen : Option Fix) → IsSomeAnd seen (λ fix. IsTrue (is_in_zone zone fix.at)) → lies_in zone seen ≡ true
lies-when zone None in_zone = absurd in_zone
lies-when zone (Some fix) in_zone = in_zone

lies-unless : (zone : Zone) (seen : Option Fix) → (IsSomeAnd seen (λ fix. IsTrue (is_in_zone zone fix.at)) → ⊥) → lies_in zone seen ≡ false
lies-unless zone None not_in = refl
lies-unless zone (Some fix) not_in =
    ⊎_elim
    (λ (inside : is_in_zone zone fix.at ≡ true). absurd (not_in inside))
    (λ (outside : is_in_zone zone fix.at ≡ false). outside)
    (cases_Bool (is_in_zone zone fix.at))

one-kept : (p : ℕ → Bool) (i : ℕ) → p i ≡ true → filter p (i ∷ []) ≡ i ∷ []
one-kept p i kept = cc

one-dropped : (p : ℕ → Bool) (i : ℕ) → p i ≡ false → filter p (i ∷ []) ≡ []
one-dropped p i dropped = cc

-- one fix more that lies in the zone
pub zone-more : (fixes : List Fix) (zone : Zone) (first i : ℕ) (numbers pushed : List ℕ) → first ≤ i → IsSomeAnd (slice_get fixes i) (λ fix. IsTrue (is_in_zone zone fix.at))
    → pushed ≡ numbers ++ i ∷ [] → numbers ≡ numbers_in_zone fixes first i zone → pushed ≡ numbers_in_zone fixes first (i + 1) zone
zone-more fixes zone first i numbers pushed after here is before =
    let p : ℕ → Bool = λ k. lies_in zone (slice_get fixes k) in
    is ∙ ap (λ (ns : List ℕ). ns ++ i ∷ []) before ∙ ap (λ (ns : List ℕ). numbers_in_zone fixes first i zone ++ ns) (sym (one-kept p i (lies-when zone (slice_get fixes i) here)))
    ∙ sym (filter-append p (numbers_from first (i - first)) (i ∷ [])) ∙ ap (filter p) (sym (numbers-next first i after))

-- one that doesn't
pub zone-same : (fixes : List Fix) (zone : Zone) (first i : ℕ) (numbers : List ℕ) → first ≤ i → (IsSomeAnd (slice_get fixes i) (λ fix. IsTrue (is_in_zone zone fix.at)) → ⊥)
    → numbers ≡ numbers_in_zone fixes first i zone → numbers ≡ numbers_in_zone fixes first (i + 1) zone
zone-same fixes zone first i numbers after here before =
    let p : ℕ → Bool = λ k. lies_in zone (slice_get fixes k) in
    before ∙ sym (plus-none (numbers_in_zone fixes first i zone)) ∙ ap (λ (ns : List ℕ). numbers_in_zone fixes first i zone ++ ns) (sym (one-dropped p i (lies-unless zone (slice_get fixes i) here)))
    ∙ sym (filter-append p (numbers_from first (i - first)) (i ∷ [])) ∙ ap (filter p) (sym (numbers-next first i after))
  where
    plus-none : (xs : List ℕ) → xs ++ [] ≡ xs
    plus-none [] = refl
    plus-none (x ∷ xs) = ap (λ (ys : List ℕ). x ∷ ys) (plus-none xs)

-- the list of a zone rises strictly, and its numbers name fixes
pub zone-rises : (fixes : List Fix) (first behind : ℕ) (zone : Zone) → IsStrictlyIncreasing (numbers_in_zone fixes first behind zone)
zone-rises fixes first behind zone =
    IsStrictlyIncreasing-filter (λ k. lies_in zone (slice_get fixes k)) (numbers_before first behind) (numbers_from-rises first (behind - first))

pub before-named : (first behind limit : ℕ) → behind ≤ limit → All (λ number. number < limit) (numbers_before first behind)
before-named first behind limit most k d below =
    let inside : k < behind - first = omega (arith, length-numbers_from first (behind - first)) in
    omega (arith, get_or-numbers_from first (behind - first) k d inside)

pub zone-named : (fixes : List Fix) (first behind : ℕ) (zone : Zone) → behind ≤ length fixes → All (λ number. number < length fixes) (numbers_in_zone fixes first behind zone)
zone-named fixes first behind zone most =
    All-filter (λ k. lies_in zone (slice_get fixes k)) (λ number. number < length fixes) (numbers_before first behind) (before-named first behind (length fixes) most)

-- where a number stands among those that pass a test
pub record IsPlaced (numbers : List ℕ) (number : ℕ) : Type 0 where
  pub place : ℕ
  pub within : place < length numbers
  pub there : get_or numbers place 0 ≡ number

placed-next : (first number : ℕ) (numbers : List ℕ) → IsPlaced numbers number → IsPlaced (first ∷ numbers) number
placed-next first number numbers at = record { place = suc at.place; within = omega (arith, at.within); there = at.there }

cons-kept : (p : ℕ → Bool) (x : ℕ) (xs : List ℕ) → p x ≡ true → filter p (x ∷ xs) ≡ x ∷ filter p xs
cons-kept p x xs kept = cc

cons-dropped : (p : ℕ → Bool) (x : ℕ) (xs : List ℕ) → p x ≡ false → filter p (x ∷ xs) ≡ filter p xs
cons-dropped p x xs dropped = cc

kept-later : (p : ℕ → Bool) (x : ℕ) (xs : List ℕ) (number : ℕ) → (IsPlaced xs number → IsPlaced (filter p xs) number) → (place : ℕ) → place < length (x ∷ xs) → get_or (x ∷ xs) place 0 ≡ number
    → IsPlaced (x ∷ filter p xs) number
kept-later p x xs number rest zero within there = record { place = 0; within = omega arith; there = there }
kept-later p x xs number rest (suc place) within there =
    placed-next x number (filter p xs) (rest (record { place = place; within = omega arith; there = there }))

pub differ : false ≡ true → ⊥
differ same = absurd (cc)

not-first : (p : ℕ → Bool) (x : ℕ) (xs : List ℕ) (number : ℕ) → p number ≡ true → p x ≡ false → (IsPlaced xs number → IsPlaced (filter p xs) number) → (place : ℕ) → place < length (x ∷ xs)
    → get_or (x ∷ xs) place 0 ≡ number → IsPlaced (filter p xs) number
not-first p x xs number passes dropped rest zero within there = absurd (differ (sym dropped ∙ ap p there ∙ passes))
not-first p x xs number passes dropped rest (suc place) within there =
    rest (record { place = place; within = omega arith; there = there })

kept-first : (p : ℕ → Bool) (x : ℕ) (xs : List ℕ) (number : ℕ) → p number ≡ true → (IsPlaced xs number → IsPlaced (filter p xs) number) → IsPlaced (x ∷ xs) number → (p x ≡ true) ⊎ (p x ≡ false)
    → IsPlaced (filter p (x ∷ xs)) number
kept-first p x xs number passes rest at (inl kept) = subst (λ (ns : List ℕ). IsPlaced ns number) (sym (cons-kept p x xs kept)) (kept-later p x xs number rest at.place at.within at.there)
kept-first p x xs number passes rest at (inr dropped) = subst (λ (ns : List ℕ). IsPlaced ns number) (sym (cons-dropped p x xs dropped))
    (not-first p x xs number passes dropped rest at.place at.within at.there)

kept-placed : (p : ℕ → Bool) (numbers : List ℕ) (number : ℕ) → p number ≡ true → IsPlaced numbers number → IsPlaced (filter p numbers) number
kept-placed p [] number passes at = absurd (omega (arith, at.within))
kept-placed p (x ∷ xs) number passes at = kept-first p x xs number passes (kept-placed p xs number passes) at (cases_Bool (p x))

-- a number stands among those from one on
pub before-placed : (first behind number : ℕ) → first ≤ number → number < behind → IsPlaced (numbers_before first behind) number
before-placed first behind number after below =
    let inside : number - first < behind - first = omega arith in
    let at : first + (number - first) ≡ number = omega arith in
    record {
      place = number - first;
      within = omega (arith, length-numbers_from first (behind - first));
      there = get_or-numbers_from first (behind - first) (number - first) 0 inside ∙ at;
    }

-- and among those in a zone where it lies in it
pub zone-placed : (fixes : List Fix) (first behind : ℕ) (zone : Zone) (number : ℕ) → first ≤ number → number < behind → IsSomeAnd (slice_get fixes number) (λ fix. IsTrue (is_in_zone zone fix.at))
    → IsPlaced (numbers_in_zone fixes first behind zone) number
zone-placed fixes first behind zone number after below inside =
    kept-placed (λ k. lies_in zone (slice_get fixes k)) (numbers_before first behind) number (lies-when zone (slice_get fixes number) inside) (before-placed first behind number after below)
