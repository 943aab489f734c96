-- A declared course is flown in order exactly where its goal has a legal choice.
use Rattle.std.proofs.Common.{◌≡◌, ◌∙◌, sym, ap, refl, subst, ℕ, zero, suc, ◌<◌, Bool, true, false, List, [], ◌∷◌, length, map, get_or, Option, None, slice_get, ◌⊎◌, inl, inr, arith}
use Rattle.std.specs.Prelude.{IsTrue}
use Rattle.std.specs.List.{AllZip, filter}
use Rattle.std.proofs.lemmas.Bool.{cases_Bool}
use Rattle.std.proofs.lemmas.List.Elements.{filter_passes}
use Rattle.std.proofs.lemmas.Option.{slice_get_cases}
use Rattle.gl_sphere.specs.declared.place.Vec3.{Vec3}
use Rattle.gl_igc.specs.declared.fix.Fix.{Fix}
use Rattle.gl_goal.specs.Area.{area_goal}
use Rattle.gl_goal.specs.Free.{numbers_from}
use Rattle.gl_goal.specs.Lemmas.Free.{get_or-numbers_from, length-numbers_from}
use Rattle.gl_goal.specs.Goal.{IsInTimeOrder, IsLegal, IsTuple, chosen}
use Rattle.gl_badge.specs.Course.{IsFlown, is_near, numbers_near}

abbrev AreNearEach : List Fix → List Vec3 → List ℕ → Type 0
AreNearEach fixes points numbers = AllZip (λ point i. IsTrue (is_near point (slice_get fixes i))) points numbers

-- the fixes that a tuple chooses are near the points
chosen-near : (fixes : List Fix) (points : List Vec3) (tuple : List ℕ) → IsTuple (map (numbers_near fixes) points) tuple → AreNearEach fixes points (chosen (map (numbers_near fixes) points) tuple)
chosen-near fixes [] [] fits = tt
chosen-near fixes [] (place ∷ places) fits = absurd fits
chosen-near fixes (point ∷ points) [] fits = absurd fits
chosen-near fixes (point ∷ points) (place ∷ places) fits =
    (filter_passes (λ i. is_near point (slice_get fixes i)) (numbers_from 0 (length fixes)) place 0 fits.0, chosen-near fixes points places fits.1)

-- where a number stands in a list
record IsPlaced (numbers : List ℕ) (number : ℕ) : Type 0 where
  place : ℕ
  within : place < length numbers
  there : get_or numbers place 0 ≡ number

placed-next : (first number : ℕ) (numbers : List ℕ) → IsPlaced numbers number → IsPlaced (first ∷ numbers) number
placed-next first number numbers at = record { place = suc at.place; within = omega (arith, at.within); there = at.there }

cons-kept : (p : ℕ → Bool) (x : ℕ) (xs : List ℕ) → p x ≡ true → filter p (x ∷ xs) ≡ x ∷ filter p xs
cons-kept p x xs kept = cc

cons-dropped : (p : ℕ → Bool) (x : ℕ) (xs : List ℕ) → p x ≡ false → filter p (x ∷ xs) ≡ filter p xs
cons-dropped p x xs dropped = cc

differ : false ≡ true → ⊥
differ same = absurd (cc)

kept-first : (p : ℕ → Bool) (x : ℕ) (xs : List ℕ) (number : ℕ) → p number ≡ true → ((place : ℕ) → place < length xs → get_or xs place 0 ≡ number → IsPlaced (filter p xs) number) → (place : ℕ)
    → place < length (x ∷ xs) → get_or (x ∷ xs) place 0 ≡ number → (p x ≡ true) ⊎ (p x ≡ false) → IsPlaced (filter p (x ∷ xs)) number
kept-first p x xs number passes rest zero within there (inl kept) =
    subst (λ (ns : List ℕ). IsPlaced ns number) (sym (cons-kept p x xs kept)) (record { place = 0; within = omega arith; there = there })
kept-first p x xs number passes rest zero within there (inr dropped) = absurd (differ (sym dropped ∙ ap p there ∙ passes))
kept-first p x xs number passes rest (suc place) within there (inl kept) =
    subst (λ (ns : List ℕ). IsPlaced ns number) (sym (cons-kept p x xs kept)) (placed-next x number (filter p xs) (rest place (omega arith) there))
kept-first p x xs number passes rest (suc place) within there (inr dropped) =
    subst (λ (ns : List ℕ). IsPlaced ns number) (sym (cons-dropped p x xs dropped)) (rest place (omega arith) there)

-- a number that passes a test stands among those that do
kept-placed : (p : ℕ → Bool) (numbers : List ℕ) (number : ℕ) → p number ≡ true → (place : ℕ) → place < length numbers → get_or numbers place 0 ≡ number → IsPlaced (filter p numbers) number
kept-placed p [] number passes place within there = absurd (omega arith)
kept-placed p (x ∷ xs) number passes place within there =
    kept-first p x xs number passes (kept-placed p xs number passes) place within there (cases_Bool (p x))

near-none : (point : Vec3) (seen : Option Fix) → seen ≡ None → is_near point seen ≡ true → ⊥
near-none point seen none near = differ (sym (ap (is_near point) none) ∙ near)

-- a fix that is near a point has a number
near-within : (fixes : List Fix) (point : Vec3) (number : ℕ) → IsTrue (is_near point (slice_get fixes number)) → number < length fixes
near-within fixes point number near = elim (slice_get_cases fixes number).1 [
  | inl found ↦ found.1
  | inr past ↦ absurd (near-none point (slice_get fixes number) past.1 near)
]

near-placed : (fixes : List Fix) (point : Vec3) (number : ℕ) → IsTrue (is_near point (slice_get fixes number)) → IsPlaced (numbers_near fixes point) number
near-placed fixes point number near =
    let within = near-within fixes point number near in
    kept-placed (λ i. is_near point (slice_get fixes i)) (numbers_from 0 (length fixes)) number near number (omega (arith, within, length-numbers_from 0 (length fixes)))
    (omega (arith, get_or-numbers_from 0 (length fixes) number 0 within))

-- fixes near the points are chosen by a tuple
record IsChosen (fixes : List Fix) (points : List Vec3) (numbers : List ℕ) : Type 0 where
  tuple : List ℕ
  fits : IsTuple (map (numbers_near fixes) points) tuple
  are : chosen (map (numbers_near fixes) points) tuple ≡ numbers

near-chosen : (fixes : List Fix) (points : List Vec3) (numbers : List ℕ) → AreNearEach fixes points numbers → IsChosen fixes points numbers
near-chosen fixes [] [] near = record { tuple = []; fits = tt; are = refl }
near-chosen fixes [] (number ∷ numbers) near = absurd near
near-chosen fixes (point ∷ points) [] near = absurd near
near-chosen fixes (point ∷ points) (number ∷ numbers) near =
    let at = near-placed fixes point number near.0 in
    let rest = near-chosen fixes points numbers near.1 in
    record { tuple = at.place ∷ rest.tuple; fits = (at.within, rest.fits); are = λ i. at.there i ∷ rest.are i }

-- a legal choice of the goal of a course is a flight along it, and the other way round
pub flown-legal : (fixes : List Fix) (points : List Vec3) (lists : List (List ℕ)) (start finish : Vec3) (tuple : List ℕ) → lists ≡ map (numbers_near fixes) points
    → IsLegal (area_goal fixes lists start finish 0) tuple → IsFlown fixes points
unfolding area_goal
flown-legal fixes points lists start finish tuple are legal =
    record {
      numbers = chosen lists tuple;
      in_order = legal.in_order;
      near = subst (λ (ls : List (List ℕ)). AreNearEach fixes points (chosen ls tuple)) (sym are)
          (chosen-near fixes points tuple (subst (λ (ls : List (List ℕ)). IsTuple ls tuple) are legal.is_tuple));
    }

pub legal-flown : (fixes : List Fix) (points : List Vec3) (lists : List (List ℕ)) (start finish : Vec3) → lists ≡ map (numbers_near fixes) points → IsFlown fixes points
    → (tuple : List ℕ) × IsLegal (area_goal fixes lists start finish 0) tuple
unfolding area_goal
legal-flown fixes points lists start finish are flown =
    let at = near-chosen fixes points flown.numbers flown.near in (
      at.tuple,
      record {
        is_tuple = subst (λ (ls : List (List ℕ)). IsTuple ls at.tuple) (sym are) at.fits;
        in_order = subst (λ (ls : List (List ℕ)). IsInTimeOrder (chosen ls at.tuple)) (sym are) (subst IsInTimeOrder (sym at.are) flown.in_order);
        allowed = refl;
      },
    )
