-- The hull of some fixes holds each of them, and its ends are reached.
use Rattle.std.proofs.Common.{◌≡◌, suc, ◌<◌, List, [], ◌∷◌, map, length, ℤ, ⊎_elim, refl, sym, arith}
use Rattle.std.specs.Prelude.{Contains, fold}
use Rattle.std.specs.Int.{int_min, int_max}
use Rattle.std.proofs.lemmas.Int.{fold-int_min_bounds, fold-int_min_reached, fold-int_max_bounds, fold-int_max_reached}
use Rattle.std.proofs.lemmas.List.{length-map}
use Rattle.std.proofs.lemmas.List.Elements.{All-cons}
use Rattle.gl_igc.specs.declared.fix.Fix.{Fix}
use Rattle.gl_goal.specs.Box.{AreEnds, IsBetween, IsLeastBox, ends_of, hull_of}

-- what is among the later values is among all
pub Contains-later : (first value : ℤ) (values : List ℤ) → Contains values value → Contains (first ∷ values) value
Contains-later first value values reached = (suc reached.0, omega (arith, reached.1), reached.2)

Contains-first : (first value : ℤ) (values : List ℤ) → value ≡ first → Contains (first ∷ values) value
Contains-first first value values is = (0, omega arith, sym is)

ends_of-reached : (value : ℤ) (values : List ℤ) → Contains (value ∷ values) (fold int_min value values) × Contains (value ∷ values) (fold int_max value values)
ends_of-reached value values =
    let least = fold int_min value values in
    let greatest = fold int_max value values in (
      ⊎_elim
          (λ (is : least ≡ value). Contains-first value least values is)
          (λ (later : Contains values least). Contains-later value least values later)
          (fold-int_min_reached value values least refl),
      ⊎_elim
          (λ (is : greatest ≡ value). Contains-first value greatest values is)
          (λ (later : Contains values greatest). Contains-later value greatest values later)
          (fold-int_max_reached value values greatest refl),
    )

-- the ends of some values are reached, and the values lie between them
pub ends_of-are_ends : (values : List ℤ) → 0 < length values → AreEnds (ends_of values) values
unfolding ends_of
ends_of-are_ends [] some = absurd (omega arith)
ends_of-are_ends (value ∷ values) some =
    let least = fold int_min value values in
    let greatest = fold int_max value values in
    let low = fold-int_min_bounds value values least refl in
    let high = fold-int_max_bounds value values greatest refl in
    record {
      between = All-cons (IsBetween (least, greatest)) value values (low.0, high.0) (λ k d below. (low.1 k d below, high.1 k d below));
      lower_reached = (ends_of-reached value values).0;
      upper_reached = (ends_of-reached value values).1;
    }

component-are_ends : (f : Fix → ℤ) (fixes : List Fix) → 0 < length fixes → AreEnds (ends_of (map f fixes)) (map f fixes)
component-are_ends f fixes some = ends_of-are_ends (map f fixes) (omega (arith, length-map fixes f))

-- the hull of some fixes is their least box
pub hull_of-is_least : (fixes : List Fix) → 0 < length fixes → IsLeastBox (hull_of fixes) fixes
hull_of-is_least fixes some = record {
  x = component-are_ends (λ fix. fix.at.x) fixes some;
  y = component-are_ends (λ fix. fix.at.y) fixes some;
  z = component-are_ends (λ fix. fix.at.z) fixes some;
  alt = component-are_ends (λ fix. fix.alt) fixes some;
}
