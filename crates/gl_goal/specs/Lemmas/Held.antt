-- What the hull of a span says of the fixes in it.
use Rattle.std.proofs.Common.{◌≡◌, ◌∙◌, ap, refl, subst, ℕ, zero, suc, ◌+◌, ◌-◌, ◌<◌, ◌≤◌, List, [], ◌∷◌, length, map, drop, get_or, Some, slice_get, ℤ, arith}
use Rattle.std.proofs.lemmas.Int.{ints}
use Rattle.std.proofs.lemmas.List.{get_or-drop, get_or-map, get_or-take, length-drop, length-map, length-take}
use Rattle.gl_sphere.specs.declared.place.Vec3.{Vec3}
use Rattle.gl_igc.specs.declared.fix.Fix.{Fix}
use Rattle.gl_goal.specs.Box.{AreEnds, Box, IsBetween, IsInside, ends_of, fixes_in, hull_of, point_box}
use Rattle.gl_goal.specs.Lemmas.Boxes.{hull_of-is_least}

-- the fix that a number names
pub named : (fixes : List Fix) (number : ℕ) → number < length fixes → (fix : Fix) × (slice_get fixes number ≡ Some fix)
named [] number below = absurd (omega arith)
named (fix ∷ fixes) zero below = (fix, refl)
named (fix ∷ fixes) (suc number) below = named fixes number (omega arith)

-- a box holds a fix, by its point and its altitude
pub record IsHeld (box : Box) (fix : Fix) : Type 0 where
  pub inside : IsInside box fix.at
  pub altitude : IsBetween box.alt fix.alt

component-between : (f : Fix → ℤ) (fixes : List Fix) (k : ℕ) (fix : Fix) (ends : ℤ × ℤ) → AreEnds ends (map f fixes) → k < length fixes → get_or fixes k fix ≡ fix → IsBetween ends (f fix)
component-between f fixes k fix ends are below is =
    let P : ℤ → Type 0 = IsBetween ends in
    subst P (get_or-map f fixes k fix (f fix) below ∙ ap f is) (are.between k (f fix) (omega (arith, length-map fixes f)))

-- the hull of a span holds the fix at each of its places
pub hull_of-holds : (fixes : List Fix) (span : ℕ × ℕ) (place : ℕ) (fix : Fix) → span.0 ≤ place → place ≤ span.1 → span.1 < length fixes → get_or fixes place fix ≡ fix
    → IsHeld (hull_of (fixes_in fixes span)) fix
hull_of-holds fixes span place fix low high within is =
    let seen = fixes_in fixes span in
    let at = place - span.0 in
    let size : length seen ≡ span.1 + 1 - span.0 = omega (arith, length-take (span.1 + 1 - span.0) (drop span.0 fixes), length-drop span.0 fixes) in
    let below : at < length seen = omega arith in
    let there : get_or seen at fix ≡ fix = get_or-take (span.1 + 1 - span.0) (drop span.0 fixes) at fix (omega arith) ∙ get_or-drop span.0 fixes at fix ∙ ap (λ k. get_or fixes k fix) (omega arith)
    ∙ is in
    let least = hull_of-is_least seen (omega arith) in
    record {
      inside = record {
        x = component-between (λ f. f.at.x) seen at fix _ least.x below there;
        y = component-between (λ f. f.at.y) seen at fix _ least.y below there;
        z = component-between (λ f. f.at.z) seen at fix _ least.z below there;
      };
      altitude = component-between (λ f. f.alt) seen at fix _ least.alt below there;
    }

-- the box of a single fix
abbrev pub fix_box : Fix → Box
fix_box fix = record {
  x = (fix.at.x, fix.at.x);
  y = (fix.at.y, fix.at.y);
  z = (fix.at.z, fix.at.z);
  alt = (fix.alt, fix.alt);
}

pub hull_of-single : (fix : Fix) → hull_of (fix ∷ []) ≡ fix_box fix
unfolding ends_of
hull_of-single fix = refl

-- the box of a point holds it
pub point_box-inside : (at : Vec3) → IsInside (point_box at) at
point_box-inside at = record {
  x = (omega (arith, ints), omega (arith, ints));
  y = (omega (arith, ints), omega (arith, ints));
  z = (omega (arith, ints), omega (arith, ints));
}
