-- Places are one where their angles are.
use Rattle.std.proofs.Common.{◌≡◌, refl, ap, List, [], ◌∷◌, map, ℤ}
use mathlib.Core.HLevel.{is_prop→PathP}
use Rattle.gl_sphere.specs.Lemmas.Bounds.{within-prop}
use Rattle.gl_sphere.specs.PlaceText.{place_of}
use Rattle.gl_sphere.specs.Range.{IsWithin}
use Rattle.gl_sphere.specs.Sphere.{quarter_turn, half_turn}
use Rattle.gl_sphere.specs.declared.place.Grid.{Grid}

-- two places with the same angles are one
pub Grid-same : (v w : Grid) → v.lat ≡ w.lat → v.lon ≡ w.lon → v ≡ w
Grid-same v w same_lat same_lon =
    λ i. record {
      lat = same_lat i;
      lon = same_lon i;
      lat_in_range = is_prop→PathP (λ j. IsWithin quarter_turn (same_lat j)) (λ j. within-prop quarter_turn (same_lat j)) v.lat_in_range w.lat_in_range i;
      lon_in_range = is_prop→PathP (λ j. IsWithin half_turn (same_lon j)) (λ j. within-prop half_turn (same_lon j)) v.lon_in_range w.lon_in_range i;
    }

-- a place is known by its latitude and its longitude
pub place_same : (v w : Grid) → place_of v ≡ place_of w → v ≡ w
place_same v w same =
    Grid-same v w (ap (λ (p : ℤ × ℤ). p.0) same) (ap (λ (p : ℤ × ℤ). p.1) same)

-- lists are the same where a function that tells their items apart makes the same of them
pub each_back : {A B : Type 0} (f : A → B) → ((x y : A) → f x ≡ f y → x ≡ y) → (xs ys : List A) → map f xs ≡ map f ys → xs ≡ ys
each_back f once [] [] same = refl
each_back f once [] (y ∷ ys) same = absurd (cc)
each_back f once (x ∷ xs) [] same = absurd (cc)
each_back f once (x ∷ xs) (y ∷ ys) same =
    let first : f x ≡ f y = cc in
    let rest : map f xs ≡ map f ys = cc in
    let one = once x y first in
    let others = each_back f once xs ys rest in
    λ i. one i ∷ others i
