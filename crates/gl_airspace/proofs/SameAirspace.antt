-- A text has one airspace.
use Rattle.std.proofs.Common.{◌≡◌, ◌∙◌, refl, sym, ap, ℕ, List, [], ◌∷◌, Option, None, Some, ℤ}
use Rattle.gl_sphere.specs.Place.{written_vector}
use Rattle.gl_sphere.specs.PlaceText.{place_of}
use Rattle.gl_airspace.specs.declared.volume.Airspace.{Airspace}
use Rattle.gl_airspace.specs.declared.volume.Circle.{Circle}
use Rattle.gl_airspace.specs.declared.volume.Shape.{Shape}
use Rattle.gl_airspace.specs.declared.volume.Shape.TheVariants.{Polygon, Circle as Round}
use Rattle.gl_airspace.specs.declared.volume.Volume.{Volume}
use Rattle.gl_airspace.specs.Airspace.{IsAirspace}
use Rattle.gl_airspace.specs.Draft.{IsCircle, IsRound, IsShape, IsVolume}
use Rattle.gl_airspace.specs.Parts.{AreVolumes}
use Rattle.gl_airspace.specs.Volumes.{Reading, circle_in, parted, readings_of}
use Rattle.gl_sphere.proofs.SamePlaces.{each_back, place_same}

circle_same : (circle : (ℤ × ℤ) × ℕ) (v w : Circle) → IsRound v circle → IsRound w circle → v ≡ w
circle_same circle v w is_v is_w =
    let grid : is_v.grid ≡ is_w.grid = place_same is_v.grid is_w.grid (is_v.place ∙ sym is_w.place) in
    let centre : v.centre ≡ w.centre = is_v.centre ∙ ap written_vector grid ∙ sym is_w.centre in
    let radius : v.radius ≡ w.radius = is_v.radius ∙ sym is_w.radius in
    λ i. record { centre = centre i; radius = radius i }

made_same : (circle : Option ((ℤ × ℤ) × ℕ)) (v w : Circle) → IsCircle (Some v) circle → IsCircle (Some w) circle → v ≡ w
made_same None v w is_v is_w = absurd is_v
made_same (Some circle) v w is_v is_w = circle_same circle v w is_v is_w

-- lines that make no circle have none
none_made : (circle : Option ((ℤ × ℤ) × ℕ)) (v : Circle) → circle ≡ None → IsCircle (Some v) circle → ⊥
none_made None v none is = is
none_made (Some circle) v none is = cc

shape_same : (lines : List Reading) (v w : Shape) → IsShape lines v → IsShape lines w → v ≡ w
shape_same lines (Round v) (Round w) is_v is_w = ap Round (made_same (circle_in lines) v w is_v is_w)
shape_same lines (Round v) (Polygon w) is_v is_w = absurd (none_made (circle_in lines) v is_w.0 is_v)
shape_same lines (Polygon v) (Round w) is_v is_w = absurd (none_made (circle_in lines) w is_v.0 is_w)
shape_same lines (Polygon v) (Polygon w) is_v is_w =
    ap Polygon (each_back place_of place_same v w (is_v.1 ∙ sym is_w.1))

one : (said : Option ℤ) (a b : ℤ) → Some a ≡ said → Some b ≡ said → a ≡ b
one said a b is_a is_b = cc

volume_same : (lines : List Reading) (v w : Volume) → IsVolume lines v → IsVolume lines w → v ≡ w
volume_same lines v w is_v is_w =
    let floor = one _ v.floor w.floor is_v.floor is_w.floor in
    let ceiling = one _ v.ceiling w.ceiling is_v.ceiling is_w.ceiling in
    let shape = shape_same lines v.shape w.shape is_v.shape is_w.shape in
    λ i. record { floor = floor i; ceiling = ceiling i; shape = shape i }

volumes_same : (parts : List (List Reading)) (vs ws : List Volume) → AreVolumes parts vs → AreVolumes parts ws → vs ≡ ws
volumes_same [] [] [] are_v are_w = refl
volumes_same [] [] (w ∷ ws) are_v are_w = absurd are_w
volumes_same [] (v ∷ vs) ws are_v are_w = absurd are_v
volumes_same (lines ∷ rest) [] ws are_v are_w = absurd are_v
volumes_same (lines ∷ rest) (v ∷ vs) [] are_v are_w = absurd are_w
volumes_same (lines ∷ rest) (v ∷ vs) (w ∷ ws) are_v are_w =
    let first = volume_same lines v w are_v.0 are_w.0 in
    let others = volumes_same rest vs ws are_v.1 are_w.1 in
    λ i. first i ∷ others i

-- airspace is known by its volumes
by_volumes : (a b : Airspace) → a.volumes ≡ b.volumes → a ≡ b
by_volumes a b same = λ i. record { volumes = same i }

-- a text has one airspace
pub airspace_same : (text : List ℕ) (a b : Airspace) → IsAirspace text a → IsAirspace text b → a ≡ b
airspace_same text a b is_a is_b =
    by_volumes a b
    (volumes_same (parted (readings_of text)).1 a.volumes b.volumes is_a.volumes is_b.volumes)

-- there is one airspace without a volume
pub no_volumes_same : (a b : Airspace) → a.volumes ≡ [] → b.volumes ≡ [] → a ≡ b
no_volumes_same a b none_a none_b = by_volumes a b (none_a ∙ sym none_b)
