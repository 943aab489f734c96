use Rattle.std.proofs.Common.{◌≡◌}
use mathlib.Core.HLevel.{is_prop→PathP}
use Rattle.gl_sphere.specs.Range.{IsWithin}
use Rattle.gl_sphere.specs.Lemmas.Bounds.{within-prop}
use Rattle.gl_sphere.specs.declared.place.Vec3.{Vec3}
use Rattle.gl_sphere.specs.Sphere.{radius}

-- two points with the same components are one
pub Vec3-same : (v w : Vec3) → v.x ≡ w.x → v.y ≡ w.y → v.z ≡ w.z → v ≡ w
Vec3-same v w same_x same_y same_z =
    λ i. record {
      x = same_x i;
      y = same_y i;
      z = same_z i;
      x_in_range = is_prop→PathP (λ j. IsWithin radius (same_x j)) (λ j. within-prop radius (same_x j)) v.x_in_range w.x_in_range i;
      y_in_range = is_prop→PathP (λ j. IsWithin radius (same_y j)) (λ j. within-prop radius (same_y j)) v.y_in_range w.y_in_range i;
      z_in_range = is_prop→PathP (λ j. IsWithin radius (same_z j)) (λ j. within-prop radius (same_z j)) v.z_in_range w.z_in_range i;
    }
