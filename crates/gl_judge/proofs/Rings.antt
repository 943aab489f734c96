-- Fixes in a finish ring.
use Rattle.std.proofs.Common.{◌≡◌, subst, ℕ, ◌≤◌, List, Some, ℤ}
use Rattle.std.specs.Prelude.{slice_get}
use Rattle.gl_sphere.specs.declared.place.Vec3.{Vec3}
use Rattle.gl_sphere.specs.Distance.{squared_chord, written_distance}
use Rattle.gl_igc.specs.declared.fix.Fix.{Fix}
use Rattle.gl_judge.specs.declared.stretch.Stretch.{Stretch}
use Rattle.gl_judge.specs.Finishes.{IsInRing}
use Rattle.gl_judge.specs.JudgedFixes.{IsInRange}

pub in_ring : (at : Vec3) (radius : ℕ) (fixes : List Fix) (judged : Stretch) (f : ℕ) (fix : Fix) (time : ℤ) → IsInRange judged f → slice_get fixes f ≡ Some fix
    → written_distance (squared_chord fix.at at) ≤ radius → time ≡ fix.second → IsInRing at radius fixes judged f time
in_ring at radius fixes judged f fix time here is near time_is =
    record { is_judged = here; fix = fix; fix_is = is; near = near; time_is = time_is }

pub not_in_ring : (at : Vec3) (radius : ℕ) (fixes : List Fix) (judged : Stretch) (f : ℕ) (fix : Fix) → slice_get fixes f ≡ Some fix → (written_distance (squared_chord fix.at at) ≤ radius → ⊥)
    → (time : ℤ) → IsInRing at radius fixes judged f time → ⊥
not_in_ring at radius fixes judged f fix is far time h =
    let also : slice_get fixes f ≡ Some h.fix = h.fix_is in
    let same : h.fix ≡ fix = cc in
    far (subst (λ (x : Fix). written_distance (squared_chord x.at at) ≤ radius) same h.near)
