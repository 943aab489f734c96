-- The nearer of the nearest fix so far and the next one.
use Rattle.std.proofs.Common.{◌≡◌, subst, ℕ, ◌+◌, ◌<◌, ◌≤◌, List, Some, arith, inl, inr}
use Rattle.std.specs.Prelude.{slice_get}
use Rattle.std.proofs.lemmas.Bool.{cases_lt}
use Rattle.gl_igc.specs.declared.fix.Fix.{Fix}
use Rattle.gl_sphere.specs.Distance.{distance}
use Rattle.gl_sphere.specs.declared.place.Vec3.{Vec3}
use Rattle.gl_why.specs.Code.Nearest.{IsMissAt, IsNearestBefore}
use Rattle.gl_why.specs.declared.fact.Miss.{Miss}

-- the fix of a number is as far as was found
far_at : (fixes : List Fix) (i j : ℕ) (to : Vec3) (miss : Miss) (fix : Fix) → IsMissAt fixes i to miss → j ≡ i → slice_get fixes j ≡ Some fix → miss.distance ≡ distance fix.at to
far_at fixes i j to miss fix at same is =
    let number : miss.at.number ≡ i = at.number in
    let spot : slice_get fixes miss.at.number ≡ Some miss.at.fix = at.spot in
    let one : miss.at.fix ≡ fix = cc in
    subst (λ (f : Fix). miss.distance ≡ distance f.at to) one at.distance_is

-- the next one is nearer
pub next_nearest : (fixes : List Fix) (from i : ℕ) (to : Vec3) (best other : Miss) → from ≤ i → IsNearestBefore fixes from i to best → IsMissAt fixes i to other → other.distance < best.distance
    → IsNearestBefore fixes from (i + 1) to other
next_nearest fixes from i to best other after nearest at less =
    let number : other.at.number ≡ i = at.number in
    record {
      spot = at.spot;
      after = omega arith;
      before = omega arith;
      distance_is = at.distance_is;
      least = λ j fix low high is.
          elim (cases_lt j i) as (λ _. other.distance ≤ distance fix.at to) [
            | inl lt ↦ (let far : best.distance ≤ distance fix.at to = nearest.least j fix low lt is in omega arith)
            | inr ge ↦ (let far : other.distance ≡ distance fix.at to = far_at fixes i j to other fix at (omega arith) is in omega arith)
          ];
      first = λ j fix low lt is. (let far : best.distance ≤ distance fix.at to = nearest.least j fix low (omega arith) is in omega arith);
    }

-- it isn't nearer
pub still_nearest : (fixes : List Fix) (from i : ℕ) (to : Vec3) (best other : Miss) → IsNearestBefore fixes from i to best → IsMissAt fixes i to other → best.distance ≤ other.distance
    → IsNearestBefore fixes from (i + 1) to best
still_nearest fixes from i to best other nearest at no_less =
    let before : best.at.number < i = nearest.before in
    record {
      spot = nearest.spot;
      after = nearest.after;
      before = omega arith;
      distance_is = nearest.distance_is;
      least = λ j fix low high is.
          elim (cases_lt j i) as (λ _. best.distance ≤ distance fix.at to) [
            | inl lt ↦ nearest.least j fix low lt is
            | inr ge ↦ (let far : other.distance ≡ distance fix.at to = far_at fixes i j to other fix at (omega arith) is in omega arith)
          ];
      first = nearest.first;
    }
