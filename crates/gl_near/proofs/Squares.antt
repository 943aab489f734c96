-- The fix of a flight with the least squared chord to a place.
use Rattle.std.proofs.Common.{◌≡◌, ◌∙◌, sym, ap, refl, subst, ℕ, zero, suc, ◌+◌, ◌<◌, ◌≤◌, List, [], ◌∷◌, length, get_or, Some, slice_get, inl, inr, arith}
use Rattle.std.proofs.lemmas.Bool.{cases_lt}
use Rattle.gl_sphere.specs.declared.place.Vec3.{Vec3}
use Rattle.gl_sphere.specs.Distance.{squared_chord, written_distance}
use Rattle.gl_igc.specs.declared.fix.Fix.{Fix}
use Rattle.gl_near.specs.Pairing.{IsLeast, place}
use Rattle.gl_near.proofs.PairsLemmas.{same_fix, slice_get_below}

pub slice_get_of : (fixes : List Fix) (k : ℕ) (fix : Fix) → k < length fixes → fix ≡ get_or fixes k fix → slice_get fixes k ≡ Some fix
slice_get_of [] k fix below is = absurd (omega arith)
slice_get_of (f ∷ fs) zero fix below is = ap Some (sym is)
slice_get_of (f ∷ fs) (suc k) fix below is = slice_get_of fs k fix (omega arith) is

-- the fix of a number has this squared chord
pub record HasSquare (flight : List Fix) (point : Vec3) (square number : ℕ) : Type 0 where
  pub fix : Fix
  pub there : slice_get flight number ≡ Some fix
  pub is : squared_chord fix.at point ≡ square

-- no fix before a number has less
abbrev pub NoneLess : List Fix → Vec3 → ℕ → ℕ → Type 0
NoneLess flight point square count = (number : ℕ) (other : ℕ) → number < count → HasSquare flight point other number → square ≤ other

pub none_first : (flight : List Fix) (point : Vec3) (square : ℕ) → HasSquare flight point square 0 → NoneLess flight point square 1
none_first flight point square has number other below at =
    let zero_is : number ≡ 0 = omega arith in
    let same = same_fix flight 0 has.fix at.fix has.there (subst (λ (k : ℕ). slice_get flight k ≡ Some at.fix) zero_is at.there) in
    omega (arith, sym has.is ∙ (ap (λ (fix : Fix). squared_chord fix.at point) same ∙ at.is))

-- one fix more
pub none_more : (flight : List Fix) (point : Vec3) (least square now count : ℕ) → NoneLess flight point least count → HasSquare flight point square count → now ≤ least → now ≤ square
    → NoneLess flight point now (count + 1)
none_more flight point least square now count none has few most number other below at =
    elim (cases_lt number count) [
      | inl before ↦ omega (arith, none number other before at, few)
      | inr last ↦
          let here : count ≡ number = omega arith in
          let same = same_fix flight number has.fix at.fix (subst (λ (k : ℕ). slice_get flight k ≡ Some has.fix) here has.there) at.there in
          omega (arith, most, sym has.is ∙ (ap (λ (fix : Fix). squared_chord fix.at point) same ∙ at.is))
    ]

-- so its distance is the least
pub square_least : (flight : List Fix) (point : Vec3) (square number total : ℕ) → HasSquare flight point square number → NoneLess flight point square (length flight) → total ≡ written_distance square
    → ((other : ℕ) → square ≤ other → total ≤ written_distance other) → IsLeast (place flight point) (Some total)
square_least flight point square number total has none is rises = (
  (number, 0, record { fix = has.fix; there = has.there; only = refl; is = ap written_distance has.is ∙ sym is }),
  λ first second distance at.
      let other = squared_chord at.fix.at point in
      let below = slice_get_below flight first at.fix at.there in
      let more = rises other (none first other below (record { fix = at.fix; there = at.there; is = refl })) in
      omega (arith, more, at.is),
)
