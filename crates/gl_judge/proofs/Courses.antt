-- The legs that are left of a course.
use Rattle.std.proofs.Common.{◌≡◌, ◌∙◌, sym, ap, ℕ, zero, suc, ◌+◌, ◌^◌, ◌<◌, ◌≤◌, List, [], ◌∷◌, ◌++◌, map, drop, take, length, get_or, Some, slice_get, add-one, arith}
use Rattle.std.proofs.lemmas.List.{length-take}
use Rattle.gl_goal.specs.Lemmas.Chain.{legs-limited}
use Rattle.std.proofs.Math.ListN.{drop_of_length-le}
use Rattle.std.proofs.Math.Seq.{drop-cons}
use Rattle.gl_sphere.specs.declared.place.Vec3.{Vec3}
use Rattle.gl_zone.specs.declared.zone.Zone.{Zone}
use Rattle.gl_sphere.specs.Distance.{distance}
use Rattle.gl_goal.specs.Chain.{legs}

-- from a point through the centres of zones to a finish point
abbrev pub course_from : Vec3 → List Zone → Vec3 → List Vec3
course_from last zones finish = last ∷ (map (λ zone. zone.centre) zones ++ finish ∷ [])

pub one_leg : (last finish : Vec3) (zones list : List Zone) (k : ℕ) (zone : Zone) → list ≡ zones → k < length zones → zone ≡ get_or list k zone
    → legs (course_from last (drop k zones) finish) ≡ distance last zone.centre + legs (course_from zone.centre (drop (k + 1) zones) finish)
one_leg last finish zones list k zone same within at =
    let here : zone ≡ get_or zones k zone = at ∙ ap (λ (z : List Zone). get_or z k zone) same in
    let next : suc k ≡ k + 1 = omega arith in
    let parts : drop k zones ≡ zone ∷ drop (k + 1) zones =
    drop-cons zones k zone within ∙ ap (λ (z : Zone). z ∷ drop (suc k) zones) (sym here) ∙ ap (λ (n : ℕ). zone ∷ drop n zones) next in
    ap (λ (z : List Zone). legs (course_from last z finish)) parts

pub last_leg : (last finish : Vec3) (zones : List Zone) (k : ℕ) → length zones ≤ k → legs (course_from last (drop k zones) finish) ≡ distance last finish
last_leg last finish zones k past =
    let none : drop k zones ≡ [] = drop_of_length-le zones past in
    ap (λ (z : List Zone). legs (course_from last z finish)) none ∙ no_more
  where
    no_more : distance last finish + 0 ≡ distance last finish
    no_more = omega arith

-- the point of a course behind so many zones
pub centre-at : (zones : List Zone) (finish : Vec3) (k : ℕ) (zone : Zone) → k < length zones → zone ≡ get_or zones k zone → slice_get (map (λ z. z.centre) zones ++ finish ∷ []) k ≡ Some zone.centre
centre-at [] finish k zone below is = absurd (omega arith)
centre-at (z ∷ zones) finish zero zone below is = ap (λ (some : Zone). Some some.centre) (sym is)
centre-at (z ∷ zones) finish (suc k) zone below is = centre-at zones finish k zone (omega arith) is

-- the legs from the start to a point of the course
pub legs-before : (start : Vec3) (points : List Vec3) (count : ℕ) → legs (start ∷ take count points) ≡ legs (take (count + 1) (start ∷ points))
legs-before start points count = ap (λ (n : ℕ). legs (take n (start ∷ points))) (sym (add-one count))

pub legs-short : (start : Vec3) (points : List Vec3) (count : ℕ) → count ≤ 8 → legs (start ∷ take count points) < 2 ^ 40
legs-short start points count eight = omega (arith, legs-limited (start ∷ take count points), length-take count points)
