-- The lists of a declared course whose points were all reached.
use Rattle.std.proofs.Common.{◌≡◌, ◌∙◌, sym, ap, refl, subst, ℕ, ◌-◌, ◌<◌, ◌≤◌, List, [], ◌∷◌, length, map, take, drop, get_or, Option, None, Some, slice_get, arith, Global, Vec}
use Rattle.std.specs.Prelude.{All}
use Rattle.std.specs.List.Sorted.{IsStrictlyIncreasing}
use Rattle.std.proofs.lemmas.List.{length-drop, length-map, length-take}
use Rattle.std.proofs.lemmas.List.Elements.{All-filter, All-map}
use Rattle.std.proofs.lemmas.List.Kept.{IsStrictlyIncreasing-filter}
use Rattle.gl_sphere.specs.declared.place.Vec3.{Vec3}
use Rattle.gl_sphere.specs.Place.{written_vector}
use Rattle.gl_igc.specs.declared.fix.Fix.{Fix}
use Rattle.gl_igc.specs.declared.recording.Declared.{Declared}
use Rattle.gl_goal.specs.Area.{area_goal}
use Rattle.gl_goal.specs.Chain.{last_of}
use Rattle.gl_goal.specs.Free.{numbers_from}
use Rattle.gl_goal.specs.Lemmas.Free.{numbers_from-rises}
use Rattle.gl_goal.specs.Lists.{AreLists, AreNamed}
use Rattle.gl_goal.specs.Goal.{Goal}
use Rattle.gl_badge.specs.declared.badge.Badge.TheVariants as badge
use Rattle.gl_badge.specs.declared.shown.Course.TheVariants.{Lists}
use Rattle.gl_badge.specs.Claims.{goals_through}
use Rattle.gl_badge.specs.Course.{AreNear, IsCourseOf, course_points, is_near, numbers_near}
use Rattle.gl_badge.specs.Lemmas.Gain.{all-named}

near-named : (fixes : List Fix) (point : Vec3) → AreNamed fixes (numbers_near fixes point)
near-named fixes point =
    All-filter (λ i. is_near point (slice_get fixes i)) (λ number. number < length fixes) (numbers_from 0 (length fixes)) (all-named fixes)

near-rises : (fixes : List Fix) (point : Vec3) → IsStrictlyIncreasing (numbers_near fixes point)
near-rises fixes point =
    IsStrictlyIncreasing-filter (λ i. is_near point (slice_get fixes i)) (numbers_from 0 (length fixes)) (numbers_from-rises 0 (length fixes))

-- the lists of one to ten points that were reached are lists to choose from
near-lists : (fixes : List Fix) (points : List Vec3) (lists : List (List ℕ)) → 1 ≤ length points → length points ≤ 10 → AreNear fixes points lists → AreLists fixes lists
near-lists fixes points lists some few near =
    let size : length lists ≡ length points = ap length near.near ∙ length-map points (numbers_near fixes) in
    let back : (P : List ℕ → Type 0) → All P (map (numbers_near fixes) points) → All P lists = λ P all. subst (All P) (sym near.near) all in
    record {
      some_list = omega (arith, size);
      ten_lists = omega (arith, size);
      some_number = back (λ list. 0 < length list) (All-map (λ list. 0 < length list) (numbers_near fixes) points near.reached);
      rising = back IsStrictlyIncreasing (All-map IsStrictlyIncreasing (numbers_near fixes) points (λ k d below. near-rises fixes (get_or points k d)));
      named = back (AreNamed fixes) (All-map (AreNamed fixes) (numbers_near fixes) points (λ k d below. near-named fixes (get_or points k d)));
    }

-- a declared course has two points at least
length-course : (declared : Declared) → 2 ≤ length (course_points declared.points)
length-course declared =
    let places = declared.points in
    omega (arith, declared.at_least_four, length-map (take (length places - 2) (drop 1 places)) written_vector, length-take (length places - 2) (drop 1 places), length-drop 1 places)

-- where each point was reached there are lists to choose from, and points
pub course-lists : (fixes : List Fix) (declared : Option Declared) (lists : Vec (Vec ℕ Global) Global) (points : Vec Vec3 Global) → IsCourseOf fixes declared (Lists lists points)
    → AreLists fixes (map (λ list. list.items) lists.items) × (1 ≤ length points.items)
course-lists fixes None lists points is = absurd (cc)
course-lists fixes (Some declared) lists points is =
    let two = length-course declared in
    (near-lists fixes (course_points declared.points) (map (λ list. list.items) lists.items) (omega arith) is.0 is.1.0, omega (arith, two, ap length is.1.1))

last_at : (start : Vec3) (points : List Vec3) (d : Vec3) → get_or (start ∷ points) (length points) d ≡ last_of start points
last_at start [] d = refl
last_at start (next ∷ points) d = last_at next points d

-- the goal through some points begins at the first and ends at the last of them
pub goals-through : (fixes : List Fix) (lists : List (List ℕ)) (points : List Vec3) (start finish : Vec3) (rule : Goal) → 1 ≤ length points → start ≡ get_or points 0 start
    → finish ≡ get_or points (length points - 1) finish → rule ≡ area_goal fixes lists start finish 0 → (badge.DeclaredGoal, rule) ∷ [] ≡ goals_through fixes lists points
goals-through fixes lists [] start finish rule some first last is = absurd (omega arith)
goals-through fixes lists (a ∷ points) start finish rule some first last is =
    let at : length (a ∷ points) - 1 ≡ length points = omega arith in
    let finish_is : finish ≡ last_of a points = last ∙ ap (λ (n : ℕ). get_or (a ∷ points) n finish) at ∙ last_at a points finish in
    let both : area_goal fixes lists start finish 0 ≡ area_goal fixes lists a (last_of a points) 0 = λ i. area_goal fixes lists (first i) (finish_is i) 0 in
    ap (λ (r : Goal). (badge.DeclaredGoal, r) ∷ []) (is ∙ both)
