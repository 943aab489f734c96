-- What the optima of the badge claims tell.
use Rattle.std.proofs.Common.{◌≡◌, ◌∙◌, sym, ap, refl, subst, ℕ, ◌-◌, ◌≤◌, List, [], ◌∷◌, length, map, Option, None, Some, slice_get, pos, arith}
use Rattle.std.specs.Prelude.{All, IsSomeAnd, IsTrue}
use Rattle.std.specs.List.{AllZip}
use Rattle.std.proofs.lemmas.List.Elements.{All-get_or}
use Rattle.std.proofs.lemmas.Int.{ints}
use Rattle.std.proofs.lemmas.Option.{get_or_from_slice_get, slice_get_within}
use Rattle.gl_sphere.specs.declared.place.Vec3.{Vec3}
use Rattle.gl_igc.specs.declared.fix.Fix.{Fix}
use Rattle.gl_igc.specs.declared.recording.Declared.{Declared}
use Rattle.gl_igc.specs.declared.recording.Recording.{Recording}
use Rattle.gl_goal.proofs.FreeLosses as free
use Rattle.gl_goal.specs.Chain.{last_of}
use Rattle.gl_goal.specs.Goal.{IsOptimum, Goal}
use Rattle.gl_badge.specs.declared.badge.Badge.{Badge}
use Rattle.gl_badge.specs.declared.shown.Course.{Course}
use Rattle.gl_badge.specs.declared.shown.Course.TheVariants.{Undeclared, Long, Missed, Lists}
use Rattle.gl_badge.specs.Claims.{distance_claim, gain_claim, goal_claims, goals_through}
use Rattle.gl_badge.specs.Course.{IsCourse, IsCourseOf, IsFlown, IsReached, course_points, numbers_near}
use Rattle.gl_badge.specs.Gain.{IsGreatestGain}
use Rattle.gl_badge.specs.Text.{AreBadgeOptima, TellsFlown}
use Rattle.gl_badge.specs.Code.Text.{is_total}
use Rattle.gl_badge.proofs.Courses.{course-lists}
use Rattle.gl_badge.proofs.Flown.{flown-legal, legal-flown}
use Rattle.gl_badge.proofs.Greatest.{greatest-gain}
use Rattle.gl_badge.proofs.Pairs.{stay_legal}

-- totals that are the optima of these claims
abbrev AreOptima : List (Badge × Goal) → List (Option ℕ) → Type 0
AreOptima claims totals = AllZip (λ claim total. IsOptimum claim.1 total) claims totals

-- the total of a course tells whether it was flown
through-tells : (fixes : List Fix) (points : List Vec3) (lists : List (List ℕ)) (others : List (Option ℕ)) → 1 ≤ length points → lists ≡ map (numbers_near fixes) points
    → AreOptima (goals_through fixes lists points) others → (IsTrue (is_total (slice_get others 0)) → IsFlown fixes points) × (IsFlown fixes points → IsTrue (is_total (slice_get others 0)))
through-tells fixes [] lists others some are optima = absurd (omega arith)
through-tells fixes (start ∷ points) lists [] some are optima = absurd optima
through-tells fixes (start ∷ points) lists (None ∷ others) some are optima = (
  λ total. absurd (cc),
  λ flown. let legal = legal-flown fixes (start ∷ points) lists start (last_of start points) are flown in absurd (optima.0 legal.0 legal.1),
)
through-tells fixes (start ∷ points) lists (Some total ∷ others) some are optima = (
  λ is. flown-legal fixes (start ∷ points) lists start (last_of start points) optima.0.0.0 are optima.0.0.1.legal,
  λ flown. refl,
)

-- a course of which each point was reached wasn't missed
pub not-missed : (fixes : List Fix) (points : List Vec3) (number : ℕ) (seen : Option Vec3) → seen ≡ slice_get points (number - 1) → All (IsReached fixes) points
    → IsSomeAnd seen (λ point. numbers_near fixes point ≡ []) → ⊥
not-missed fixes points number None at reached missed = missed
not-missed fixes points number (Some point) at reached missed =
    let within = slice_get_within points (number - 1) point (sym at) in
    let here = All-get_or (IsReached fixes) points (number - 1) point within reached in
    omega (arith, here, ap length (ap (numbers_near fixes) (get_or_from_slice_get points (number - 1) point point (sym at)) ∙ missed))

-- the total of the declared course tells whether it was flown, however the course is known
course-tells : (fixes : List Fix) (declared : Option Declared) (course shown : Course) (others : List (Option ℕ)) → IsCourseOf fixes declared course → IsCourseOf fixes declared shown
    → AreOptima (goal_claims fixes course) others → TellsFlown fixes shown (is_total (slice_get others 0))
course-tells fixes declared course Undeclared others is shows optima = tt
course-tells fixes declared course Long others is shows optima = tt
course-tells fixes declared course (Missed number) others is shows optima = tt
course-tells fixes None course (Lists lists points) others is shows optima = absurd (cc)
course-tells fixes (Some declared) Undeclared (Lists lists points) others is shows optima = absurd is
course-tells fixes (Some declared) Long (Lists lists points) others is shows optima = absurd (omega (arith, is, shows.0))
course-tells fixes (Some declared) (Missed number) (Lists lists points) others is shows optima =
    absurd (not-missed fixes (course_points declared.points) number _ refl shows.1.0.reached is.1.missed)
course-tells fixes (Some declared) (Lists known passed) (Lists lists points) others is shows optima =
    let some = (course-lists fixes (Some declared) known passed is).1 in
    let near = is.1.0.near ∙ sym (ap (map (numbers_near fixes)) is.1.1) in
    let told = through-tells fixes passed.items (map (λ list. list.items) known.items) others some near optima in
    let same : passed.items ≡ points.items = is.1.1 ∙ sym shows.1.1 in
    (λ total. subst (IsFlown fixes) same (told.0 total), λ flown. told.1 (subst (IsFlown fixes) (sym same) flown))

-- the totals: of the distance, of the gain, and perhaps of the declared course
pub record AreTotals (recording : Recording) (totals : List (Option ℕ)) : Type 0 where
  pub distance : ℕ
  pub gain : ℕ
  pub others : List (Option ℕ)
  pub are : totals ≡ Some distance ∷ Some gain ∷ others
  pub farthest : IsOptimum (distance_claim recording.fixes).1 (Some distance)
  pub highest : IsGreatestGain recording.fixes gain
  pub tells : (shown : Course) → IsCourse recording shown → TellsFlown recording.fixes shown (is_total (slice_get others 0))

free-some : (fixes : List Fix) → 1 ≤ length fixes → IsOptimum (distance_claim fixes).1 None → ⊥
free-some fixes some none = none _ (free.stay_legal fixes 0 (length fixes - 1) (pos 1_000) (omega arith) (omega (arith, ints)))

totals-are : (recording : Recording) (course : Course) (totals : List (Option ℕ)) → IsCourse recording course
    → AreOptima (distance_claim recording.fixes ∷ gain_claim recording.fixes ∷ goal_claims recording.fixes course) totals → AreTotals recording totals
totals-are recording course [] is optima = absurd optima
totals-are recording course (None ∷ totals) is optima = absurd (free-some recording.fixes recording.some_fix optima.0)
totals-are recording course (Some distance ∷ []) is optima = absurd optima.1
totals-are recording course (Some distance ∷ None ∷ totals) is optima = absurd (optima.1.0 _ (stay_legal recording.fixes recording.some_fix))
totals-are recording course (Some distance ∷ Some gain ∷ others) is optima =
    record {
      distance = distance;
      gain = gain;
      others = others;
      are = refl;
      farthest = optima.0;
      highest = greatest-gain recording.fixes gain optima.1.0;
      tells = λ shown shows. course-tells recording.fixes recording.declared course shown others is shows optima.1.1;
    }

pub optima-totals : (recording : Recording) (totals : List (Option ℕ)) → AreBadgeOptima recording totals → AreTotals recording totals
optima-totals recording totals optima =
    totals-are recording optima.are.course totals optima.are.is (subst (λ (claims : List (Badge × Goal)). AreOptima claims totals) optima.are.all optima.optima)
