-- What the figures of a day say of each of its performances.
use Rattle.std.proofs.Common.{◌≡◌, refl, sym, subst, ◌∙◌, ℕ, zero, suc, ◌*◌, ◌<◌, ◌≤◌, Bool, true, false, List, [], ◌∷◌, length, filter, cond, arith, IsTrue}
use Rattle.std.specs.Prelude.{All, Contains}
use Rattle.std.proofs.Math.Nat.{le-mul_of_pos_right}
use Rattle.std.proofs.lemmas.Bool.{false≢true}
use Rattle.std.proofs.lemmas.Bool.Decides.{nat_tests}
use Rattle.std.proofs.lemmas.List.Elements.{All-nil, All-cons, All-head, All-tail, All-contains, All-filter, filter_passes}
use Rattle.gl_points.specs.declared.performance.Performance.{Performance}
use Rattle.gl_points.specs.declared.summary.Summary.{Summary}
use Rattle.gl_points.specs.Summary.{IsSummaryOf, launched_of}
use Rattle.gl_points.specs.Figures.{handicapped_distance, handicapped_speed, is_far}
use Rattle.gl_points.specs.Fraction.{Fraction, IsAtMost}
use Rattle.gl_points.specs.Worth.{worth}

-- what holds of those that pass a test
all_from_tested : {X : Type 0} (P : X → Type 0) (test : X → Bool) (x : X) (xs kept : List X) (passes : Bool) → test x ≡ passes → (All P kept → All (λ y. test y ≡ true → P y) xs)
    → All P (cond passes (x ∷ kept) kept) → All (λ y. test y ≡ true → P y) (x ∷ xs)
all_from_tested P test x xs kept true is rest h = All-cons (λ y. test y ≡ true → P y) x xs (λ pass. All-head P x kept h) (rest (All-tail P x kept h))
all_from_tested P test x xs kept false is rest h = All-cons (λ y. test y ≡ true → P y) x xs (λ pass. absurd (false≢true (sym is ∙ pass))) (rest h)

pub all_from_filter : {X : Type 0} (P : X → Type 0) (test : X → Bool) (xs : List X) → All P (filter test xs) → All (λ x. test x ≡ true → P x) xs
all_from_filter P test [] h = All-nil (λ x. test x ≡ true → P x)
all_from_filter P test (x ∷ xs) h = all_from_tested P test x xs (filter test xs) (test x) refl (all_from_filter P test xs) h

pub within_distance : (list : List Performance) (day : Summary) (p : Performance) → IsSummaryOf list day → Contains list p → IsTrue p.launched
    → IsAtMost (handicapped_distance day.handicap p) (worth day.distance)
within_distance list day p figures among = All-contains (λ (q : Performance). q.launched ≡ true
    → IsAtMost (handicapped_distance day.handicap q) (worth day.distance)) list p
    (all_from_filter (λ (q : Performance). IsAtMost (handicapped_distance day.handicap q) (worth day.distance)) (λ (q : Performance). q.launched) list figures.distance.above) among

pub within_speed : (list : List Performance) (day : Summary) (p : Performance) → IsSummaryOf list day → Contains list p → IsTrue p.finished
    → IsAtMost (handicapped_speed day.handicap p) (worth day.speed)
within_speed list day p figures among = All-contains (λ (q : Performance). q.finished ≡ true
    → IsAtMost (handicapped_speed day.handicap q) (worth day.speed)) list p
    (all_from_filter (λ (q : Performance). IsAtMost (handicapped_speed day.handicap q) (worth day.speed)) (λ (q : Performance). q.finished) list figures.speed.above) among

-- what is above a far distance is above 0
above_far : (x d n h : ℕ) → 1 ≤ x → 1 ≤ d → x * d ≤ n * h → 0 < n
above_far x d zero h some divides low = omega (arith, le-mul_of_pos_right {m = d} x divides)
above_far x d (suc n) h some divides low = omega arith

far_above : (least : ℕ) (greatest : Fraction) (qs : List Performance) → 1 ≤ greatest.den → 1 ≤ length qs → All (λ (q : Performance). is_far least q ≡ true) qs
    → All (λ (q : Performance). IsAtMost (handicapped_distance least q) greatest) qs → 0 < greatest.num
far_above least greatest [] divides some far above = omega arith
far_above least greatest (q ∷ qs) divides some far above =
    let here : is_far least q ≡ true = All-head (λ (q : Performance). is_far least q ≡ true) q qs far in
    let there = All-head (λ (q : Performance). IsAtMost (handicapped_distance least q) greatest) q qs above in
    let low : 100_000 * q.handicap ≤ q.metres * least = grind (arith, nat_tests) in
    above_far (q.metres * least) greatest.den greatest.num q.handicap (omega (arith, q.handicap_at_least)) divides there

-- where somebody flew far the greatest distance isn't 0
pub some_distance : (list : List Performance) (day : Summary) → IsSummaryOf list day → 1 ≤ day.far → 0 < day.distance.num
some_distance list day figures some =
    far_above day.handicap (worth day.distance) (filter (is_far day.handicap) (launched_of list)) day.distance.divides (subst (λ n. 1 ≤ n) figures.far some)
    (filter_passes (is_far day.handicap) (launched_of list))
    (All-filter (is_far day.handicap) (λ (q : Performance). IsAtMost (handicapped_distance day.handicap q) (worth day.distance)) (launched_of list) figures.distance.above)
