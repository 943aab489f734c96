-- What the rule of legs says of legs that lie between the least and the greatest ones.
use Rattle.std.proofs.Common.{◌≡◌, refl, ℕ, ◌+◌, ◌*◌, ◌/◌, ◌<◌, ◌≤◌, ◌⊎◌, Bool, true, false, ◌&&◌, ◌||◌, List, [], ◌∷◌, map, inl, inr, ⊎_elim, arith, mul_comm}
use Rattle.std.specs.Prelude.{IsTrue, min, fold, if◌then◌else◌, nat_eq, nat_le, nat_lt}
use Rattle.std.specs.List.{AllZip, sum}
use Rattle.std.proofs.lemmas.Bool.{cases_Bool, eqb-true, leb-true, leb-false, ltb-true, ltb-false, and_parts}
use Rattle.std.proofs.lemmas.List.Sums.{sum_by-cons}
use Rattle.std.proofs.Math.Nat.{le-div_iff_mul-le}
use Rattle.gl_goal.specs.Fair.{by_25_to_45_percent, by_28_percent, is_fair, is_none_fair, large, most_from, most_of_fair, never_25_to_45_percent, never_28_percent, none_above, none_below, some_above, some_below}

pub and_both : (a b : Bool) → IsTrue a → IsTrue b → IsTrue (a && b)
and_both true b one other = other
and_both false b one other = absurd (cc)

pub or_cases : (a b : Bool) → IsTrue (a || b) → IsTrue a ⊎ IsTrue b
or_cases true b is = inl refl
or_cases false b is = inr is

pub or_first : (a b : Bool) → IsTrue a → IsTrue (a || b)
or_first true b is = refl
or_first false b is = absurd (cc)

pub or_second : (a b : Bool) → IsTrue b → IsTrue (a || b)
or_second true b is = refl
or_second false b is = is

-- the sum of three
pub sum-three : (a b c : ℕ) → sum (a ∷ b ∷ c ∷ []) ≡ a + b + c
sum-three a b c = omega arith

-- lesser numbers have a lesser sum
pub sum-at_most : (xs ys : List ℕ) → AllZip (◌≤◌) xs ys → sum xs ≤ sum ys
sum-at_most [] [] all = omega arith
sum-at_most [] (y ∷ ys) all = absurd all
sum-at_most (x ∷ xs) [] all = absurd all
sum-at_most (x ∷ xs) (y ∷ ys) all =
    omega (
      arith,
      sum_by-cons (λ (n : ℕ). n) x xs,
      sum_by-cons (λ (n : ℕ). n) y ys,
      all.0,
      sum-at_most xs ys all.1,
    )

-- where one of the greatest is below a share, the leg there is below each greater share
any_below : (share greater : ℕ) (legs greatest : List ℕ) → share ≤ greater
    → AllZip (◌≤◌) legs greatest → IsTrue (some_below share greatest)
    → IsTrue (none_below greater legs) → ⊥
any_below share greater [] [] low at_most below all = absurd (cc)
any_below share greater [] (g ∷ greatest) low at_most below all = absurd at_most
any_below share greater (l ∷ legs) [] low at_most below all = absurd at_most
any_below share greater (l ∷ legs) (g ∷ greatest) low at_most below all =
    let parts = and_parts (nat_le greater (100 * l)) _ all in
    ⊎_elim
    (λ (here : IsTrue (nat_lt (100 * g) share)). omega
    (arith, low, at_most.0, ltb-true (100 * g) share here, leb-true greater (100 * l) parts.0))
    (λ later. any_below share greater legs greatest low at_most.1 later parts.1)
    (or_cases (nat_lt (100 * g) share) _ below)

-- where one of the least is above a share, the leg there is above each lesser share
any_above : (share lesser : ℕ) (least legs : List ℕ) → lesser ≤ share → AllZip (◌≤◌) least legs
    → IsTrue (some_above share least) → IsTrue (none_above lesser legs) → ⊥
any_above share lesser [] [] low at_most above all = absurd (cc)
any_above share lesser [] (l ∷ legs) low at_most above all = absurd at_most
any_above share lesser (g ∷ least) [] low at_most above all = absurd at_most
any_above share lesser (g ∷ least) (l ∷ legs) low at_most above all =
    let parts = and_parts (nat_le (100 * l) lesser) _ all in
    ⊎_elim
    (λ (here : IsTrue (nat_lt share (100 * g))). omega
    (arith, low, at_most.0, ltb-true share (100 * g) here, leb-true (100 * l) lesser parts.0))
    (λ later. any_above share lesser least legs low at_most.1 later parts.1)
    (or_cases (nat_lt share (100 * g)) _ above)

-- where a rule is ruled out it allows no legs between the least and the greatest
out_by_28 : (least legs greatest : List ℕ) → AllZip (◌≤◌) least legs → AllZip (◌≤◌) legs greatest
    → IsTrue (never_28_percent least greatest) → IsTrue (by_28_percent legs) → ⊥
out_by_28 least legs greatest low high never is =
    any_below (28 * sum least) (28 * sum legs) legs greatest
    (omega (arith, sum-at_most least legs low)) high never is

out_by_25_to_45 : (least legs greatest : List ℕ) → AllZip (◌≤◌) least legs
    → AllZip (◌≤◌) legs greatest → IsTrue (never_25_to_45_percent least greatest)
    → IsTrue (by_25_to_45_percent legs) → ⊥
out_by_25_to_45 least legs greatest low high never is =
    let less = sum-at_most least legs low in
    let more = sum-at_most legs greatest high in
    let long = and_parts (nat_le large (sum legs)) _ is in
    let shares = and_parts (none_below (25 * sum legs) legs) _ long.1 in
    ⊎_elim
    (λ (small : IsTrue (nat_lt (sum greatest) large)). omega
    (arith, more, ltb-true (sum greatest) large small, leb-true large (sum legs) long.0))
    (λ shared. ⊎_elim
    (λ below. any_below (25 * sum least) (25 * sum legs) legs greatest
    (omega (arith, less)) high below shares.0)
    (λ above. any_above (45 * sum greatest) (45 * sum legs) least legs
    (omega (arith, more)) low above shares.1)
    (or_cases (some_below (25 * sum least) greatest) _ shared))
    (or_cases (nat_lt (sum greatest) large) _ never)

-- where no legs are fair, none between the least and the greatest are
pub none_fair_out : (least legs greatest : List ℕ) → AllZip (◌≤◌) least legs
    → AllZip (◌≤◌) legs greatest → IsTrue (is_none_fair least greatest) → IsTrue (is_fair legs) → ⊥
unfolding is_none_fair is_fair
none_fair_out least legs greatest low high none fair =
    let parts = and_parts (nat_lt 0 (sum legs)) _ fair in
    ⊎_elim
    (λ (empty : IsTrue (nat_eq (sum greatest) 0)). omega (
      arith,
      eqb-true (sum greatest) 0 empty,
      ltb-true 0 (sum legs) parts.0,
      sum-at_most legs greatest high,
    ))
    (λ both.
    let never = and_parts (never_28_percent least greatest) _ both in
    ⊎_elim
    (λ small. out_by_28 least legs greatest low high never.0 small)
    (λ wide. out_by_25_to_45 least legs greatest low high never.1 wide)
    (or_cases (by_28_percent legs) _ parts.1))
    (or_cases (nat_eq (sum greatest) 0) _ none)

-- no leg is below a share, or some leg is
below_or_not : (share : ℕ) (legs : List ℕ)
    → IsTrue (none_below share legs) ⊎ IsTrue (some_below share legs)
below_or_not share [] = inl refl
below_or_not share (l ∷ legs) =
    ⊎_elim
    (λ (enough : nat_le share (100 * l) ≡ true).
    ⊎_elim
    (λ rest. inl (and_both (nat_le share (100 * l)) _ enough rest))
    (λ short. inr (or_second (nat_lt (100 * l) share) _ short))
    (below_or_not share legs))
    (λ (past : nat_le share (100 * l) ≡ false). inr
    (or_first (nat_lt (100 * l) share) _ (grind (arith, leb-false share (100 * l) past))))
    (cases_Bool (nat_le share (100 * l)))

-- no leg is above a share, or some leg is
above_or_not : (share : ℕ) (legs : List ℕ)
    → IsTrue (none_above share legs) ⊎ IsTrue (some_above share legs)
above_or_not share [] = inl refl
above_or_not share (l ∷ legs) =
    ⊎_elim
    (λ (within : nat_le (100 * l) share ≡ true).
    ⊎_elim
    (λ rest. inl (and_both (nat_le (100 * l) share) _ within rest))
    (λ long. inr (or_second (nat_lt share (100 * l)) _ long))
    (above_or_not share legs))
    (λ (past : nat_le (100 * l) share ≡ false). inr
    (or_first (nat_lt share (100 * l)) _ (grind (arith, leb-false (100 * l) share past))))
    (cases_Bool (nat_le (100 * l) share))

-- legs that are known are those of a large triangle, or the rule of large triangles is ruled out
large_or_never : (legs : List ℕ)
    → IsTrue (by_25_to_45_percent legs) ⊎ IsTrue (never_25_to_45_percent legs legs)
large_or_never legs =
    let below = some_below (25 * sum legs) legs in
    ⊎_elim
    (λ (long : nat_le large (sum legs) ≡ true).
    ⊎_elim
    (λ enough. ⊎_elim
    (λ within. inl (and_both (nat_le large (sum legs)) _ long
    (and_both (none_below (25 * sum legs) legs) _ enough within)))
    (λ above. inr (or_second (nat_lt (sum legs) large) _ (or_second below _ above)))
    (above_or_not (45 * sum legs) legs))
    (λ short. inr (or_second (nat_lt (sum legs) large) _ (or_first below _ short)))
    (below_or_not (25 * sum legs) legs))
    (λ (small : nat_le large (sum legs) ≡ false). inr
    (or_first (nat_lt (sum legs) large) _ (grind (arith, leb-false large (sum legs) small))))
    (cases_Bool (nat_le large (sum legs)))

-- legs that are known are fair, or none are
pub fair_else : (legs : List ℕ) → (IsTrue (is_none_fair legs legs) → ⊥) → IsTrue (is_fair legs)
unfolding is_none_fair is_fair
fair_else legs some =
    ⊎_elim
    (λ (one : nat_lt 0 (sum legs) ≡ true).
    ⊎_elim
    (λ small. and_both (nat_lt 0 (sum legs)) _ one (or_first (by_28_percent legs) _ small))
    (λ short. ⊎_elim
    (λ wide. and_both (nat_lt 0 (sum legs)) _ one (or_second (by_28_percent legs) _ wide))
    (λ never. absurd (some (or_second (nat_eq (sum legs) 0) _
    (and_both (never_28_percent legs legs) _ short never))))
    (large_or_never legs))
    (below_or_not (28 * sum legs) legs))
    (λ (none : nat_lt 0 (sum legs) ≡ false). absurd
    (some (or_first (nat_eq (sum legs) 0) _ (grind (arith, ltb-false 0 (sum legs) none)))))
    (cases_Bool (nat_lt 0 (sum legs)))

-- legs none of which is below a share are together at most so long, where so many percent of this
-- length aren't more than the share
at_most_all : (percent value share first : ℕ) (legs greatest : List ℕ) → 0 < percent
    → percent * value ≤ share → value ≤ first → AllZip (◌≤◌) legs greatest
    → IsTrue (none_below share legs)
    → value ≤ fold min first (map (λ leg. 100 * leg / percent) greatest)
at_most_all percent value share first [] [] some less low at_most all = low
at_most_all percent value share first [] (g ∷ greatest) some less low at_most all = absurd at_most
at_most_all percent value share first (l ∷ legs) [] some less low at_most all = absurd at_most
at_most_all percent value share first (l ∷ legs) (g ∷ greatest) some less low at_most all =
    let parts = and_parts (nat_le share (100 * l)) _ all in
    let most : value ≤ 100 * g / percent =
    (le-div_iff_mul-le {k = percent} {x = value} {y = 100 * g} some).1
    (omega (arith, less, mul_comm value percent, at_most.0, leb-true share (100 * l) parts.0))
    in
    at_most_all percent value share (min first (100 * g / percent)) legs greatest some less
    (omega (arith, low, most)) at_most.1 parts.1

-- what is at most each of two numbers is at most the one that a test chooses
at_most_chosen : (test : Bool) (value one other : ℕ) → (IsTrue test → value ≤ one)
    → (test ≡ false → value ≤ other) → value ≤ (if test then one else other)
at_most_chosen true value one other first second = first refl
at_most_chosen false value one other first second = second refl

-- and what is at least each of them is at least that
chosen_at_most : (test : Bool) (value one other : ℕ) → one ≤ value → other ≤ value
    → (if test then one else other) ≤ value
chosen_at_most true value one other first second = first
chosen_at_most false value one other first second = second

-- fair legs are together at most what the greatest say
pub fair_at_most : (legs greatest : List ℕ) → AllZip (◌≤◌) legs greatest → IsTrue (is_fair legs)
    → sum legs ≤ most_of_fair greatest
unfolding is_fair most_of_fair
fair_at_most legs greatest high fair =
    let parts = and_parts (nat_lt 0 (sum legs)) _ fair in
    let more = sum-at_most legs greatest high in
    let within_25 : (share : ℕ) → 25 * sum legs ≤ share → IsTrue (none_below share legs)
    → sum legs ≤ most_from 25 greatest =
    λ share less all. at_most_all 25 (sum legs) share (sum greatest) legs greatest
    (omega arith) less more high all in
    ⊎_elim
    (λ (small : IsTrue (by_28_percent legs)).
    at_most_chosen (nat_lt (most_from 25 greatest) large) _ _ _
    (λ below. at_most_all 28 (sum legs) (28 * sum legs) (sum greatest) legs greatest (omega arith)
    (omega arith) more high small)
    (λ past. within_25 (28 * sum legs) (omega arith) small))
    (λ (wide : IsTrue (by_25_to_45_percent legs)).
    let long = and_parts (nat_le large (sum legs)) _ wide in
    let most = within_25 (25 * sum legs) (omega arith)
    (and_parts (none_below (25 * sum legs) legs) _ long.1).0 in
    at_most_chosen (nat_lt (most_from 25 greatest) large) _ _ _
    (λ below. absurd (omega (
      arith,
      most,
      leb-true large (sum legs) long.0,
      ltb-true (most_from 25 greatest) large below,
    )))
    (λ past. most))
    (or_cases (by_28_percent legs) _ parts.1)

pub fold-at_most : (first : ℕ) (xs : List ℕ) → fold min first xs ≤ first
fold-at_most first [] = omega arith
fold-at_most first (x ∷ xs) = omega (arith, fold-at_most (min first x) xs)

AllZip-same : (xs : List ℕ) → AllZip (◌≤◌) xs xs
AllZip-same [] = tt
AllZip-same (x ∷ xs) = (omega arith, AllZip-same xs)

-- and exactly that where they are known
pub fair_exactly : (legs : List ℕ) → IsTrue (is_fair legs) → most_of_fair legs ≡ sum legs
unfolding most_of_fair
fair_exactly legs fair =
    let from : ℕ → ℕ = λ percent. most_from percent legs in
    let at_most : (percent : ℕ) → most_from percent legs ≤ sum legs =
    λ percent. fold-at_most (sum legs) (map (λ leg. 100 * leg / percent) legs) in
    omega (
      arith,
      fair_at_most legs legs (AllZip-same legs) fair,
      chosen_at_most (nat_lt (from 25) large) (sum legs) (from 28) (from 25) (at_most 28)
          (at_most 25),
    )
