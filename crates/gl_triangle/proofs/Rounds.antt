-- The legs round three fixes are the same in whatever order the fixes are named.
use Rattle.std.proofs.Common.{◌≡◌, ◌∙◌, sym, ap, subst, ℕ, suc, ◌+◌, ◌-◌, ◌*◌, ◌<◌, ◌≤◌, inl, inr, List, [], ◌∷◌, length, get_or, Some, slice_get, ℤ, ◌-ℤ◌, arith}
use Rattle.std.specs.Prelude.{IsTrue, min, max, nat_lt, unsigned_abs}
use Rattle.std.specs.List.{sum}
use Rattle.std.proofs.lemmas.Bool.{cases_lt, ltb-true, and_parts}
use Rattle.std.proofs.lemmas.Int.{ints}
use Rattle.std.proofs.lemmas.Option.{slice_get-get_or}
use Rattle.gl_sphere.specs.declared.place.Vec3.{Vec3}
use Rattle.gl_sphere.specs.Distance.{squared_chord, squared_gap, written_distance, distance}
use Rattle.gl_igc.specs.declared.fix.Fix.{Fix}
use Rattle.gl_goal.specs.declared.triangle.TriangleGoal.{TriangleGoal}
use Rattle.gl_goal.specs.Chain.{fixes_at, points_of}
use Rattle.gl_goal.specs.Fair.{is_fair}
use Rattle.gl_goal.specs.Free.{numbers_between}
use Rattle.gl_goal.specs.Goal.{IsLegal, chosen, value}
use Rattle.gl_goal.specs.Triangle.{around, closes, three_axes, triangle_goal}
use Rattle.gl_goal.specs.TriangleGoal.{triangle_rule}
use Rattle.gl_goal.specs.Lemmas.Chain.{fixes_at-cons, length-fixes_at, named_at}
use Rattle.gl_goal.specs.Lemmas.Points.{length-chosen}
use Rattle.gl_goal.proofs.Order.{order_at}
use Rattle.gl_goal.specs.Lemmas.Triangle.{three-place}
use Rattle.gl_goal.specs.Lemmas.Fair.{sum-three}
use Rattle.gl_goal.specs.Lemmas.Free.{length-numbers_between, numbers_between-named}
use Rattle.gl_triangle.specs.Code.Node.{fixes_of}
use Rattle.gl_triangle.specs.Code.Order.{sorted}
use Rattle.gl_triangle.proofs.Fair.{FairLegs, fair_legs, fair_round, fair_turned}

gap-turned : (a b : ℤ) → squared_gap a b ≡ squared_gap b a
unfolding squared_gap
gap-turned a b =
    let same : unsigned_abs (a -ℤ b) ≡ unsigned_abs (b -ℤ a) = omega (arith, ints) in
    ap (λ n. n * n) same

-- two points are as far apart one way as the other
pub distance-turned : (p q : Vec3) → distance p q ≡ distance q p
unfolding squared_chord
distance-turned p q =
    let x = gap-turned p.x q.x in
    let y = gap-turned p.y q.y in
    let z = gap-turned p.z q.z in
    ap written_distance (omega arith)

-- three numbers are those of fixes with fair legs, which are together so long
pub record IsRound (fixes : List Fix) (worth a b c : ℕ) : Type 0 where
  pub first : Fix
  pub second : Fix
  pub third : Fix
  pub first_is : slice_get fixes a ≡ Some first
  pub second_is : slice_get fixes b ≡ Some second
  pub third_is : slice_get fixes c ≡ Some third
  pub fair : FairLegs (distance first.at second.at) (distance second.at third.at) (distance third.at first.at)
  pub worth_is : worth ≡ distance first.at second.at + distance second.at third.at + distance third.at first.at

-- fair legs are fair under other names
renamed : (x y z p q r : ℕ) → x ≡ p → y ≡ q → z ≡ r → FairLegs x y z → FairLegs p q r
renamed x y z p q r first second third fair =
    subst (FairLegs p q) third (subst (λ n. FairLegs p n z) second (subst (λ n. FairLegs n y z) first fair))

first_turned : (fixes : List Fix) (worth a b c : ℕ) → IsRound fixes worth a b c → IsRound fixes worth b a c
first_turned fixes worth a b c is =
    let one = distance-turned is.first.at is.second.at in
    let two = distance-turned is.second.at is.third.at in
    let three = distance-turned is.third.at is.first.at in
    record {
      first = is.second;
      second = is.first;
      third = is.third;
      first_is = is.second_is;
      second_is = is.first_is;
      third_is = is.third_is;
      fair = renamed _ _ _ _ _ _ one three two (fair_turned _ _ _ is.fair);
      worth_is = omega (arith, one, two, three, is.worth_is);
    }

second_turned : (fixes : List Fix) (worth a b c : ℕ) → IsRound fixes worth a b c → IsRound fixes worth a c b
second_turned fixes worth a b c is =
    let one = distance-turned is.first.at is.second.at in
    let two = distance-turned is.second.at is.third.at in
    let three = distance-turned is.third.at is.first.at in
    record {
      first = is.first;
      second = is.third;
      third = is.second;
      first_is = is.first_is;
      second_is = is.third_is;
      third_is = is.second_is;
      fair = renamed _ _ _ _ _ _ three two one (fair_turned _ _ _ (fair_round _ _ _ (fair_round _ _ _ is.fair)));
      worth_is = omega (arith, one, two, three, is.worth_is);
    }

-- what holds of the lesser and the greater of two numbers, and of any two turned round, holds of
-- the two
unordered : (P : ℕ → ℕ → Type 0) (a b : ℕ) → ((x y : ℕ) → P x y → P y x) → P (min a b) (max a b) → P a b
unordered P a b turned holds =
    elim (cases_lt b a) [
      | inl above ↦
          let lesser : min a b ≡ b = omega arith in
          let greater : max a b ≡ a = omega arith in
          turned b a (subst (P b) greater (subst (λ x. P x (max a b)) lesser holds))
      | inr below ↦
          let lesser : min a b ≡ a = omega arith in
          let greater : max a b ≡ b = omega arith in
          subst (P a) greater (subst (λ x. P x (max a b)) lesser holds)
    ]

-- what three numbers are that were put in order
abbrev pub IsSortedRound : (fixes : List Fix) (worth a b c : ℕ) → Type 0
IsSortedRound fixes worth a b c =
    let middle = min (max a b) c in
    IsRound fixes worth (min (min a b) middle) (max (min a b) middle) (max (max a b) c)

-- three numbers are round as they are where they are round in order
pub unsorted : (fixes : List Fix) (worth a b c : ℕ) → IsSortedRound fixes worth a b c → IsRound fixes worth a b c
unsorted fixes worth a b c is =
    let least = min a b in
    let other = max a b in
    let middle = min other c in
    let greatest = max other c in
    let one : IsRound fixes worth least middle greatest =
    unordered (λ x y. IsRound fixes worth x y greatest) least middle (λ x y. first_turned fixes worth x y greatest) is in
    let two : IsRound fixes worth least other c =
    unordered (λ x y. IsRound fixes worth least x y) other c (λ x y. second_turned fixes worth least x y) one in
    unordered (λ x y. IsRound fixes worth x y c) a b (λ x y. first_turned fixes worth x y c) two

-- three numbers that are in order are in order as they are
pub sorted-is : (a b c : ℕ) → a ≤ b → b ≤ c → sorted a b c ≡ a ∷ b ∷ c ∷ []
sorted-is a b c low high =
    let first : min (min a b) (min (max a b) c) ≡ a = omega arith in
    let second : max (min a b) (min (max a b) c) ≡ b = omega arith in
    let third : max (max a b) c ≡ c = omega arith in
    λ i. first i ∷ second i ∷ third i ∷ []

-- the same for two that are turned round
pub sorted-first : (a b c : ℕ) → sorted b a c ≡ sorted a b c
sorted-first a b c =
    let least : min b a ≡ min a b = omega arith in
    let greatest : max b a ≡ max a b = omega arith in
    λ i. min (least i) (min (greatest i) c) ∷ max (least i) (min (greatest i) c) ∷ max (greatest i) c ∷ []

pub sorted-second : (a b c : ℕ) → sorted a c b ≡ sorted a b c
sorted-second a b c =
    let first : min (min a c) (min (max a c) b) ≡ min (min a b) (min (max a b) c) = omega arith in
    let second : max (min a c) (min (max a c) b) ≡ max (min a b) (min (max a b) c) = omega arith in
    let third : max (max a c) b ≡ max (max a b) c = omega arith in
    λ i. first i ∷ second i ∷ third i ∷ []

-- how many fixes there are to choose from
pub length-fixes_of : (goal : TriangleGoal) → length (fixes_of goal) ≡ suc (goal.last - goal.first)
length-fixes_of goal =
    length-fixes_at goal.lists.fixes (numbers_between goal.first goal.last) (numbers_between-named goal.lists.fixes goal.first goal.last goal.in_order goal.within)
    ∙ length-numbers_between goal.first goal.last

pub at_most_90000 : (goal : TriangleGoal) → length (fixes_of goal) ≤ 90000
at_most_90000 goal = omega (arith, length-fixes_of goal, goal.within, goal.at_most_90000)

-- the places of a legal tuple
pub record LegalPlaces (goal : TriangleGoal) (tuple : List ℕ) : Type 0 where
  pub second_later : get_or tuple 0 0 ≤ get_or tuple 1 0
  pub third_later : get_or tuple 1 0 ≤ get_or tuple 2 0
  pub closing : IsTrue (closes (fixes_of goal) goal.closing (get_or tuple 0 0) (get_or tuple 2 0))
  pub worth_some : 0 < value (triangle_rule goal) tuple

pub legal_places : (goal : TriangleGoal) (tuple : List ℕ) → IsLegal (triangle_rule goal) tuple → LegalPlaces goal tuple
unfolding triangle_goal is_fair
legal_places goal tuple legal =
    let first = goal.first in
    let last = goal.last in
    let axes = three_axes first last in
    let numbers = chosen axes tuple in
    let long = length-chosen axes tuple legal.is_tuple in
    let a = three-place first last tuple 0 legal.is_tuple (omega arith) in
    let b = three-place first last tuple 1 legal.is_tuple (omega arith) in
    let c = three-place first last tuple 2 legal.is_tuple (omega arith) in
    let allowed = and_parts (is_fair (around distance (points_of (fixes_at goal.lists.fixes numbers)))) _ legal.allowed in
    record {
      second_later = omega (arith, a, b, order_at numbers 0 1 legal.in_order (omega arith) (omega (arith, long)));
      third_later = omega (arith, b, c, order_at numbers 1 2 legal.in_order (omega arith) (omega (arith, long)));
      closing = (λ i. closes (fixes_of goal) goal.closing (sym a i) (sym c i)) ∙ allowed.1;
      worth_some = omega (arith, ltb-true 0 _ (and_parts (nat_lt 0 (sum (around distance (points_of (fixes_at goal.lists.fixes numbers))))) _ allowed.0).0);
    }

found : (fixes : List Fix) (place : ℕ) (fix : Fix) → get_or fixes place fix ≡ fix → place < length fixes → slice_get fixes place ≡ Some fix
found fixes place fix is below = slice_get-get_or fixes place fix below ∙ ap Some is

-- a legal triangle is round
pub legal_round : (goal : TriangleGoal) (a b c : ℕ) → IsLegal (triangle_rule goal) (a ∷ b ∷ c ∷ []) → IsRound (fixes_of goal) (value (triangle_rule goal) (a ∷ b ∷ c ∷ [])) a b c
unfolding triangle_goal
legal_round goal a b c legal =
    let fixes = goal.lists.fixes in
    let axis = numbers_between goal.first goal.last in
    let axes = three_axes goal.first goal.last in
    let every = numbers_between-named fixes goal.first goal.last goal.in_order goal.within in
    let one = named_at fixes axis a every legal.is_tuple.0 in
    let two = named_at fixes axis b every legal.is_tuple.1.0 in
    let three = named_at fixes axis c every legal.is_tuple.1.1.0 in
    let these : fixes_at fixes (chosen axes (a ∷ b ∷ c ∷ [])) ≡ one.0 ∷ two.0 ∷ three.0 ∷ [] =
    fixes_at-cons fixes (get_or axis a 0) (get_or axis b 0 ∷ get_or axis c 0 ∷ []) one.0 one.1
    ∙ ap (λ (fs : List Fix). one.0 ∷ fs) (fixes_at-cons fixes (get_or axis b 0) (get_or axis c 0 ∷ []) two.0 two.1
    ∙ ap (λ (fs : List Fix). two.0 ∷ fs) (fixes_at-cons fixes (get_or axis c 0) [] three.0 three.1)) in
    let round = ap (λ (fs : List Fix). around distance (points_of fs)) these in
    let allowed = and_parts (is_fair (around distance (points_of (fixes_at fixes (chosen axes (a ∷ b ∷ c ∷ [])))))) _ legal.allowed in
    record {
      first = one.0;
      second = two.0;
      third = three.0;
      first_is = found (fixes_of goal) a one.0 one.2 (omega (arith, length-fixes_of goal, length-numbers_between goal.first goal.last, legal.is_tuple.0));
      second_is = found (fixes_of goal) b two.0 two.2 (omega (arith, length-fixes_of goal, length-numbers_between goal.first goal.last, legal.is_tuple.1.0));
      third_is = found (fixes_of goal) c three.0 three.2 (omega (arith, length-fixes_of goal, length-numbers_between goal.first goal.last, legal.is_tuple.1.1.0));
      fair = fair_legs _ _ _ (subst (λ legs. IsTrue (is_fair legs)) round allowed.0);
      worth_is = ap sum round ∙ sum-three (distance one.0.at two.0.at) (distance two.0.at three.0.at) (distance three.0.at one.0.at);
    }
