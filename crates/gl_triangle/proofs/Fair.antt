-- What fair legs say of the least and the most that each of them can be.
use Rattle.std.proofs.Common.{◌≡◌, refl, ℕ, ◌+◌, ◌*◌, ◌<◌, ◌≤◌, ◌⊎◌, inl, inr, ⊎_elim, [], ◌∷◌, arith}
use Rattle.std.specs.Prelude.{IsTrue, nat_le, nat_lt}
use Rattle.std.specs.List.{sum}
use Rattle.std.proofs.lemmas.Bool.{le-leb, leb-true, lt-ltb, ltb-true, and_parts}
use Rattle.gl_goal.specs.Fair.{by_25_to_45_percent, by_28_percent, is_fair, large, none_above, none_below}
use Rattle.gl_goal.specs.Lemmas.Fair.{and_both, or_cases, or_first, or_second}
use Rattle.gl_triangle.specs.declared.legs.Legs.{Legs}
use Rattle.gl_triangle.specs.Code.Legs.{AreAtMost, AreAtMostBy}

-- three legs, none of which is shorter than a share
pub record AreFrom (share x y z : ℕ) : Type 0 where
  pub first : share ≤ 100 * x
  pub second : share ≤ 100 * y
  pub third : share ≤ 100 * z

-- three legs, none of which is longer than a share
pub record AreUpTo (share x y z : ℕ) : Type 0 where
  pub first : 100 * x ≤ share
  pub second : 100 * y ≤ share
  pub third : 100 * z ≤ share

-- three legs of a large triangle
pub record AreLarge (x y z : ℕ) : Type 0 where
  pub long : large ≤ x + y + z
  pub from : AreFrom (25 * (x + y + z)) x y z
  pub up_to : AreUpTo (45 * (x + y + z)) x y z

-- three fair legs, by one of the two rules
pub record FairLegs (x y z : ℕ) : Type 0 where
  pub some : 0 < x + y + z
  pub rule : AreFrom (28 * (x + y + z)) x y z ⊎ AreLarge x y z

legs_from : (share other x y z : ℕ) → share ≡ other → IsTrue (none_below share (x ∷ y ∷ z ∷ [])) → AreFrom other x y z
legs_from share other x y z same is =
    let a = and_parts (nat_le share (100 * x)) _ is in
    let b = and_parts (nat_le share (100 * y)) _ a.1 in
    let c = and_parts (nat_le share (100 * z)) _ b.1 in
    record {
      first = omega (arith, same, leb-true share (100 * x) a.0);
      second = omega (arith, same, leb-true share (100 * y) b.0);
      third = omega (arith, same, leb-true share (100 * z) c.0);
    }

legs_up_to : (share other x y z : ℕ) → share ≡ other → IsTrue (none_above share (x ∷ y ∷ z ∷ [])) → AreUpTo other x y z
legs_up_to share other x y z same is =
    let a = and_parts (nat_le (100 * x) share) _ is in
    let b = and_parts (nat_le (100 * y) share) _ a.1 in
    let c = and_parts (nat_le (100 * z) share) _ b.1 in
    record {
      first = omega (arith, same, leb-true (100 * x) share a.0);
      second = omega (arith, same, leb-true (100 * y) share b.0);
      third = omega (arith, same, leb-true (100 * z) share c.0);
    }

from_legs : (share other x y z : ℕ) → share ≡ other → AreFrom other x y z → IsTrue (none_below share (x ∷ y ∷ z ∷ []))
from_legs share other x y z same are =
    and_both (nat_le share (100 * x)) _ (le-leb share (100 * x) (omega (arith, same, are.first)))
    (and_both (nat_le share (100 * y)) _ (le-leb share (100 * y) (omega (arith, same, are.second)))
    (and_both (nat_le share (100 * z)) _ (le-leb share (100 * z) (omega (arith, same, are.third))) refl))

up_to_legs : (share other x y z : ℕ) → share ≡ other → AreUpTo other x y z → IsTrue (none_above share (x ∷ y ∷ z ∷ []))
up_to_legs share other x y z same are =
    and_both (nat_le (100 * x) share) _ (le-leb (100 * x) share (omega (arith, same, are.first)))
    (and_both (nat_le (100 * y) share) _ (le-leb (100 * y) share (omega (arith, same, are.second)))
    (and_both (nat_le (100 * z) share) _ (le-leb (100 * z) share (omega (arith, same, are.third))) refl))

-- legs by the rule of 28 percent
pub legs_by_28 : (x y z : ℕ) → IsTrue (by_28_percent (x ∷ y ∷ z ∷ [])) → AreFrom (28 * (x + y + z)) x y z
legs_by_28 x y z is = legs_from (28 * sum (x ∷ y ∷ z ∷ [])) (28 * (x + y + z)) x y z (omega arith) is

-- legs by the rule of large triangles
pub legs_by_25_to_45 : (x y z : ℕ) → IsTrue (by_25_to_45_percent (x ∷ y ∷ z ∷ [])) → AreLarge x y z
legs_by_25_to_45 x y z is =
    let all = sum (x ∷ y ∷ z ∷ []) in
    let long = and_parts (nat_le large all) _ is in
    let shares = and_parts (none_below (25 * all) (x ∷ y ∷ z ∷ [])) _ long.1 in
    record {
      long = omega (arith, leb-true large all long.0);
      from = legs_from (25 * all) (25 * (x + y + z)) x y z (omega arith) shares.0;
      up_to = legs_up_to (45 * all) (45 * (x + y + z)) x y z (omega arith) shares.1;
    }

-- fair legs are so by one of the two rules
pub fair_legs : (x y z : ℕ) → IsTrue (is_fair (x ∷ y ∷ z ∷ [])) → FairLegs x y z
unfolding is_fair
fair_legs x y z fair =
    let legs = x ∷ y ∷ z ∷ [] in
    let one = and_parts (nat_lt 0 (sum legs)) _ fair in
    record {
      some = omega (arith, ltb-true 0 (sum legs) one.0);
      rule = ⊎_elim (λ small. inl (legs_by_28 x y z small)) (λ wide. inr (legs_by_25_to_45 x y z wide)) (or_cases (by_28_percent legs) _ one.1);
    }

-- legs that one of the two rules allows are fair
pub legs_fair : (x y z : ℕ) → FairLegs x y z → IsTrue (is_fair (x ∷ y ∷ z ∷ []))
unfolding is_fair
legs_fair x y z fair =
    let legs = x ∷ y ∷ z ∷ [] in
    let all = sum legs in
    and_both (nat_lt 0 all) _ (lt-ltb 0 all (omega (arith, fair.some)))
    (⊎_elim
    (λ small. or_first (by_28_percent legs) _ (from_legs (28 * all) (28 * (x + y + z)) x y z (omega arith) small))
    (λ (wide : AreLarge x y z). or_second (by_28_percent legs) _
    (and_both (nat_le large all) _ (le-leb large all (omega (arith, wide.long)))
    (and_both (none_below (25 * all) legs) _ (from_legs (25 * all) (25 * (x + y + z)) x y z (omega arith) wide.from)
    (up_to_legs (45 * all) (45 * (x + y + z)) x y z (omega arith) wide.up_to))))
    fair.rule)

from_turned : (share other x y z : ℕ) → share ≡ other → AreFrom share x y z → AreFrom other x z y
from_turned share other x y z same are = record {
  first = omega (arith, same, are.first);
  second = omega (arith, same, are.third);
  third = omega (arith, same, are.second);
}

from_round : (share other x y z : ℕ) → share ≡ other → AreFrom share x y z → AreFrom other y z x
from_round share other x y z same are = record {
  first = omega (arith, same, are.second);
  second = omega (arith, same, are.third);
  third = omega (arith, same, are.first);
}

up_to_turned : (share other x y z : ℕ) → share ≡ other → AreUpTo share x y z → AreUpTo other x z y
up_to_turned share other x y z same are = record {
  first = omega (arith, same, are.first);
  second = omega (arith, same, are.third);
  third = omega (arith, same, are.second);
}

up_to_round : (share other x y z : ℕ) → share ≡ other → AreUpTo share x y z → AreUpTo other y z x
up_to_round share other x y z same are = record {
  first = omega (arith, same, are.second);
  second = omega (arith, same, are.third);
  third = omega (arith, same, are.first);
}

-- fair legs are fair in every order: if the last two change places, and one after the other
pub fair_turned : (x y z : ℕ) → FairLegs x y z → FairLegs x z y
fair_turned x y z fair = record {
  some = omega (arith, fair.some);
  rule = ⊎_elim
      (λ (small : AreFrom (28 * (x + y + z)) x y z). inl (from_turned _ (28 * (x + z + y)) x y z (omega arith) small))
      (λ (wide : AreLarge x y z). inr (record {
        long = omega (arith, wide.long);
        from = from_turned _ (25 * (x + z + y)) x y z (omega arith) wide.from;
        up_to = up_to_turned _ (45 * (x + z + y)) x y z (omega arith) wide.up_to;
      }))
      fair.rule;
}

pub fair_round : (x y z : ℕ) → FairLegs x y z → FairLegs y z x
fair_round x y z fair = record {
  some = omega (arith, fair.some);
  rule = ⊎_elim
      (λ (small : AreFrom (28 * (x + y + z)) x y z). inl (from_round _ (28 * (y + z + x)) x y z (omega arith) small))
      (λ (wide : AreLarge x y z). inr (record {
        long = omega (arith, wide.long);
        from = from_round _ (25 * (y + z + x)) x y z (omega arith) wide.from;
        up_to = up_to_round _ (45 * (y + z + x)) x y z (omega arith) wide.up_to;
      }))
      fair.rule;
}

-- fair legs are at most as long as the legs of both rules are
pub at_most_by_either : (legs : Legs) (one other most : ℕ) → AreAtMostBy by_28_percent legs one → AreAtMostBy by_25_to_45_percent legs other → one ≤ most → other ≤ most → AreAtMost legs most
unfolding is_fair
at_most_by_either legs one other most small wide low high x y z fair =
    let lengths = x ∷ y ∷ z ∷ [] in
    let parts = and_parts (nat_lt 0 (sum lengths)) _ fair.allowed in
    ⊎_elim
    (λ (is : IsTrue (by_28_percent lengths)). omega (
      arith,
      low,
      small x y z
          (record { first_between = fair.first_between; second_between = fair.second_between; third_between = fair.third_between; allowed = is }),
    ))
    (λ (is : IsTrue (by_25_to_45_percent lengths)). omega (
      arith,
      high,
      wide x y z
          (record { first_between = fair.first_between; second_between = fair.second_between; third_between = fair.third_between; allowed = is }),
    ))
    (or_cases (by_28_percent lengths) _ parts.1)
