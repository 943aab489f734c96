-- The least box of some fixes is their hull.
use Rattle.std.proofs.Common.{◌≡◌, ◌<◌, List, map, length, ℤ, ◌≤ℤ◌, subst, arith}
use Rattle.std.specs.Prelude.{All, Contains}
use Rattle.std.proofs.lemmas.Int.{ints}
use Rattle.gl_igc.specs.declared.fix.Fix.{Fix}
use Rattle.gl_goal.specs.Box.{AreEnds, Box, IsBetween, IsLeastBox, ends_of, hull_of}
use Rattle.gl_goal.specs.Lemmas.Boxes.{ends_of-are_ends}

-- what holds of each value holds of one that is among them
of-reached : (P : ℤ → Type 0) (values : List ℤ) (value : ℤ) → All P values → Contains values value → P value
of-reached P values value all reached = subst P reached.2 (all reached.0 value reached.1)

same-order : (a b : ℤ) → a ≤ℤ b → b ≤ℤ a → a ≡ b
same-order a b h k = omega (arith, ints)

-- two pairs of ends of the same values are the same
AreEnds-unique : (one other : ℤ × ℤ) (values : List ℤ) → AreEnds one values → AreEnds other values → one ≡ other
AreEnds-unique one other values h k =
    let low : one.0 ≡ other.0 = same-order one.0 other.0 (of-reached (IsBetween one) values other.0 h.between k.lower_reached).0
    (of-reached (IsBetween other) values one.0 k.between h.lower_reached).0 in
    let high : one.1 ≡ other.1 = same-order one.1 other.1 (of-reached (IsBetween other) values one.1 k.between h.upper_reached).1
    (of-reached (IsBetween one) values other.1 h.between k.upper_reached).1 in
    λ i. (low i, high i)

some-of : (ends : ℤ × ℤ) (values : List ℤ) → AreEnds ends values → 0 < length values
some-of ends values are = omega (arith, are.lower_reached.1)

component-is : (ends : ℤ × ℤ) (values : List ℤ) → AreEnds ends values → ends ≡ ends_of values
component-is ends values are = AreEnds-unique ends (ends_of values) values are (ends_of-are_ends values (some-of ends values are))

pub IsLeastBox-is_hull : (box : Box) (fixes : List Fix) → IsLeastBox box fixes → box ≡ hull_of fixes
IsLeastBox-is_hull box fixes least =
    let x = component-is box.x (map (λ fix. fix.at.x) fixes) least.x in
    let y = component-is box.y (map (λ fix. fix.at.y) fixes) least.y in
    let z = component-is box.z (map (λ fix. fix.at.z) fixes) least.z in
    let alt = component-is box.alt (map (λ fix. fix.alt) fixes) least.alt in
    λ i. record { x = x i; y = y i; z = z i; alt = alt i }
