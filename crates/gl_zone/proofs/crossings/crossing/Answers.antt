use Rattle.std.proofs.Common.{◌≡◌, ℕ, ◌+◌, ◌/◌, ℤ, ◌≤ℤ◌, FitsSigned, to_z, of_z, w32, ap, ◌∙◌, rules, arith, lit<}
use Rattle.std.specs.Prelude.{unsigned_abs}
use Rattle.std.proofs.lemmas.Int.{ints, to_z-of_z}
use mir.Syntax.{w128}
use Rattle.gl_sphere.specs.Distance.{squared_gap, squared_chord, written_distance}
use Rattle.gl_sphere.specs.Range.{IsWithin}
use Rattle.gl_sphere.specs.declared.place.Vec3.{Vec3}
use Rattle.gl_igc.specs.declared.fix.Fix.{Fix}
use Rattle.gl_zone.specs.Crossing.{depth_of, on_the_way, at_crossing, distance_at_crossing, CrossesForwards}
use Rattle.gl_zone.specs.Side.{side_of, greatest_side}
use Rattle.gl_zone.specs.declared.line.Line.{Line}
use Rattle.gl_zone.proofs.Products.{kept}
use Rattle.gl_zone.proofs.crossings.crossing.Goals as goal
use Rattle.gl_zone.proofs.crossings.crossing.Goals.{After-dist, After-on_the_way}

depth_is : (line : Line) (x : Vec3) (s : ℤ) (a : ℕ) → IsWithin greatest_side s → s ≡ side_of line x → a ≡ unsigned_abs (to_z w128 (of_z w128 s)) / 1073741824 → a ≡ depth_of line x
unfolding depth_of
depth_is line x s a bound s_is a_is =
    a_is ∙ ap (λ z. unsigned_abs z / 1073741824) (kept w128 s greatest_side (lit< tt) bound) ∙ ap (λ z. unsigned_abs z / 1073741824) s_is

chord_is : (point centre : Vec3) (x y z : ℤ) → point.x ≡ x → point.y ≡ y → point.z ≡ z → squared_chord point centre ≡ squared_gap x centre.x + squared_gap y centre.y + squared_gap z centre.z
unfolding squared_chord
chord_is point centre x y z x_is y_is z_is = cc

distance_is : (line : Line) (x y : Fix) (point : Vec3) (q d : ℕ) → point.x ≡ at_crossing line x y x.at.x y.at.x → point.y ≡ at_crossing line x y x.at.y y.at.y
    → point.z ≡ at_crossing line x y x.at.z y.at.z
    → q ≡ squared_chord point line.centre → d ≡ written_distance q → d ≡ distance_at_crossing line x y
unfolding distance_at_crossing
distance_is line x y point q d x_is y_is z_is q_is d_is =
    d_is ∙ ap written_distance (q_is ∙ chord_is point line.centre _ _ _ x_is y_is z_is)

at_crossing_is : (line : Line) (x y : Fix) (a b : ℕ) (p q r : ℤ) → a ≡ depth_of line x.at → b ≡ depth_of line y.at → r ≡ on_the_way a b p q → r ≡ at_crossing line x y p q
at_crossing_is line x y a b p q r a_is b_is r_is = cc

before-is : (c : After-dist) → c.share_of-share.result.before ≡ depth_of c.args.line.now c.args.x.now.at
before-is c = depth_is c.args.line.now c.args.x.now.at c.side-before.result _ c.side-before.ensures.bound c.side-before.ensures.value c.share_of-share.ensures.before

behind-is : (c : After-dist) → c.share_of-share.result.behind ≡ depth_of c.args.line.now c.args.y.now.at
behind-is c = depth_is c.args.line.now c.args.y.now.at c.side-behind.result _ c.side-behind.ensures.bound c.side-behind.ensures.value c.share_of-share.ensures.behind

distance-is : (c : After-dist) → c.dist.result ≡ distance_at_crossing c.args.line.now c.args.x.now c.args.y.now
distance-is c =
    let line : Line = c.args.line.now in
    let x : Fix = c.args.x.now in
    let y : Fix = c.args.y.now in
    distance_is line x y c.point_on_the_way-point.result c.sq.result _
    (at_crossing_is line x y _ _ _ _ _ (before-is c) (behind-is c) c.point_on_the_way-point.ensures.x)
    (at_crossing_is line x y _ _ _ _ _ (before-is c) (behind-is c) c.point_on_the_way-point.ensures.y)
    (at_crossing_is line x y _ _ _ _ _ (before-is c) (behind-is c) c.point_on_the_way-point.ensures.z)
    c.sq.ensures.value c.dist.ensures.value

pub returns-then-dist-line-clause-none : goal.returns-then-dist-line-clause-none
returns-then-dist-line-clause-none c =
    λ t (h : CrossesForwards c.args.line.now c.args.x.now c.args.y.now t). absurd (omega (arith, distance-is c.before, h.within))

seconds_passed : (a b : ℕ) (r p q : ℤ) → FitsSigned w32 p → FitsSigned w32 q → r ≡ on_the_way a b (to_z w32 (of_z w32 p)) (to_z w32 (of_z w32 q)) → r ≡ on_the_way a b p q
seconds_passed a b r p q p_fits q_fits h =
    let e : to_z w32 (of_z w32 p) ≡ p = to_z-of_z w32 p p_fits in
    let f : to_z w32 (of_z w32 q) ≡ q = to_z-of_z w32 q q_fits in
    cc

time-is : (c : After-on_the_way) → to_z w32 (of_z w32 c.on_the_way.result) ≡ at_crossing c.args.line.now c.args.x.now c.args.y.now c.args.x.now.second c.args.y.now.second
time-is c =
    let p_fits : FitsSigned w32 c.args.x.now.second = search rules in
    let q_fits : FitsSigned w32 c.args.y.now.second = search rules in
    let r_fits : FitsSigned w32 c.on_the_way.result = search rules in
    let r = seconds_passed _ _ c.on_the_way.result c.args.x.now.second c.args.y.now.second p_fits q_fits c.on_the_way.ensures.value in
    to_z-of_z w32 c.on_the_way.result r_fits ∙ at_crossing_is c.args.line.now c.args.x.now c.args.y.now _ _ _ _ _ (before-is c.before.before.before.before) (behind-is c.before.before.before.before) r

between-is : (c : After-on_the_way) → (c.args.x.now.second ≤ℤ c.on_the_way.result) × (c.on_the_way.result ≤ℤ c.args.y.now.second)
between-is c =
    let w = c.on_the_way.ensures.between (omega (arith, ints)) in
    (omega (arith, ints, w.0), omega (arith, ints, w.1))

pub returns-clause-some : goal.returns-clause-some
returns-clause-some c = record {
  before = omega (arith, ints, c.side-before.ensures.value);
  behind = omega (arith, ints, c.side-behind.ensures.value);
  within = omega (arith, distance-is c.before.before.before.before);
  time = time-is c;
}

pub returns-clause-between : goal.returns-clause-between
returns-clause-between c =
    let w : (c.args.x.now.second ≤ℤ c.on_the_way.result) × (c.on_the_way.result ≤ℤ c.args.y.now.second) = between-is c in
    (omega (arith, ints, w.0), omega (arith, ints, w.1))
