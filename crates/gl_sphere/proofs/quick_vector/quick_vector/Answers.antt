use Rattle.std.proofs.Common.{◌≡◌, ℕ, ◌≤◌, ℤ, pos, ◌-ℤ◌, neg_ℤ, ◌<◌, ◌-◌, to_z, of_z, w32, sym, ap, ◌∙◌, subst, arith}
use Rattle.std.specs.Prelude.{unsigned_abs, MatchBool}
use lib.Signed.{lt_z}
use Rattle.std.proofs.lemmas.Int.{ints, to_z-of_z}
use Rattle.gl_sphere.specs.Components.{written_x, written_y, written_z}
use Rattle.gl_sphere.specs.Lemmas.Signs.{abs_at_most, half_turn_sine-first}
use Rattle.gl_sphere.specs.Place.{written_vector}
use Rattle.gl_sphere.specs.Range.{IsWithin}
use Rattle.gl_sphere.specs.Sine.{quarter_sine, half_turn_sine, written_cosine}
use Rattle.gl_sphere.proofs.QuickLengths.{own-within}
use Rattle.gl_sphere.proofs.QuickVectors.{IsNatural, quarter_sine-natural, near_size, cosine-near, across-is, east-is, height-is}
use Rattle.gl_sphere.proofs.Vectors.{Vec3-same}
use Rattle.gl_sphere.proofs.quick_vector.quick_vector.Goals as goal
use Rattle.gl_sphere.proofs.quick_vector.quick_vector.Goals.{After-directed-3}

latitude-is : (c : After-directed-3) → c.from-lat.result ≡ unsigned_abs c.args.g.lat
latitude-is c = grind (arith, to_z-of_z, c.unsigned_abs.ensures.value, c.from-lat.ensures)

longitude-is : (c : After-directed-3) → c.from-lon.result ≡ unsigned_abs c.args.g.lon
longitude-is c = grind (arith, to_z-of_z, c.unsigned_abs-2.ensures.value, c.from-lon.ensures)

latitude-in : (c : After-directed-3) → c.from-lat.result ≤ 540000000
latitude-in c = omega (arith, latitude-is c, abs_at_most c.args.g.lat 540000000 c.args.g.lat_in_range)

longitude-in : (c : After-directed-3) → c.from-lon.result ≤ 1080000000
longitude-in c = omega (arith, longitude-is c, abs_at_most c.args.g.lon 1080000000 c.args.g.lon_in_range)

-- a number that a word of 32 bits holds is kept there
kept : (z : ℤ) (m : ℕ) → m < 2147483648 → IsWithin m z → to_z w32 (of_z w32 z) ≡ z
kept z m small within =
    let size = abs_at_most z m within in
    let low : unsigned_abs z < 2147483648 = omega arith in
    grind (arith, ints, to_z-of_z)

from_axis : (c : After-directed-3)
    → (size : ℕ) × IsNatural (quarter_sine (540000000 - c.from-lat.result)) size
from_axis c = quarter_sine-natural (540000000 - c.from-lat.result) (omega arith)

axis-is : (c : After-directed-3) → pos (from_axis c).0 ≡ written_cosine c.args.g.lat
axis-is c =
    (from_axis c).1.is
    ∙ sym (cosine-near c.args.g.lat (540000000 - c.from-lat.result) c.from-lat.result (latitude-is c) (latitude-in c)
    (omega (arith, latitude-in c)))

axis-near : (c : After-directed-3) → IsWithin 512 (pos c.quick_sine-from_axis.result -ℤ pos (from_axis c).0)
axis-near c =
    near_size (540000000 - c.from-lat.result) c.quick_sine-from_axis.result (from_axis c).0 (from_axis c).1
    c.quick_sine-from_axis.ensures.near

x-of : (c : After-directed-3) → c.directed.result ≡ written_x c.args.g
unfolding written_x
x-of c =
    let axis = from_axis c in
    let gap : c.abs_diff.result ≤ 540000000 = omega (arith, c.abs_diff.ensures, longitude-in c) in
    let size = quarter_sine-natural c.abs_diff.result gap in
    let near = near_size c.abs_diff.result c.quick_sine-across.result size.0 size.1 c.quick_sine-across.ensures.near in
    let length = kept c.in_ok-x.x 637100000 (omega arith) c.in_ok-x.ensures.bound
    ∙ c.in_ok-x.ensures.value axis.0 size.0 axis.1.at_most size.1.at_most (axis-near c) near in
    across-is c.args.g.lon c.directed.result (to_z w32 (of_z w32 c.in_ok-x.x)) (written_cosine c.args.g.lat) size.0 axis.0 c.abs_diff.result c.from-lon.result
    (longitude-is c) (longitude-in c) c.abs_diff.ensures (axis-is c) size.1.is length c.directed.ensures.value

y-of : (c : After-directed-3) → c.directed-2.result ≡ written_y c.args.g
unfolding written_y
y-of c =
    let axis = from_axis c in
    let l = to_z w32 (of_z w32 c.in_ok-y.y) in
    let r = c.directed-2.result in
    let size = quarter_sine-natural c.quarter_angle.result c.quarter_angle.ensures.bound in
    let near = near_size c.quarter_angle.result c.quick_sine-east.result size.0 size.1 c.quick_sine-east.ensures.near in
    let length = kept c.in_ok-y.y 637100000 (omega arith) c.in_ok-y.ensures.bound
    ∙ c.in_ok-y.ensures.value axis.0 size.0 axis.1.at_most size.1.at_most (axis-near c) near in
    let choice = subst (λ (z : ℤ). MatchBool (lt_z z (pos 0)) (r ≡ neg_ℤ l) (r ≡ l))
    (kept c.args.g.lon 1080000000 (omega arith) c.args.g.lon_in_range) c.directed-2.ensures.value in
    east-is c.args.g.lon r l (written_cosine c.args.g.lat) size.0 axis.0 (axis-is c)
    (size.1.is ∙ c.quarter_angle.ensures.value ∙ ap half_turn_sine (longitude-is c)) length choice

z-of : (c : After-directed-3) → c.directed-3.result ≡ written_z c.args.g
unfolding written_z
z-of c =
    let l = to_z w32 (of_z w32 c.in_ok-z.z) in
    let r = c.directed-3.result in
    let size = quarter_sine-natural c.from-lat.result (latitude-in c) in
    let near = near_size c.from-lat.result c.quick_sine-height.result size.0 size.1 c.quick_sine-height.ensures.near in
    let length = kept c.in_ok-z.z 637100000 (omega arith) c.in_ok-z.ensures.bound
    ∙ c.in_ok-z.ensures.value size.0 10000000000000000 size.1.at_most (omega arith) near (own-within 10000000000000000) in
    let choice = subst (λ (z : ℤ). MatchBool (lt_z z (pos 0)) (r ≡ neg_ℤ l) (r ≡ l))
    (kept c.args.g.lat 540000000 (omega arith) c.args.g.lat_in_range) c.directed-3.ensures.value in
    height-is c.args.g.lat r l size.0
    (size.1.is ∙ sym (half_turn_sine-first c.from-lat.result (latitude-in c)) ∙ ap half_turn_sine (latitude-is c)) length choice

pub returns : goal.returns
unfolding written_vector
returns c =
    let d = c.before in
    Vec3-same _ (written_vector c.args.g)
    (kept d.directed.result 637100000 (omega arith) d.directed.ensures.bound ∙ x-of d)
    (kept d.directed-2.result 637100000 (omega arith) d.directed-2.ensures.bound ∙ y-of d)
    (kept d.directed-3.result 637100000 (omega arith) d.directed-3.ensures.bound ∙ z-of d)
