-- The radials at the four quarters, and the directions behind them.
use Rattle.std.proofs.Common.{◌≡◌, ℕ, refl, sym, subst, ℤ, pos, neg_ℤ, ◌≤ℤ◌, ◌<ℤ◌, ◌*ℤ◌, ◌-ℤ◌, true, false, arith}
use Rattle.std.specs.Prelude.{int_le}
use Rattle.std.proofs.lemmas.Int.{ints}
use Rattle.gl_sphere.specs.Sine.{half_turn_sine, quarter_sine, radians, sine_sum, sine_term, written_cosine, written_sine}
use Rattle.gl_zone.specs.Zones.{is_clockwise}
use Rattle.gl_draft.specs.Bearing.{is_too_near, radial_at, signed_angle}

pub radial-north : radial_at 0 ≡ (pos 10_000_000_000_000_000, pos 0)
unfolding signed_angle written_cosine written_sine half_turn_sine quarter_sine radians sine_sum sine_term
radial-north = refl

pub radial-east : radial_at 540_000_000 ≡ (pos 0, pos 10_000_000_000_000_000)
unfolding signed_angle written_cosine written_sine half_turn_sine quarter_sine radians sine_sum sine_term
radial-east = refl

pub radial-south : radial_at 1_080_000_000 ≡ (neg_ℤ (pos 10_000_000_000_000_000), pos 0)
unfolding signed_angle written_cosine written_sine half_turn_sine quarter_sine radians sine_sum sine_term
radial-south = refl

pub radial-west : radial_at 1_620_000_000 ≡ (pos 0, neg_ℤ (pos 10_000_000_000_000_000))
unfolding signed_angle written_cosine written_sine half_turn_sine quarter_sine radians sine_sum sine_term
radial-west = refl

pub radial-round : radial_at 2_160_000_000 ≡ (pos 10_000_000_000_000_000, pos 0)
unfolding signed_angle written_cosine written_sine half_turn_sine quarter_sine radians sine_sum sine_term
radial-round = refl

-- a number that isn't negative, and one that is
le-true : (z : ℤ) → pos 0 ≤ℤ z → int_le (pos 0) z ≡ true
le-true z h = grind (arith, ints)

le-false : (z : ℤ) → z <ℤ pos 0 → int_le (pos 0) z ≡ false
le-false z h = grind (arith, ints)

-- a direction behind a radial, and one before it
behind : (angle : ℕ) (north east n e : ℤ) → radial_at angle ≡ (north, east) → pos 0 ≤ℤ ((north *ℤ e) -ℤ (east *ℤ n)) → is_clockwise (radial_at angle) (n, e) ≡ true
behind angle north east n e is h =
    let P : ℤ × ℤ → Type 0 = λ radial. is_clockwise radial (n, e) ≡ true in
    subst P (sym is) (le-true _ h)

before : (angle : ℕ) (north east n e : ℤ) → radial_at angle ≡ (north, east) → ((north *ℤ e) -ℤ (east *ℤ n)) <ℤ pos 0 → is_clockwise (radial_at angle) (n, e) ≡ false
before angle north east n e is h =
    let P : ℤ × ℤ → Type 0 = λ radial. is_clockwise radial (n, e) ≡ false in
    subst P (sym is) (le-false _ h)

pub behind_north : (n e : ℤ) → pos 0 ≤ℤ e → is_clockwise (radial_at 0) (n, e) ≡ true
behind_north n e h = behind 0 _ _ n e radial-north (omega (arith, ints, h))

pub before_east : (n e : ℤ) → pos 0 <ℤ n → is_clockwise (radial_at 540_000_000) (n, e) ≡ false
before_east n e h = before 540_000_000 _ _ n e radial-east (omega (arith, ints, h))

pub behind_east : (n e : ℤ) → n ≤ℤ pos 0 → is_clockwise (radial_at 540_000_000) (n, e) ≡ true
behind_east n e h = behind 540_000_000 _ _ n e radial-east (omega (arith, ints, h))

pub before_south : (n e : ℤ) → pos 0 <ℤ e → is_clockwise (radial_at 1_080_000_000) (n, e) ≡ false
before_south n e h = before 1_080_000_000 _ _ n e radial-south (omega (arith, ints, h))

pub behind_south : (n e : ℤ) → e ≤ℤ pos 0 → is_clockwise (radial_at 1_080_000_000) (n, e) ≡ true
behind_south n e h = behind 1_080_000_000 _ _ n e radial-south (omega (arith, ints, h))

pub before_west : (n e : ℤ) → n <ℤ pos 0 → is_clockwise (radial_at 1_620_000_000) (n, e) ≡ false
before_west n e h = before 1_620_000_000 _ _ n e radial-west (omega (arith, ints, h))

pub behind_west : (n e : ℤ) → pos 0 ≤ℤ n → is_clockwise (radial_at 1_620_000_000) (n, e) ≡ true
behind_west n e h = behind 1_620_000_000 _ _ n e radial-west (omega (arith, ints, h))

pub before_round : (n e : ℤ) → e <ℤ pos 0 → is_clockwise (radial_at 2_160_000_000) (n, e) ≡ false
before_round n e h = before 2_160_000_000 _ _ n e radial-round (omega (arith, ints, h))

-- no direction is too near
pub nowhere_is_near : (n e : ℤ) → n ≡ pos 0 → e ≡ pos 0 → is_too_near (n, e) ≡ true
nowhere_is_near n e north east =
    let N : ℤ → Type 0 = λ (x : ℤ). is_too_near (x, e) ≡ true in
    let E : ℤ → Type 0 = λ (x : ℤ). is_too_near (pos 0, x) ≡ true in
    subst N (sym north) (subst E (sym east) refl)
