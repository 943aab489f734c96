-- Which values, and which points, are as far apart or as near as their extents and boxes allow.
use Rattle.std.proofs.Common.{◌≡◌, ℕ, ◌+◌, ◌≤◌, ◌<◌, ℤ, pos, ◌-ℤ◌, ◌≤ℤ◌, ◌<ℤ◌, ap, sym, subst, ◌∙◌, ⊎_elim, ◌⊎◌, inl, inr, arith}
use Rattle.std.specs.Prelude.{true, false, unsigned_abs, int_lt}
use Rattle.std.specs.Int.{int_max}
use Rattle.std.proofs.lemmas.Int.{ints, int_max_is}
use Rattle.std.proofs.lemmas.Bool.{cases_lt, cases_Bool}
use Rattle.gl_sphere.specs.declared.place.Vec3.{Vec3}
use Rattle.gl_sphere.specs.Distance.{squared_chord, squared_gap}
use Rattle.gl_sphere.specs.Range.{IsWithin}
use Rattle.gl_sphere.specs.Sphere.{radius}
use Rattle.gl_goal.specs.Box.{Box, IsBetween}
use Rattle.gl_goal.specs.Chords.{reach, gap, squared, greatest_chord, least_chord, IsChord, IsGreatestChord, IsLeastChord}
use Rattle.gl_goal.specs.Hull.{box_of}
use Rattle.gl_goal.specs.Lemmas.ChordBounds.{squared_chord-at_most, squared_chord-at_least}
use Rattle.gl_goal.specs.declared.hull.Hull.{Hull}

-- two values between these ends differ by n
pub record IsDifference (one other : ℤ × ℤ) (n : ℕ) : Type 0 where
  pub from : ℤ
  pub to : ℤ
  pub from_between : IsBetween one from
  pub to_between : IsBetween other to
  pub is : unsigned_abs (from -ℤ to) ≡ n

pub reach-attained : (one other : ℤ × ℤ) → one.0 ≤ℤ one.1 → other.0 ≤ℤ other.1 → IsDifference one other (reach one other)
unfolding reach
reach-attained one other h k =
    ⊎_elim
    (λ (lt : unsigned_abs (one.1 -ℤ other.0) < unsigned_abs (other.1 -ℤ one.0)). record {
      from = one.0;
      to = other.1;
      from_between = (omega (arith, ints), h);
      to_between = (k, omega (arith, ints));
      is = omega (arith, ints);
    })
    (λ (ge : unsigned_abs (other.1 -ℤ one.0) ≤ unsigned_abs (one.1 -ℤ other.0)). record {
      from = one.1;
      to = other.0;
      from_between = (h, omega (arith, ints));
      to_between = (omega (arith, ints), k);
      is = omega (arith, ints);
    })
    (cases_lt (unsigned_abs (one.1 -ℤ other.0)) (unsigned_abs (other.1 -ℤ one.0)))

before-or-not : (a b : ℤ) → (a <ℤ b) ⊎ (b ≤ℤ a)
before-or-not a b =
    ⊎_elim
    (λ (before : int_lt a b ≡ true). inl (omega (arith, ints)))
    (λ (not : int_lt a b ≡ false). inr (omega (arith, ints)))
    (cases_Bool (int_lt a b))

gap-apart : (one other : ℤ × ℤ) → one.0 ≤ℤ one.1 → other.0 ≤ℤ other.1 → (one.1 <ℤ other.0) → IsDifference one other (gap one other)
unfolding gap
gap-apart one other h k apart =
    let greater = int_max (other.0 -ℤ one.1) (one.0 -ℤ other.1) in
    record {
      from = one.1;
      to = other.0;
      from_between = (h, omega (arith, ints));
      to_between = (omega (arith, ints), k);
      is = omega (arith, ints, int_max_is (other.0 -ℤ one.1) (one.0 -ℤ other.1), int_max_is greater (pos 0));
    }

gap-behind : (one other : ℤ × ℤ) → one.0 ≤ℤ one.1 → other.0 ≤ℤ other.1 → (other.1 <ℤ one.0) → IsDifference one other (gap one other)
unfolding gap
gap-behind one other h k apart =
    let greater = int_max (other.0 -ℤ one.1) (one.0 -ℤ other.1) in
    record {
      from = one.0;
      to = other.1;
      from_between = (omega (arith, ints), h);
      to_between = (k, omega (arith, ints));
      is = omega (arith, ints, int_max_is (other.0 -ℤ one.1) (one.0 -ℤ other.1), int_max_is greater (pos 0));
    }

gap-overlap : (one other : ℤ × ℤ) → one.0 ≤ℤ one.1 → other.0 ≤ℤ other.1 → (other.0 ≤ℤ one.1) → (one.0 ≤ℤ other.1) → IsDifference one other (gap one other)
unfolding gap
gap-overlap one other h k left right =
    let greater = int_max (other.0 -ℤ one.1) (one.0 -ℤ other.1) in
    let common = int_max one.0 other.0 in
    let is_common = int_max_is one.0 other.0 in
    record {
      from = common;
      to = common;
      from_between = (omega (arith, ints, is_common), omega (arith, ints, is_common));
      to_between = (omega (arith, ints, is_common), omega (arith, ints, is_common));
      is = omega (arith, ints, int_max_is (other.0 -ℤ one.1) (one.0 -ℤ other.1), int_max_is greater (pos 0));
    }

pub gap-attained : (one other : ℤ × ℤ) → one.0 ≤ℤ one.1 → other.0 ≤ℤ other.1 → IsDifference one other (gap one other)
gap-attained one other h k =
    ⊎_elim
    (λ (apart : one.1 <ℤ other.0). gap-apart one other h k apart)
    (λ (left : other.0 ≤ℤ one.1).
    ⊎_elim
    (λ (behind : other.1 <ℤ one.0). gap-behind one other h k behind)
    (λ (right : one.0 ≤ℤ other.1). gap-overlap one other h k left right)
    (before-or-not other.1 one.0))
    (before-or-not one.1 other.0)

-- what lies between two ends within a radius is within it
between-within : (m : ℕ) (ends : ℤ × ℤ) (z : ℤ) → IsWithin m ends.0 → IsWithin m ends.1 → IsBetween ends z → IsWithin m z
between-within m ends z lower upper between = (omega (arith, ints, lower.0, between.0), omega (arith, ints, upper.1, between.1))

squared_gap-is : (p q : ℤ) (n : ℕ) → unsigned_abs (p -ℤ q) ≡ n → squared_gap p q ≡ squared n
unfolding squared_gap
squared_gap-is p q n is = ap squared is

squared_chord-is : (from to : Vec3) (x y z : ℕ) → unsigned_abs (from.x -ℤ to.x) ≡ x → unsigned_abs (from.y -ℤ to.y) ≡ y → unsigned_abs (from.z -ℤ to.z) ≡ z
    → squared_chord from to ≡ squared x + squared y + squared z
unfolding squared_chord
squared_chord-is from to x y z x_is y_is z_is =
    omega (arith, squared_gap-is from.x to.x x x_is, squared_gap-is from.y to.y y y_is, squared_gap-is from.z to.z z z_is)

-- the points whose components differ by these numbers
chord-of : (a b : Hull) (x y z : ℕ) → IsDifference (box_of a).x (box_of b).x x → IsDifference (box_of a).y (box_of b).y y → IsDifference (box_of a).z (box_of b).z z
    → IsChord (box_of a) (box_of b) (squared x + squared y + squared z)
chord-of a b x y z along_x along_y along_z =
    let from : Vec3 = record {
      x = along_x.from;
      y = along_y.from;
      z = along_z.from;
      x_in_range = between-within radius (box_of a).x along_x.from a.lo.x_in_range a.hi.x_in_range along_x.from_between;
      y_in_range = between-within radius (box_of a).y along_y.from a.lo.y_in_range a.hi.y_in_range along_y.from_between;
      z_in_range = between-within radius (box_of a).z along_z.from a.lo.z_in_range a.hi.z_in_range along_z.from_between;
    } in
    let to : Vec3 = record {
      x = along_x.to;
      y = along_y.to;
      z = along_z.to;
      x_in_range = between-within radius (box_of b).x along_x.to b.lo.x_in_range b.hi.x_in_range along_x.to_between;
      y_in_range = between-within radius (box_of b).y along_y.to b.lo.y_in_range b.hi.y_in_range along_y.to_between;
      z_in_range = between-within radius (box_of b).z along_z.to b.lo.z_in_range b.hi.z_in_range along_z.to_between;
    } in
    record {
      from = from;
      to = to;
      from_inside = record { x = along_x.from_between; y = along_y.from_between; z = along_z.from_between };
      to_inside = record { x = along_x.to_between; y = along_y.to_between; z = along_z.to_between };
      is = squared_chord-is from to x y z along_x.is along_y.is along_z.is;
    }

pub greatest_chord-attained : (a b : Hull) → IsChord (box_of a) (box_of b) (greatest_chord (box_of a) (box_of b))
unfolding greatest_chord
greatest_chord-attained a b =
    chord-of a b _ _ _ (reach-attained (box_of a).x (box_of b).x a.x_ordered b.x_ordered) (reach-attained (box_of a).y (box_of b).y a.y_ordered b.y_ordered)
    (reach-attained (box_of a).z (box_of b).z a.z_ordered b.z_ordered)

pub least_chord-attained : (a b : Hull) → IsChord (box_of a) (box_of b) (least_chord (box_of a) (box_of b))
unfolding least_chord
least_chord-attained a b =
    chord-of a b _ _ _ (gap-attained (box_of a).x (box_of b).x a.x_ordered b.x_ordered) (gap-attained (box_of a).y (box_of b).y a.y_ordered b.y_ordered)
    (gap-attained (box_of a).z (box_of b).z a.z_ordered b.z_ordered)

-- the chords, by the squares along each axis
pub greatest_chord-is : (one other : Box) (x y z : ℕ) → x ≡ squared (reach one.x other.x) → y ≡ squared (reach one.y other.y) → z ≡ squared (reach one.z other.z) → x + y + z ≡ greatest_chord one other
unfolding greatest_chord
greatest_chord-is one other x y z x_is y_is z_is = cc

pub least_chord-is : (one other : Box) (x y z : ℕ) → x ≡ squared (gap one.x other.x) → y ≡ squared (gap one.y other.y) → z ≡ squared (gap one.z other.z) → x + y + z ≡ least_chord one other
unfolding least_chord
least_chord-is one other x y z x_is y_is z_is = cc

-- what is measured between extents with these ends
pub between_ends : (f : ℤ × ℤ → ℤ × ℤ → ℕ) (lo hi from to : ℤ) (one other : ℤ × ℤ) (n : ℕ) → n ≡ squared (f (lo, hi) (from, to)) → lo ≡ one.0 → hi ≡ one.1 → from ≡ other.0 → to ≡ other.1
    → n ≡ squared (f one other)
between_ends f lo hi from to one other n is lo_is hi_is from_is to_is =
    is ∙ ap squared (λ i. f (lo_is i, hi_is i) (from_is i, to_is i))

pub greatest-from : (a b : Hull) (n : ℕ) → n ≡ greatest_chord (box_of a) (box_of b) → IsGreatestChord (box_of a) (box_of b) n
greatest-from a b n is =
    let P : ℕ → Type 0 = IsGreatestChord (box_of a) (box_of b) in
    subst P (sym is) (record { reached = greatest_chord-attained a b; greatest = squared_chord-at_most (box_of a) (box_of b) })

pub least-from : (a b : Hull) (n : ℕ) → n ≡ least_chord (box_of a) (box_of b) → IsLeastChord (box_of a) (box_of b) n
least-from a b n is =
    let P : ℕ → Type 0 = IsLeastChord (box_of a) (box_of b) in
    subst P (sym is) (record { reached = least_chord-attained a b; least = squared_chord-at_least (box_of a) (box_of b) })
