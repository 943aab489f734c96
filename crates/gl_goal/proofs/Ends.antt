-- The ends of two lists of values joined.
use Rattle.std.proofs.Common.{◌≡◌, List, ◌++◌, map, ℤ, ◌≤ℤ◌, sym, subst, arith}
use Rattle.std.specs.Prelude.{Contains, int_lt}
use Rattle.std.specs.Int.{int_min, int_max}
use Rattle.std.proofs.lemmas.Int.{ints, int_min_is, int_max_is}
use Rattle.std.proofs.lemmas.Bool.{cond_both}
use Rattle.std.proofs.lemmas.List.{map-append}
use Rattle.std.proofs.lemmas.List.Elements.{All-append, Contains-append_left, Contains-append_right}
use Rattle.gl_igc.specs.declared.fix.Fix.{Fix}
use Rattle.gl_goal.specs.Box.{AreEnds, IsBetween}

AreEnds-append : (one other : ℤ × ℤ) (xs ys : List ℤ) → AreEnds one xs → AreEnds other ys → AreEnds (int_min one.0 other.0, int_max one.1 other.1) (xs ++ ys)
AreEnds-append one other xs ys h k = record {
  between = All-append (IsBetween (int_min one.0 other.0, int_max one.1 other.1)) xs ys
      (λ at d below. let w = h.between at d below in (omega (arith, ints, w.0, int_min_is one.0 other.0), omega (arith, ints, w.1, int_max_is one.1 other.1)))
      (λ at d below. let w = k.between at d below in (omega (arith, ints, w.0, int_min_is one.0 other.0), omega (arith, ints, w.1, int_max_is one.1 other.1)));
  lower_reached = cond_both (int_lt other.0 one.0) other.0 one.0 (Contains (xs ++ ys)) (λ _. Contains-append_right xs ys other.0 k.lower_reached)
      (λ _. Contains-append_left xs ys one.0 h.lower_reached);
  upper_reached = cond_both (int_lt other.1 one.1) one.1 other.1 (Contains (xs ++ ys)) (λ _. Contains-append_left xs ys one.1 h.upper_reached)
      (λ _. Contains-append_right xs ys other.1 k.upper_reached);
}

-- the ends of one component over two lists of fixes
pub AreEnds-map_append : (f : Fix → ℤ) (one other : ℤ × ℤ) (xs ys : List Fix) → AreEnds one (map f xs) → AreEnds other (map f ys)
    → AreEnds (int_min one.0 other.0, int_max one.1 other.1) (map f (xs ++ ys))
AreEnds-map_append f one other xs ys h k =
    let P : List ℤ → Type 0 = AreEnds (int_min one.0 other.0, int_max one.1 other.1) in
    subst P (sym (map-append f xs ys)) (AreEnds-append one other (map f xs) (map f ys) h k)

-- the same, where the joined ends are given by their equations
pub AreEnds-join : (f : Fix → ℤ) (one other ends : ℤ × ℤ) (xs ys : List Fix) → ends.0 ≡ int_min one.0 other.0 → ends.1 ≡ int_max one.1 other.1 → AreEnds one (map f xs) → AreEnds other (map f ys)
    → AreEnds ends (map f (xs ++ ys))
AreEnds-join f one other ends xs ys lower upper h k =
    let P : ℤ × ℤ → Type 0 = λ e. AreEnds e (map f (xs ++ ys)) in
    subst P (λ i. (sym lower i, sym upper i)) (AreEnds-map_append f one other xs ys h k)

-- what is ordered stays so in the joined ends
pub joined-ordered : (a b c d lo hi : ℤ) → a ≤ℤ b → lo ≡ int_min a c → hi ≡ int_max b d → lo ≤ℤ hi
joined-ordered a b c d lo hi h lower upper = omega (arith, ints, int_min_is a c, int_max_is b d)

pub lower-bound : (m a b lo : ℤ) → m ≤ℤ a → m ≤ℤ b → lo ≡ int_min a b → m ≤ℤ lo
lower-bound m a b lo h k is = omega (arith, ints, int_min_is a b)

pub upper-bound : (m a b hi : ℤ) → a ≤ℤ m → b ≤ℤ m → hi ≡ int_max a b → hi ≤ℤ m
upper-bound m a b hi h k is = omega (arith, ints, int_max_is a b)
