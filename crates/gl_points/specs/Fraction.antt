-- Exact fractions of whole numbers.
use Rattle.std.specs.Prelude.{◌≡◌, ℕ, ◌+◌, ◌-◌, ◌*◌, ◌/◌, ◌<◌, ◌≤◌, Bool, ◌==◌, nat_le, if◌then◌else◌}

-- what is divided, and by what
pub record Fraction : Type 0 where
  pub num : ℕ
  pub den : ℕ

infix 80 ◌÷◌
infixl 70 ◌⊗◌ ◌⊘◌
infixl 65 ◌⊕◌ ◌⊖◌
abbrev pub ◌÷◌ : ℕ → ℕ → Fraction
m ÷ n = record { num = m; den = n }

-- a whole number
abbrev pub whole : ℕ → Fraction
whole n = n ÷ 1

abbrev pub ◌⊗◌ : Fraction → Fraction → Fraction
a ⊗ b = (a.num * b.num) ÷ (a.den * b.den)

abbrev pub ◌⊘◌ : Fraction → Fraction → Fraction
a ⊘ b = (a.num * b.den) ÷ (a.den * b.num)

abbrev pub ◌⊕◌ : Fraction → Fraction → Fraction
a ⊕ b = (a.num * b.den + b.num * a.den) ÷ (a.den * b.den)

-- a difference, 0 where it would be below 0
abbrev pub ◌⊖◌ : Fraction → Fraction → Fraction
a ⊖ b = (a.num * b.den - b.num * a.den) ÷ (a.den * b.den)

-- one fraction is at most another
abbrev pub is_at_most : Fraction → Fraction → Bool
is_at_most a b = nat_le (a.num * b.den) (b.num * a.den)

abbrev pub IsAtMost : Fraction → Fraction → Type 0
IsAtMost a b = a.num * b.den ≤ b.num * a.den

-- two fractions are one number
abbrev pub is_same : Fraction → Fraction → Bool
is_same a b = a.num * b.den == b.num * a.den

abbrev pub IsSame : Fraction → Fraction → Type 0
IsSame a b = a.num * b.den ≡ b.num * a.den

-- the lesser of two fractions
abbrev pub lesser : Fraction → Fraction → Fraction
lesser a b = if is_at_most a b then a else b

-- the nearest whole number, of two that are as near the greater
abbrev pub rounded : Fraction → ℕ
rounded a = (2 * a.num + a.den) / (2 * a.den)

-- A whole number is the nearest to a fraction: the fraction is at most half below it, and less
-- than half above it.
pub record IsNearest (a : Fraction) (n : ℕ) : Type 0 where
  pub below : 2 * n * a.den ≤ 2 * a.num + a.den
  pub above : 2 * a.num < (2 * n + 1) * a.den
