-- Texts with a space in them.
use Rattle.std.specs.Prelude.{◌≡◌, ◌≢◌, ℕ, List, ◌∷◌, ◌++◌, All}

-- a text with its first space, and what stands before and behind it
pub record IsSpaced (text front back : List ℕ) : Type 0 where
  pub is : text ≡ front ++ 32 ∷ back
  pub none : All (λ byte. byte ≢ 32) front
