-- The greatest and the least numbers of a kind.
use Rattle.std.specs.Prelude.{ℕ, ◌≤◌}

-- a number is of a kind, and every other of that kind is at most it
pub record IsGreatest (kind : ℕ → Type 0) (n : ℕ) : Type 0 where
  pub is : kind n
  pub greatest : (i : ℕ) → kind i → i ≤ n

-- a number is of a kind, and every other of that kind is at least it
pub record IsLeast (kind : ℕ → Type 0) (n : ℕ) : Type 0 where
  pub is : kind n
  pub least : (i : ℕ) → kind i → n ≤ i
