use Rattle.std.specs.Prelude.{ℕ, ℤ, pos, neg_ℤ, ◌≤ℤ◌}

-- z lies from -m to m
abbrev pub IsWithin : ℕ → ℤ → Type 0
IsWithin m z = (neg_ℤ (pos m) ≤ℤ z) × (z ≤ℤ pos m)
