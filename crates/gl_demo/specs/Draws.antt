use Rattle.std.specs.Prelude.{ℕ, zero, suc, ◌+◌, ◌*◌, ◌/◌, ◌%◌, ◌^◌}

-- the value that a draw goes on to
abbrev pub next : ℕ → ℕ
next x = (x * 1_103_515_245 + 12_345) % 2 ^ 31

-- the value after so many draws
unfoldable pub after : ℕ → ℕ → ℕ
after zero x = x
after (suc draws) x = next (after draws x)

-- what is drawn from a value, below a bound, after so many draws before it
unfoldable pub drawn : ℕ → ℕ → ℕ → ℕ
drawn x before bound = after (before + 1) x / 65_536 % bound
