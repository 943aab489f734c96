use Rattle.std.specs.Prelude.{ℕ}

-- the greatest radius, half width and distance, in centimetres
abbrev pub greatest_length : ℕ
greatest_length = 50_000_000

-- the least radius of a cylinder and the least outer distance of a sector, in centimetres
abbrev pub least_length : ℕ
least_length = 100

-- the most parts of a zone
abbrev pub most_parts : ℕ
most_parts = 4

-- a whole turn in thousandths of a degree
abbrev pub whole_turn : ℕ
whole_turn = 360_000
