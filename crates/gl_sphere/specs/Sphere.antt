use Rattle.std.specs.Prelude.{ℕ}

-- the radius of the sphere, in centimetres
abbrev pub radius : ℕ
radius = 637_100_000

-- what the sine and the cosine count as one
abbrev pub unit : ℕ
unit = 10_000_000_000_000_000

-- half a circle in radians, where `unit` is one
abbrev pub pi : ℕ
pi = 31_415_926_535_897_932

-- 90 degrees in 1/100,000 minute
abbrev pub quarter_turn : ℕ
quarter_turn = 540_000_000

-- 180 degrees in 1/100,000 minute
abbrev pub half_turn : ℕ
half_turn = 1_080_000_000
