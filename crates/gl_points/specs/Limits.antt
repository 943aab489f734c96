-- The limits of a performance and of a day.
use Rattle.std.specs.Prelude.{ℕ}

-- the greatest distance that is marked, in metres
abbrev pub distance_limit : ℕ
distance_limit = 2_000_000

-- the longest time that is marked, in seconds
abbrev pub time_limit : ℕ
time_limit = 100_000

-- the greatest handicap, in thousandths
abbrev pub handicap_limit : ℕ
handicap_limit = 2_000

-- the most performances of a day
abbrev pub performance_limit : ℕ
performance_limit = 256

-- the most points of a day
abbrev pub point_limit : ℕ
point_limit = 1_000
