-- The limits of a task, as its types keep them. Lengths are in centimetres.
use Rattle.std.specs.Prelude.{ℕ}

-- the first and the last day of a task, 2000-01-01 and 2099-12-31, as the number of days from
-- 1970-01-01
abbrev pub first_day : ℕ
first_day = 10_957

abbrev pub last_day : ℕ
last_day = 47_481

-- the last second that a task can name
abbrev pub last_second : ℕ
last_second = 100_000

-- the longest wait between the announcement of a start and its window, and the widest window, in
-- seconds
abbrev pub longest_wait : ℕ
longest_wait = 3_600

abbrev pub widest_window : ℕ
widest_window = 3_600

-- the greatest altitude and the greatest loss of altitude, in metres
abbrev pub greatest_altitude : ℕ
greatest_altitude = 32_767

-- the greatest level of engine noise
abbrev pub greatest_noise : ℕ
greatest_noise = 999

-- the most points that a penalty takes
abbrev pub most_points : ℕ
most_points = 1_000

-- the greatest handicap
abbrev pub greatest_handicap : ℕ
greatest_handicap = 2_000

-- the most zones
abbrev pub most_zones : ℕ
most_zones = 8

-- the most entrants
abbrev pub most_entrants : ℕ
most_entrants = 200
