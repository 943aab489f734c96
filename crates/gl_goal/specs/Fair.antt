-- The rule of legs: of which lengths the three legs of a triangle may be; and what it says where of
-- each leg no more is known than the least and the most that it can be. There are two rules, one of
-- 28 percent for every triangle, and one of 25 to 45 percent for large triangles alone.
use Rattle.std.specs.Prelude.{ℕ, ◌*◌, ◌/◌, min, Bool, ◌&&◌, ◌||◌, if◌then◌else◌, nat_eq, nat_le, nat_lt, List, map, fold}
use Rattle.std.specs.List.{list_all, list_any, sum}

-- from this length on a triangle is large: 750 kilometres, in centimetres
abbrev pub large : ℕ
large = 75_000_000

-- No leg is shorter than a share of a length. A share is counted in hundredths of a centimetre, so
-- that 28 percent of a length are 28 times its centimetres.
abbrev pub none_below : ℕ → List ℕ → Bool
none_below share legs = list_all (λ leg. nat_le share (100 * leg)) legs

-- no leg is longer than a share
abbrev pub none_above : ℕ → List ℕ → Bool
none_above share legs = list_all (λ leg. nat_le (100 * leg) share) legs

-- some leg is shorter than a share
abbrev pub some_below : ℕ → List ℕ → Bool
some_below share legs = list_any (λ leg. nat_lt (100 * leg) share) legs

-- some leg is longer than a share
abbrev pub some_above : ℕ → List ℕ → Bool
some_above share legs = list_any (λ leg. nat_lt share (100 * leg)) legs

-- the rule of 28 percent: no leg is shorter than 28 percent of all of them together
abbrev pub by_28_percent : List ℕ → Bool
by_28_percent legs = none_below (28 * sum legs) legs

-- the rule of large triangles: together the legs are 750 kilometres or longer, and no leg is
-- shorter
-- than 25 percent of them or longer than 45 percent
abbrev pub by_25_to_45_percent : List ℕ → Bool
by_25_to_45_percent legs =
    nat_le large (sum legs) && (none_below (25 * sum legs) legs && none_above (45 * sum legs) legs)

-- legs are fair where together they have a length, and one of the two rules allows them
unfoldable pub is_fair : List ℕ → Bool
is_fair legs = nat_lt 0 (sum legs) && (by_28_percent legs || by_25_to_45_percent legs)

-- the rule of 28 percent is ruled out between the least and the greatest legs: one of the greatest
-- is shorter than 28 percent of the least ones together
abbrev pub never_28_percent : List ℕ → List ℕ → Bool
never_28_percent least greatest = some_below (28 * sum least) greatest

-- the rule of large triangles is ruled out: the greatest legs together are shorter than
-- 750 kilometres, or one of them is shorter than 25 percent of the least ones together, or one of
-- the
-- least is longer than 45 percent of the greatest ones together
abbrev pub never_25_to_45_percent : List ℕ → List ℕ → Bool
never_25_to_45_percent least greatest =
    nat_lt (sum greatest) large
    || (some_below (25 * sum least) greatest || some_above (45 * sum greatest) least)

-- no legs between the least and the greatest ones are fair: the greatest have no length, or both
-- rules are ruled out
unfoldable pub is_none_fair : List ℕ → List ℕ → Bool
is_none_fair least greatest =
    nat_eq (sum greatest) 0
    || (never_28_percent least greatest && never_25_to_45_percent least greatest)

-- the most that legs can be together of which none is shorter than so many percent: no more than
-- the
-- greatest, and no more than that each of these is so many percent of it
abbrev pub most_from : ℕ → List ℕ → ℕ
most_from percent greatest =
    fold min (sum greatest) (map (λ leg. 100 * leg / percent) greatest)

-- The most that fair legs can be together: by the rule of 28 percent where no legs from 25 percent
-- on
-- make a large triangle, else by 25 percent.
unfoldable pub most_of_fair : List ℕ → ℕ
most_of_fair greatest =
    if nat_lt (most_from 25 greatest) large then most_from 28 greatest else most_from 25 greatest
