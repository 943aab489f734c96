use Rattle.std.specs.Prelude.{ℕ, ◌+◌, ◌-◌, ◌*◌, ◌/◌, nat_le, if◌then◌else◌, List, map}
use Rattle.std.specs.List.{concat, range_with_len}
use Rattle.gl_demo.specs.declared.leg.Leg.{Leg}
use Rattle.gl_demo.specs.declared.place.Place.{Place}
use Rattle.gl_demo.specs.Draws.{after, drawn}
use Rattle.gl_demo.specs.Line.{b_line}

-- Where one is after so many parts of the way from one number to another, out of all its parts. The
-- quotient is that of the way's length, whichever way it goes, so it is rounded towards zero.
unfoldable pub on_the_way : ℕ → ℕ → ℕ → ℕ → ℕ
on_the_way from to parts all =
    if nat_le from to then from + (to - from) * parts / all
    else from - (from - to) * parts / all

-- where a fix of a leg is, which is drawn from a value: on the way, and off it by less than 200 to
-- the north and then to the east
unfoldable pub fix_place : Leg → ℕ → ℕ → Place
fix_place leg fix x = record {
  latitude = on_the_way leg.from.latitude leg.to.latitude fix leg.fixes + drawn x 0 200;
  longitude = on_the_way leg.from.longitude leg.to.longitude fix leg.fixes + drawn x 1 200;
}

-- the line of a fix of a leg that is drawn from a value: each fix before it took two draws
unfoldable pub fix_line : Leg → ℕ → ℕ → List ℕ
fix_line leg x fix = b_line (leg.begins + fix) (fix_place leg fix (after (2 * fix) x))

-- the lines of the fixes of a leg that is drawn from a value
unfoldable pub leg_text : Leg → ℕ → List ℕ
leg_text leg x = concat (map (fix_line leg x) (range_with_len 0 leg.fixes))
