use Rattle.std.specs.Prelude.{ℕ, zero, suc, ◌+◌, ◌-◌, ◌*◌, List, [], ◌∷◌, ◌++◌, codes}
use Rattle.std.specs.Fmt.{decimal}
use Rattle.gl_demo.specs.declared.leg.Leg.{Leg}
use Rattle.gl_demo.specs.declared.place.Place.{Place}
use Rattle.gl_demo.specs.Draws.{after}
use Rattle.gl_demo.specs.Place.{moved_place}
use Rattle.gl_demo.specs.Leg.{leg_text}

-- the name of an entrant's recording
unfoldable pub recording_name : ℕ → List ℕ
recording_name entrant = codes "D" ++ decimal entrant ++ codes ".IGC"

-- the lines before those of the fixes
unfoldable pub recording_head : List ℕ
recording_head =
    codes "AXXXGEN" ++ 10 ∷ codes "HFDTE010724" ++ 10 ∷ codes "I033638ENL3940LAD4142LOD" ++ 10 ∷ []

-- how many fixes each leg of an entrant has
abbrev pub fixes_of : ℕ → ℕ
fixes_of entrant = 6_000 - 200 * entrant

-- the second of the day of an entrant's first fix
abbrev pub begin_of : ℕ → ℕ
begin_of entrant = 36_000 + 60 * entrant

-- where each flight begins
abbrev pub begin_place : Place
begin_place = record { latitude = 287_800_000; longitude = 66_000_000 }

-- what the first turn of each flight is about
abbrev pub about_first : Place
about_first = record { latitude = 292_000_000; longitude = 69_000_000 }

-- what its second turn is about
abbrev pub about_second : Place
about_second = record { latitude = 290_000_000; longitude = 74_000_000 }

-- where each flight ends
abbrev pub end_place : Place
end_place = record { latitude = 288_000_000; longitude = 66_000_000 }

-- the first turn of an entrant that is drawn from a value
abbrev pub first_turn : ℕ → Place
first_turn x = moved_place about_first x

-- its second turn, behind the two draws of the first
abbrev pub second_turn : ℕ → Place
second_turn x = moved_place about_second (after 2 x)

-- a leg of an entrant, which so many legs of the entrant go before
abbrev pub leg_of : ℕ → ℕ → Place → Place → Leg
leg_of entrant before from to = record {
  from = from;
  to = to;
  fixes = fixes_of entrant;
  begins = begin_of entrant + before * fixes_of entrant;
}

-- the draws of an entrant that go before those of a leg: four, and two for each fix of the legs
-- before it
abbrev pub draws_before_leg : ℕ → ℕ → ℕ
draws_before_leg entrant before = 4 + 2 * (before * fixes_of entrant)

-- the lines of a leg of an entrant that is drawn from a value
abbrev pub leg_part : ℕ → ℕ → ℕ → Place → Place → List ℕ
leg_part entrant x before from to =
    leg_text (leg_of entrant before from to) (after (draws_before_leg entrant before) x)

-- the recording of an entrant that is drawn from a value: the head, and three legs
unfoldable pub recording_text : ℕ → ℕ → List ℕ
recording_text entrant x =
    recording_head
    ++ leg_part entrant x 0 begin_place (first_turn x)
    ++ leg_part entrant x 1 (first_turn x) (second_turn x)
    ++ leg_part entrant x 2 (second_turn x) end_place

-- the draws of the entrants before one
unfoldable pub draws_before : ℕ → ℕ
draws_before zero = 0
draws_before (suc entrant) = draws_before entrant + draws_before_leg entrant 3
