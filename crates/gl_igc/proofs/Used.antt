-- The used fixes of a text are fixes whose seconds rise.
use Rattle.std.proofs.Common.{◌≡◌, ◌∙◌, sym, ap, subst, refl, ℕ, ◌+◌, ◌-◌, ◌<◌, Bool, true, false, List, [], ◌∷◌, ◌++◌, length, map, reverse, Option, None, Some, arith, ℤ, pos, ◌+ℤ◌}
use Rattle.std.specs.Prelude.{All, IsTrue, ◌&&◌, nat_lt, option_map}
use Rattle.std.proofs.lemmas.Bool.Decides.{nat_tests}
use Rattle.std.proofs.lemmas.Int.{ints}
use Rattle.std.proofs.lemmas.List.{get_or-reverse, map-append}
use Rattle.std.proofs.lemmas.List.Elements.{All-cons, All-nil, All-tail}
use Rattle.std.proofs.lemmas.Simd.{map-map}
use Rattle.std.proofs.Math.ListN.{length-reverse}
use Rattle.gl_sphere.specs.declared.place.Grid.{Grid}
use Rattle.gl_sphere.specs.Place.{written_vector}
use Rattle.gl_igc.proofs.SecondsLemmas.{last_second-push, rising-push}
use Rattle.gl_igc.proofs.TrackLemmas.{next_fix, reverse-cons, with_line-left, with_line-none, with_line-used}
use Rattle.gl_igc.specs.declared.fix.Fix.{Fix}
use Rattle.gl_igc.specs.FixLine.{Observation, observation_of}
use Rattle.gl_igc.specs.Reading.{Sighting, sighting_at}
use Rattle.gl_igc.specs.Recording.{sighting_of}
use Rattle.gl_igc.specs.Seconds.{is_rising}
use Rattle.gl_igc.specs.Code.Seconds.{last_second}
use Rattle.gl_igc.specs.UsedFixes.{UsedFix, extension_below, last_own, may_follow, own_second, used_fixes, used_upwards, with_line}
use Rattle.gl_igc.proofs.Ranges.{IsPlaced, seen_placed}

abbrev pub Lines : Type 0
Lines = List (List ℕ)

-- what is seen of used fixes lies within the ranges of a fix
abbrev pub ArePlaced : List UsedFix → Type 0
ArePlaced used = All (λ fix. IsPlaced fix.seen) used

-- how a line goes on
line_cases : (P : List UsedFix → Type 0) (line : ℕ) (seen : Observation) (used : List UsedFix) → P used
    → (may_follow (last_own used) (own_second (last_own used) seen.time) ≡ true → P (next_fix line seen used ∷ used)) → P (with_line line (Some seen) used)
line_cases P line seen used same more = tested (may_follow (last_own used) (own_second (last_own used) seen.time)) refl
  where
    tested : (b : Bool) → may_follow (last_own used) (own_second (last_own used) seen.time) ≡ b → P (with_line line (Some seen) used)
    tested true follows = subst P (sym (with_line-used line seen used follows)) (more follows)
    tested false left = subst P (sym (with_line-left line seen used left)) same

placed_line : (line : ℕ) (seen : Option Observation) (used : List UsedFix) → ((one : Observation) → seen ≡ Some one → IsPlaced one) → ArePlaced used → ArePlaced (with_line line seen used)
placed_line line None used placed all = subst ArePlaced (sym (with_line-none line used)) all
placed_line line (Some seen) used placed all =
    line_cases ArePlaced line seen used all (λ follows. All-cons (λ (fix : UsedFix). IsPlaced fix.seen) (next_fix line seen used) used (placed seen refl) all)

placed_upwards : (lines : Lines) → ArePlaced (used_upwards lines)
unfolding used_upwards
placed_upwards [] = All-nil (λ (fix : UsedFix). IsPlaced fix.seen)
placed_upwards (line ∷ above) =
    placed_line (length above + 1) (observation_of (extension_below (reverse above)) line) (used_upwards above)
    (seen_placed (extension_below (reverse above)) line) (placed_upwards above)

all_reverse : {X : Type 0} (P : X → Type 0) (xs : List X) → All P xs → All P (reverse xs)
all_reverse P xs all = λ k d below.
    let inside : k < length xs = omega (arith, below, length-reverse xs) in
    subst P (sym (get_or-reverse xs k d inside)) (all (length xs - 1 - k) d (omega arith))

-- the own second of a used fix
abbrev pub own_of : UsedFix → ℤ
own_of fix = pos fix.own

-- The own seconds of used fixes, the latest first, rise.
record AreInOrder (used : List UsedFix) : Type 0 where
  rising : IsTrue (is_rising (map own_of (reverse used)))
  last : last_second (map own_of (reverse used)) ≡ option_map pos (last_own used)

below_pos : (a b : ℕ) → nat_lt a b ≡ true → a < b
below_pos a b test = grind (arith, nat_tests)

and_first : (a b : Bool) → (a && b) ≡ true → a ≡ true
and_first true b holds = refl
and_first false b holds = holds

later : (last own : ℕ) → may_follow (Some last) own ≡ true → last < own
unfolding may_follow
later last own follows = below_pos last own (and_first (nat_lt last own) _ follows)

push_rising : (seconds : List ℤ) (last : Option ℕ) (own : ℕ) → IsTrue (is_rising seconds) → last_second seconds ≡ option_map pos last → may_follow last own ≡ true
    → IsTrue (is_rising (seconds ++ pos own ∷ []))
push_rising seconds None own rising is follows = rising-push seconds (pos own) rising (rw is tt)
push_rising seconds (Some last) own rising is follows =
    let above = later last own follows in
    rising-push seconds (pos own) rising (rw is (omega (arith, ints)))

order_more : (fix : UsedFix) (used : List UsedFix) → may_follow (last_own used) fix.own ≡ true → AreInOrder used → AreInOrder (fix ∷ used)
order_more fix used follows order =
    let same : map own_of (reverse (fix ∷ used)) ≡ map own_of (reverse used) ++ pos fix.own ∷ [] = ap (map own_of) (reverse-cons fix used) ∙ map-append own_of (reverse used) (fix ∷ []) in
    record {
      rising = subst (λ (seconds : List ℤ). IsTrue (is_rising seconds)) (sym same) (push_rising (map own_of (reverse used)) (last_own used) fix.own order.rising order.last follows);
      last = ap last_second same ∙ last_second-push (map own_of (reverse used)) (pos fix.own);
    }

order_none : AreInOrder []
unfolding is_rising last_second
order_none = record { rising = refl; last = refl }

order_line : (line : ℕ) (seen : Option Observation) (used : List UsedFix) → AreInOrder used → AreInOrder (with_line line seen used)
order_line line None used order = subst AreInOrder (sym (with_line-none line used)) order
order_line line (Some seen) used order =
    line_cases AreInOrder line seen used order (λ follows. order_more (next_fix line seen used) used follows order)

order_upwards : (lines : Lines) → AreInOrder (used_upwards lines)
unfolding used_upwards
order_upwards [] = order_none
order_upwards (line ∷ above) =
    order_line (length above + 1) (observation_of (extension_below (reverse above)) line) (used_upwards above) (order_upwards above)

-- what is seen of the used fixes of a text lies within the ranges of a fix
pub used_placed : (lines : Lines) → ArePlaced (used_fixes lines)
unfolding used_fixes
used_placed lines =
    all_reverse (λ (fix : UsedFix). IsPlaced fix.seen) (used_upwards (reverse lines)) (placed_upwards (reverse lines))

-- the own seconds of the used fixes of a text rise
pub used_rising : (lines : Lines) → IsTrue (is_rising (map own_of (used_fixes lines)))
unfolding used_fixes
used_rising lines = (order_upwards (reverse lines)).rising

-- a used fix is a fix
fix_for : (shift : ℤ) (used : UsedFix) → IsPlaced used.seen → (fix : Fix) × (sighting_of fix ≡ sighting_at shift used)
fix_for shift used placed =
    let grid : Grid = record { lat = used.seen.lat; lon = used.seen.lon; lat_in_range = placed.lat; lon_in_range = placed.lon } in (
      record {
        second = pos used.own +ℤ shift;
        grid = grid;
        at = written_vector grid;
        alt = used.seen.alt;
        enl = used.seen.enl;
        placed = refl;
        above = placed.above;
        below = placed.below;
      },
      refl,
    )

-- used fixes are fixes
pub fixes_for : (shift : ℤ) (used : List UsedFix) → ArePlaced used → (fixes : List Fix) × (map sighting_of fixes ≡ map (sighting_at shift) used)
fixes_for shift [] placed = ([], refl)
fixes_for shift (fix ∷ used) placed =
    let first = fix_for shift fix (placed 0 fix (omega arith)) in
    let rest = fixes_for shift used (All-tail (λ (one : UsedFix). IsPlaced one.seen) fix used placed) in
    (first.0 ∷ rest.0, λ i. first.1 i ∷ rest.1 i)

-- the seconds of such fixes
pub seconds_are : (shift : ℤ) (used : List UsedFix) (fixes : List Fix) → map sighting_of fixes ≡ map (sighting_at shift) used
    → map (λ fix. fix.second) fixes ≡ map (λ second. second +ℤ shift) (map own_of used)
seconds_are shift used fixes same =
    sym (map-map (λ (s : Sighting). s.second) sighting_of fixes) ∙ ap (map (λ (s : Sighting). s.second)) same
    ∙ map-map (λ (s : Sighting). s.second) (sighting_at shift) used ∙ sym (map-map (λ (second : ℤ). second +ℤ shift) own_of used)
