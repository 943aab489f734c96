-- What a text says as a recording, a recording says, and each refusal has a number.
use Rattle.std.proofs.Common.{◌≡◌, ◌∙◌, sym, ap, subst, refl, ℕ, suc, ◌≤◌, Bool, true, false, cond, List, [], ◌∷◌, length, length-take, map, take, Option, None, Some, Result, Ok, Err, arith, ℤ, pos, ◌+ℤ◌}
use Rattle.std.specs.Prelude.{IsTrue, ◌==◌, filter, nat_le, slice_get}
use Rattle.std.proofs.lemmas.Bool.Decides.{nat_tests}
use Rattle.std.proofs.lemmas.List.{length-map}
use Rattle.gl_text.specs.Digits.{◌>>=◌, columns}
use Rattle.gl_text.specs.Lines.{lines_of}
use Rattle.gl_sphere.specs.declared.place.Grid.{Grid}
use Rattle.gl_sphere.specs.PlaceText.{place_of, place_of_text}
use Rattle.gl_igc.proofs.DeclarationLemmas.{declared-damaged, declared-counted}
use Rattle.gl_igc.proofs.SecondsLemmas.{rising-shift}
use Rattle.gl_igc.proofs.TrackLemmas.{none_past}
use Rattle.gl_igc.specs.Dates.{date_of_line}
use Rattle.gl_igc.specs.Declaration.{declared_by, declared_count, declared_places, is_declaration_line, places_of}
use Rattle.gl_igc.specs.declared.error.IgcError.{IgcError}
use Rattle.gl_igc.specs.declared.error.IgcError.TheVariants.{NoFix, WrongDay}
use Rattle.gl_igc.specs.declared.fix.Fix.{Fix}
use Rattle.gl_igc.specs.declared.recording.Declared.{Declared}
use Rattle.gl_igc.specs.declared.recording.Recording.{Recording}
use Rattle.gl_igc.specs.FirstOf.{first_of}
use Rattle.gl_igc.specs.Reading.{Reading, capped, is_wrong_day, most_fixes, opening_of_line, reading_at, reading_of_day, reading_of_fixes, reading_of_opening, recording_of, recording_of_lines, shift_of, sighting_at, skipped_lines}
use Rattle.gl_igc.specs.Recording.{declared_of, reading_of, sighting_of}
use Rattle.gl_igc.specs.Refusals.{refusal_number}
use Rattle.gl_igc.specs.Seconds.{is_rising}
use Rattle.gl_igc.specs.UsedFixes.{UsedFix, event_seconds, used_fixes}
use Rattle.gl_igc.proofs.Ranges.{count_within, grid_of_text}
use Rattle.gl_igc.proofs.Used.{Lines, fixes_for, own_of, seconds_are, used_placed, used_rising}

-- the places that lines say
grids_for : (lines : Lines) (places : List (ℤ × ℤ)) → places_of lines ≡ Some places → (points : List Grid) × (map place_of points ≡ places) × (length points ≡ length lines)
grids_for [] places is = let same : [] ≡ places = cc in ([], same, refl)
grids_for (line ∷ lines) places is =
    first (grids_for lines) (place_of_text (columns 2 18 line)) refl (places_of lines) refl is
  where
    first : ((others : List (ℤ × ℤ)) → places_of lines ≡ Some others → (points : List Grid) × (map place_of points ≡ others) × (length points ≡ length lines)) → (at : Option (ℤ × ℤ))
        → place_of_text (columns 2 18 line) ≡ at → (rest : Option (List (ℤ × ℤ))) → places_of lines ≡ rest → (at >>= λ place. rest >>= λ places. Some (place ∷ places)) ≡ Some places
        → (points : List Grid) × (map place_of points ≡ places) × (length points ≡ suc (length lines))
    first more None at_is rest rest_is is = absurd (cc)
    first more (Some at) at_is None rest_is is = absurd (cc)
    first more (Some at) at_is (Some others) rest_is is =
        let same : at ∷ others ≡ places = cc in
        let one = grid_of_text (columns 2 18 line) at at_is in
        let rest = more others rest_is in
        (one.0 ∷ rest.0, (λ i. one.1 i ∷ rest.1 i) ∙ same, ap suc rest.2)

abbrev HasDeclared : Option (List (ℤ × ℤ)) → Type 0
HasDeclared places = (declared : Option Declared) × (declared_of declared ≡ places)

declared_whole : (count : ℕ) (rest : Lines) (places : Option (List (ℤ × ℤ))) → (4 ≤ count) × (count ≤ 103) → count ≤ length rest → places_of (take count rest) ≡ places → HasDeclared places
declared_whole count rest None range enough is = (None, refl)
declared_whole count rest (Some places) range enough is =
    let points = grids_for (take count rest) places is in
    let few = range.0 in
    let many = range.1 in
    let long : length points.0 ≡ count = omega (arith, points.2, length-take count rest) in
    (Some (record { points = points.0; at_least_four = omega (arith, long, few); at_most_103 = omega (arith, long, many) }), ap (λ (l : List (ℤ × ℤ)). Some l) points.1)

declared_if : (count : ℕ) (rest : Lines) (enough : Bool) → (4 ≤ count) × (count ≤ 103) → nat_le count (length rest) ≡ enough → HasDeclared (cond enough (places_of (take count rest)) None)
declared_if count rest false range test = (None, refl)
declared_if count rest true range test =
    let below : count ≤ length rest = grind (arith, nat_tests) in
    declared_whole count rest (places_of (take count rest)) range below refl

declared_none : HasDeclared (declared_by [])
unfolding declared_by
declared_none = (None, refl)

declared_from : (lines : Lines) → HasDeclared (declared_by lines)
declared_from [] = declared_none
declared_from (heading ∷ rest) = counted (declared_count heading) refl
  where
    counted : (count : Option ℕ) → declared_count heading ≡ count → HasDeclared (declared_by (heading ∷ rest))
    counted None damaged = (None, sym (declared-damaged heading rest damaged))
    counted (Some count) is =
        subst HasDeclared (sym (declared-counted heading rest count is))
        (declared_if count rest (nat_le count (length rest)) (count_within heading count is) refl)

declared_for : (lines : Lines) → HasDeclared (declared_places lines)
unfolding declared_places
declared_for lines = declared_from (filter is_declaration_line lines)

-- a recording that says this
abbrev pub HasRecording : Reading → Type 0
HasRecording reading = (recording : Recording) × (reading_of recording ≡ reading)

recording_from : (lines : Lines) (date shift : ℤ) (fixes : List Fix) (declared : Option Declared) → map sighting_of fixes ≡ map (sighting_at shift) (used_fixes lines)
    → declared_of declared ≡ declared_places lines → 1 ≤ length (used_fixes lines) → length (used_fixes lines) ≤ most_fixes → HasRecording (reading_at date shift lines)
unfolding reading_at
recording_from lines date shift fixes declared same places some few =
    let long : length fixes ≡ length (used_fixes lines) = sym (length-map fixes sighting_of) ∙ ap length same ∙ length-map (used_fixes lines) (sighting_at shift) in (
      record {
        date = date;
        fixes = fixes;
        events = map (λ own. pos own +ℤ shift) (event_seconds lines);
        declared = declared;
        skipped = capped (skipped_lines lines);
        some_fix = omega (arith, long, some);
        at_most_90000 = omega (arith, long, few);
        rising = subst (λ (seconds : List ℤ). IsTrue (is_rising seconds)) (sym (seconds_are shift (used_fixes lines) fixes same))
            (rising-shift (map own_of (used_fixes lines)) shift (used_rising lines));
      },
      λ i. record {
        date = date;
        fixes = same i;
        events = map (λ own. pos own +ℤ shift) (event_seconds lines);
        declared = places i;
        skipped = capped (skipped_lines lines);
      },
    )

-- the reading of lines with a used fix, and with no more than the most, is that of a recording
pub some_recording : (lines : List (List ℕ)) (date shift : ℤ) → 1 ≤ length (used_fixes lines) → length (used_fixes lines) ≤ most_fixes → HasRecording (reading_at date shift lines)
some_recording lines date shift some few =
    let fixes = fixes_for shift (used_fixes lines) (used_placed lines) in
    let declared = declared_for lines in
    recording_from lines date shift fixes.0 declared.0 fixes.1 declared.1 some few

-- what a text says is what a recording says, or a refusal that has a number
abbrev pub IsAnswered : Result Reading IgcError → Type 0
IsAnswered (Ok reading) = HasRecording reading
IsAnswered (Err error) = (number : ℕ) × (refusal_number error ≡ Some number)

answered_if : (none : Bool) (date shift : ℤ) (lines : Lines) → (length (used_fixes lines) == 0) ≡ none → length (used_fixes lines) ≤ most_fixes
    → IsAnswered (cond none (Err NoFix) (Ok (reading_at date shift lines)))
answered_if true date shift lines test few = (5, refl)
answered_if false date shift lines test few =
    let some : 1 ≤ length (used_fixes lines) = grind (arith, nat_tests) in
    some_recording lines date shift some few

answered_fixes : (there : Option UsedFix) (date shift : ℤ) (lines : Lines) → slice_get (used_fixes lines) most_fixes ≡ there → IsAnswered (reading_of_fixes there date shift lines)
unfolding reading_of_fixes
answered_fixes (Some fix) date shift lines is = (4, refl)
answered_fixes None date shift lines is =
    answered_if (length (used_fixes lines) == 0) date shift lines refl (none_past (used_fixes lines) most_fixes is)

answered_right : (wrong : Bool) (date : ℤ) (answer : Result Reading IgcError) → IsAnswered answer → IsAnswered (cond wrong (Err (WrongDay date)) answer)
answered_right true date answer right = (3, refl)
answered_right false date answer right = right

answered_day : (date task_day : Option ℤ) (lines : Lines) → IsAnswered (reading_of_day date task_day lines)
unfolding reading_of_day
answered_day None task_day lines = (2, refl)
answered_day (Some date) task_day lines =
    answered_right (is_wrong_day date task_day) date (reading_of_fixes (slice_get (used_fixes lines) most_fixes) date (shift_of date task_day) lines)
    (answered_fixes (slice_get (used_fixes lines) most_fixes) date (shift_of date task_day) lines refl)

answered_opening : (opening : Option Bool) (task_day : Option ℤ) (lines : Lines) → IsAnswered (reading_of_opening opening task_day lines)
unfolding reading_of_opening
answered_opening None task_day lines = (1, refl)
answered_opening (Some false) task_day lines = (1, refl)
answered_opening (Some true) task_day lines = answered_day (first_of date_of_line lines) task_day lines

-- what a text says is what a recording says, or it is refused by a number
pub answered : (text : List ℕ) (task_day : Option ℤ) → IsAnswered (recording_of text task_day)
unfolding recording_of recording_of_lines
answered text task_day = answered_opening (first_of opening_of_line (lines_of text)) task_day (lines_of text)
