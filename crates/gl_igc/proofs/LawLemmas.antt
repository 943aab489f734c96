-- The laws of recordings.
use Rattle.std.proofs.Common.{◌≡◌, ◌≢◌, ◌∙◌, sym, ap, subst, ℕ, zero, suc, ◌+◌, List, [], ◌∷◌, ◌++◌, length, map, Bool, true, false, cond, Option, None, Some, arith, refl, ℤ, append_assoc, ◌⊎◌, inl, inr}
use Rattle.std.specs.Prelude.{Result, Ok, Err, option_map, unwrap_or, slice_get, slice_index, reverse, filter, ◌==◌, IsSome, Contains}
use Rattle.std.specs.Option.{option_or, option_to_list}
use Rattle.std.specs.Str.{byte}
use Rattle.std.proofs.lemmas.Bool.{false≢true}
use Rattle.std.proofs.lemmas.Bool.Decides.{nat_tests}
use Rattle.std.proofs.lemmas.Simd.{map-map}
use Rattle.std.proofs.lemmas.List.{reverse-append, reverse-reverse, map-append, length-map}
use Rattle.std.proofs.lemmas.List.Elements.{filter-append, Contains-append_left, Contains-append_right}
use Rattle.std.proofs.lemmas.Option.{slice_get-map, slice_get_within, get_or_from_slice_get}
use Rattle.gl_igc.specs.Dates.{date_of_line}
use Rattle.gl_igc.specs.Declaration.{is_declaration_line, declared_places}
use Rattle.gl_igc.specs.Extension.{Extension, extension_of_line, no_extension}
use Rattle.gl_igc.specs.FirstOf.{first_of}
use Rattle.gl_igc.specs.FixLine.{Observation, is_fix_line, observation_of}
use Rattle.gl_igc.specs.Laws.{IsOfLine, AreOfLines, IsPassedOver, CanBeLeftOut, without_number}
use Rattle.gl_igc.specs.Reading.{Sighting, Reading, most_fixes, opening_of_line, is_wrong_day, shift_of, sighting_at, skipped_lines, reading_at, reading_of_fixes, reading_of_day, reading_of_opening, recording_of_lines}
use Rattle.gl_igc.specs.UsedFixes.{UsedFix, extension_below, used_upwards, used_fixes, with_line, last_own, own_second, may_follow, event_time, events_upwards, event_seconds}
use Rattle.gl_igc.specs.declared.error.IgcError.{IgcError}
use Rattle.gl_igc.specs.declared.error.IgcError.TheVariants.{WrongDay, NoFix}
use Rattle.gl_igc.proofs.TrackLemmas.{with_line-none, with_line-left, with_line-used, next_fix, observation_of-other, reverse-cons}

abbrev pub Lines : Type 0
Lines = List (List ℕ)

-- another letter
other_letter : (line : List ℕ) (letter : ℕ) → slice_index line 0 ≢ letter → (slice_index line 0 == letter) ≡ false
other_letter line letter apart = grind (arith, nat_tests)

no_extension_of : (line : List ℕ) → slice_index line 0 ≢ byte "I" → extension_of_line line ≡ None
unfolding extension_of_line
no_extension_of line apart = rw (other_letter line (byte "I") apart) refl

no_event_of : (line : List ℕ) → slice_index line 0 ≢ byte "E" → event_time line ≡ None
unfolding event_time
no_event_of line apart = rw (other_letter line (byte "E") apart) refl

-- what says nothing can be left out of a search for the first that says something
first_of-without : {A B : Type 0} (f : A → Option B) (xs ys : List A) (x : A) → f x ≡ None → first_of f (xs ++ x ∷ ys) ≡ first_of f (xs ++ ys)
first_of-without f [] ys x none = rw none refl
first_of-without f (z ∷ xs) ys x none = ap (option_or (f z)) (first_of-without f xs ys x none)

first_of-front : {A B : Type 0} (f : A → Option B) (xs ys zs : List A) → IsSome (first_of f xs) → first_of f (xs ++ ys) ≡ first_of f (xs ++ zs)
first_of-front f [] ys zs some = absurd (false≢true some)
first_of-front {B = B} f (x ∷ xs) ys zs some = at (f x) refl (λ other. first_of-front f xs ys zs other)
  where
    at : (o : Option B) → f x ≡ o → (IsSome (first_of f xs) → first_of f (xs ++ ys) ≡ first_of f (xs ++ zs)) → option_or o (first_of f (xs ++ ys)) ≡ option_or o (first_of f (xs ++ zs))
    at None is rest = rest (subst (λ (o : Option B). IsSome (option_or o (first_of f xs))) is some)
    at (Some b) is rest = refl

filter-without : {A : Type 0} (p : A → Bool) (xs ys : List A) (x : A) → p x ≡ false → filter p (xs ++ x ∷ ys) ≡ filter p (xs ++ ys)
filter-without {A = A} p xs ys x no_test =
    let rest : filter p (x ∷ ys) ≡ filter p ys = rw no_test refl in
    filter-append p xs (x ∷ ys) ∙ ap (λ (kept : List A). filter p xs ++ kept) rest ∙ sym (filter-append p xs ys)

-- a fix without the number of its line
abbrev pub unnumbered : UsedFix → UsedFix
unnumbered fix = record { line = 0; own = fix.own; seen = fix.seen }

last_own-unnumbered : (used : List UsedFix) → last_own (map unnumbered used) ≡ last_own used
last_own-unnumbered [] = refl
last_own-unnumbered (fix ∷ used) = refl

same_last : (used used' : List UsedFix) → map unnumbered used ≡ map unnumbered used' → last_own used ≡ last_own used'
same_last used used' same =
    sym (last_own-unnumbered used) ∙ ap last_own same ∙ last_own-unnumbered used'

with_line-unnumbered : (number : ℕ) (seen : Option Observation) (used : List UsedFix) → map unnumbered (with_line number seen used) ≡ with_line 0 seen (map unnumbered used)
unfolding with_line
with_line-unnumbered number None used = refl
with_line-unnumbered number (Some seen) used =
    rw (last_own-unnumbered used) (tested (may_follow (last_own used) (own_second (last_own used) seen.time)))
  where
    tested : (b : Bool) → map unnumbered (cond b (record { line = number; own = own_second (last_own used) seen.time; seen = seen } ∷ used) used)
        ≡ cond b (record { line = 0; own = own_second (last_own used) seen.time; seen = seen } ∷ map unnumbered used) (map unnumbered used)
    tested true = refl
    tested false = refl

-- a list backwards, with an item among the others
between : {A : Type 0} (above below : List A) (x : A) → reverse (above ++ x ∷ below) ≡ reverse below ++ x ∷ reverse above
between {A = A} above below x =
    reverse-append above (x ∷ below) ∙ ap (λ (back : List A). back ++ reverse above) (reverse-cons x below) ∙ append_assoc (reverse below) (x ∷ []) (reverse above)

extension_below-without : (below above : Lines) (line : List ℕ) → extension_of_line line ≡ None → extension_below (reverse (below ++ line ∷ above)) ≡ extension_below (reverse (below ++ above))
unfolding extension_below
extension_below-without below above line none =
    let first : first_of extension_of_line (reverse (below ++ line ∷ above)) ≡ first_of extension_of_line (reverse (below ++ above)) =
    ap (first_of extension_of_line) (between below above line) ∙ first_of-without extension_of_line (reverse above) (reverse below) line none
    ∙ ap (first_of extension_of_line) (sym (reverse-append below above)) in
    ap (λ (first : Option Extension). unwrap_or first no_extension) first

-- the used fixes upwards, without a line that is passed over
used-without : (below above : Lines) (line : List ℕ) → IsPassedOver line → map unnumbered (used_upwards (below ++ line ∷ above)) ≡ map unnumbered (used_upwards (below ++ above))
unfolding used_upwards
used-without [] above line over =
    let none = observation_of-other (extension_below (reverse above)) line (other_letter line (byte "B") over.no_fix) in
    ap (λ (seen : Option Observation). map unnumbered (with_line (length above + 1) seen (used_upwards above))) none ∙ ap (map unnumbered) (with_line-none (length above + 1) (used_upwards above))
used-without (x ∷ below) above line over =
    let rest : Lines = below ++ line ∷ above in
    let rest' : Lines = below ++ above in
    let fields = extension_below-without below above line (no_extension_of line over.no_fields) in
    with_line-unnumbered (length rest + 1) (observation_of (extension_below (reverse rest)) x) (used_upwards rest)
    ∙ ap (λ (used : List UsedFix). with_line 0 (observation_of (extension_below (reverse rest)) x) used) (used-without below above line over)
    ∙ ap (λ (fields : Extension). with_line 0 (observation_of fields x) (map unnumbered (used_upwards rest'))) fields
    ∙ sym (with_line-unnumbered (length rest' + 1) (observation_of (extension_below (reverse rest')) x) (used_upwards rest'))

events-without : (below above : Lines) (line : List ℕ) → IsPassedOver line → events_upwards (below ++ line ∷ above) ≡ events_upwards (below ++ above)
unfolding events_upwards
events-without [] above line over = rw (no_event_of line over.no_event) refl
events-without (x ∷ below) above line over =
    let last = same_last (used_upwards (below ++ line ∷ above)) (used_upwards (below ++ above)) (used-without below above line over) in
    ap (λ (last : Option ℕ). option_to_list (option_map (own_second last) (event_time x)) ++ events_upwards (below ++ line ∷ above)) last
    ∙ ap (λ (events : List ℕ). option_to_list (option_map (own_second (last_own (used_upwards (below ++ above)))) (event_time x)) ++ events) (events-without below above line over)

map-reverse : {A B : Type 0} (f : A → B) (xs : List A) → map f (reverse xs) ≡ reverse (map f xs)
map-reverse f [] = refl
map-reverse {B = B} f (x ∷ xs) =
    ap (map f) (reverse-cons x xs) ∙ map-append f (reverse xs) (x ∷ []) ∙ ap (λ (ys : List B). ys ++ f x ∷ []) (map-reverse f xs) ∙ sym (reverse-cons (f x) (map f xs))

used_fixes-without : (above below : Lines) (line : List ℕ) → IsPassedOver line → map unnumbered (used_fixes (above ++ line ∷ below)) ≡ map unnumbered (used_fixes (above ++ below))
unfolding used_fixes
used_fixes-without above below line over =
    map-reverse unnumbered (used_upwards (reverse (above ++ line ∷ below)))
    ∙ ap reverse (ap (λ (up : Lines). map unnumbered (used_upwards up)) (between above below line) ∙ used-without (reverse below) (reverse above) line over
    ∙ ap (λ (up : Lines). map unnumbered (used_upwards up)) (sym (reverse-append above below))) ∙ sym (map-reverse unnumbered (used_upwards (reverse (above ++ below))))

event_seconds-without : (above below : Lines) (line : List ℕ) → IsPassedOver line → event_seconds (above ++ line ∷ below) ≡ event_seconds (above ++ below)
unfolding event_seconds
event_seconds-without above below line over =
    ap (λ (up : Lines). reverse (events_upwards up)) (between above below line) ∙ ap reverse (events-without (reverse below) (reverse above) line over)
    ∙ ap (λ (up : Lines). reverse (events_upwards up)) (sym (reverse-append above below))

-- what a fix says doesn't tell the number of its line
sightings : (shift : ℤ) (used : List UsedFix) → map (sighting_at shift) used ≡ map (sighting_at shift) (map unnumbered used)
sightings shift used = sym (map-map (sighting_at shift) unnumbered used)

used-length-without : (above below : Lines) (line : List ℕ) → IsPassedOver line → length (used_fixes (above ++ line ∷ below)) ≡ length (used_fixes (above ++ below))
used-length-without above below line over =
    sym (length-map (used_fixes (above ++ line ∷ below)) unnumbered) ∙ ap length (used_fixes-without above below line over) ∙ length-map (used_fixes (above ++ below)) unnumbered

reading_at-without : (date shift : ℤ) (above below : Lines) (line : List ℕ) → IsPassedOver line → reading_at date shift (above ++ line ∷ below) ≡ reading_at date shift (above ++ below)
unfolding reading_at skipped_lines declared_places
reading_at-without date shift above below line over =
    let fixes : map (sighting_at shift) (used_fixes (above ++ line ∷ below)) ≡ map (sighting_at shift) (used_fixes (above ++ below)) =
    sightings shift (used_fixes (above ++ line ∷ below)) ∙ ap (map (sighting_at shift)) (used_fixes-without above below line over) ∙ sym (sightings shift (used_fixes (above ++ below))) in
    let declared = filter-without is_declaration_line above below line (other_letter line (byte "C") over.no_declaration) in
    let counted = filter-without is_fix_line above below line (other_letter line (byte "B") over.no_fix) in
    rw (fixes, event_seconds-without above below line over, declared, counted, used-length-without above below line over) refl

-- both lists have a fix at the place, or neither
excess-without : (date shift : ℤ) (lines lines' : Lines) (fix fix' : Option UsedFix) → option_map unnumbered fix ≡ option_map unnumbered fix' → length (used_fixes lines) ≡ length (used_fixes lines')
    → reading_at date shift lines ≡ reading_at date shift lines' → without_number (reading_of_fixes fix date shift lines) ≡ without_number (reading_of_fixes fix' date shift lines')
unfolding reading_of_fixes
excess-without date shift lines lines' None None same long reading = rw (long, reading) refl
excess-without date shift lines lines' None (Some fix) same long reading = absurd (cc)
excess-without date shift lines lines' (Some fix) None same long reading = absurd (cc)
excess-without date shift lines lines' (Some fix) (Some fix') same long reading = refl

fixes-without : (date shift : ℤ) (above below : Lines) (line : List ℕ) → IsPassedOver line
    → without_number (reading_of_fixes (slice_get (used_fixes (above ++ line ∷ below)) most_fixes) date shift (above ++ line ∷ below))
    ≡ without_number (reading_of_fixes (slice_get (used_fixes (above ++ below)) most_fixes) date shift (above ++ below))
fixes-without date shift above below line over =
    excess-without date shift (above ++ line ∷ below) (above ++ below) (slice_get (used_fixes (above ++ line ∷ below)) most_fixes) (slice_get (used_fixes (above ++ below)) most_fixes)
    (sym (slice_get-map unnumbered (used_fixes (above ++ line ∷ below)) most_fixes) ∙ ap (λ (used : List UsedFix). slice_get used most_fixes) (used_fixes-without above below line over)
    ∙ slice_get-map unnumbered (used_fixes (above ++ below)) most_fixes) (used-length-without above below line over) (reading_at-without date shift above below line over)

day-without : (date task_day : Option ℤ) (above below : Lines) (line : List ℕ) → IsPassedOver line
    → without_number (reading_of_day date task_day (above ++ line ∷ below)) ≡ without_number (reading_of_day date task_day (above ++ below))
unfolding reading_of_day
day-without None task_day above below line over = refl
day-without (Some date) task_day above below line over =
    tested (is_wrong_day date task_day) _ _ (fixes-without date (shift_of date task_day) above below line over)
  where
    tested : (b : Bool) (x y : Result Reading IgcError) → without_number x ≡ without_number y → without_number (cond b (Err (WrongDay date)) x) ≡ without_number (cond b (Err (WrongDay date)) y)
    tested true x y same = refl
    tested false x y same = same

opening-without : (opening : Option Bool) (task_day : Option ℤ) (above below : Lines) (line : List ℕ) → IsPassedOver line
    → without_number (reading_of_opening opening task_day (above ++ line ∷ below)) ≡ without_number (reading_of_opening opening task_day (above ++ below))
unfolding reading_of_opening
opening-without None task_day above below line over = refl
opening-without (Some false) task_day above below line over = refl
opening-without (Some true) task_day above below line over =
    ap (λ (date : Option ℤ). without_number (reading_of_day date task_day (above ++ line ∷ below))) (first_of-without date_of_line above below line over.no_date)
    ∙ day-without (first_of date_of_line (above ++ below)) task_day above below line over

-- a line that is passed over can be left out
pub left_out : (lines : Lines) (task_day : Option ℤ) → CanBeLeftOut lines task_day
unfolding recording_of_lines
left_out lines task_day = λ above below line is opened over.
    let opening = first_of-front opening_of_line above below (line ∷ below) opened in
    ap (λ (opening : Option Bool). without_number (reading_of_opening opening task_day (above ++ below))) opening
    ∙ sym (opening-without (first_of opening_of_line (above ++ line ∷ below)) task_day above below line over)
    ∙ ap (λ (lines : Lines). without_number (reading_of_opening (first_of opening_of_line lines) task_day lines)) (sym is)

-- a used fix is what one of the lines says
record IsSeenIn (lines : Lines) (fix : UsedFix) : Type 0 where
  line : List ℕ
  of_text : Contains lines line
  extension : Extension
  says : observation_of extension line ≡ Some fix.seen

contains-more : {A : Type 0} (xs : List A) (x y : A) → Contains xs x → Contains (y ∷ xs) x
contains-more xs x y (k, below, is) = (suc k, omega arith, is)

contains-cases : {A : Type 0} (xs : List A) (x y : A) → Contains (y ∷ xs) x → (y ≡ x) ⊎ Contains xs x
contains-cases xs x y (zero, below, is) = inl is
contains-cases xs x y (suc k, below, is) = inr (k, omega arith, is)

contains-reverse : {A : Type 0} (xs : List A) (x : A) → Contains xs x → Contains (reverse xs) x
contains-reverse [] x (k, below, is) = absurd (omega arith)
contains-reverse {A = A} (y ∷ xs) x there =
    subst (λ (back : List A). Contains back x) (sym (reverse-cons y xs)) (elim (contains-cases xs x y there) [
      | inl same ↦ Contains-append_right (reverse xs) (y ∷ []) x (0, omega arith, same)
      | inr rest ↦ Contains-append_left (reverse xs) (y ∷ []) x (contains-reverse xs x rest)
    ])

seen-more : (line : List ℕ) (above : Lines) (fix : UsedFix) → IsSeenIn above fix → IsSeenIn (line ∷ above) fix
seen-more line above fix seen =
    record { line = seen.line; of_text = contains-more above seen.line line seen.of_text; extension = seen.extension; says = seen.says }

-- a line more
seen-line : (line : List ℕ) (above : Lines) (extension : Extension) (number : ℕ) (used : List UsedFix) → ((fix : UsedFix) → Contains used fix → IsSeenIn above fix) → (seen : Option Observation)
    → observation_of extension line ≡ seen → (fix : UsedFix) → Contains (with_line number seen used) fix → IsSeenIn (line ∷ above) fix
seen-line line above extension number used before None says fix there =
    seen-more line above fix (before fix (subst (λ (used : List UsedFix). Contains used fix) (with_line-none number used) there))
seen-line line above extension number used before (Some seen) says fix there =
    tested (may_follow (last_own used) (own_second (last_own used) seen.time)) refl
  where
    tested : (b : Bool) → may_follow (last_own used) (own_second (last_own used) seen.time) ≡ b → IsSeenIn (line ∷ above) fix
    tested false left =
        seen-more line above fix (before fix (subst (λ (used : List UsedFix). Contains used fix) (with_line-left number seen used left) there))
    tested true follows =
        elim (contains-cases used fix (next_fix number seen used) (subst (λ (used : List UsedFix). Contains used fix) (with_line-used number seen used follows) there)) [
          | inl same ↦ record { line = line; of_text = (0, omega arith, refl); extension = extension; says = says ∙ ap (λ (fix : UsedFix). Some fix.seen) same }
          | inr rest ↦ seen-more line above fix (before fix rest)
        ]

seen-upwards : (up : Lines) (fix : UsedFix) → Contains (used_upwards up) fix → IsSeenIn up fix
unfolding used_upwards
seen-upwards [] fix (k, below, is) = absurd (omega arith)
seen-upwards (line ∷ above) fix there =
    seen-line line above (extension_below (reverse above)) (length above + 1) (used_upwards above) (λ fix there. seen-upwards above fix there)
    (observation_of (extension_below (reverse above)) line) refl fix there

seen-used : (lines : Lines) (fix : UsedFix) → Contains (used_fixes lines) fix → IsSeenIn lines fix
unfolding used_fixes
seen-used lines fix there =
    let up = subst (λ (used : List UsedFix). Contains used fix) (reverse-reverse (used_upwards (reverse lines))) (contains-reverse (reverse (used_upwards (reverse lines))) fix there) in
    let seen = seen-upwards (reverse lines) fix up in
    let back = subst (λ (lines : Lines). Contains lines seen.line) (reverse-reverse lines) (contains-reverse (reverse lines) seen.line seen.of_text) in
    record { line = seen.line; of_text = back; extension = seen.extension; says = seen.says }

-- each fix of a reading is of a line
of_lines : (lines : Lines) (shift : ℤ) → AreOfLines lines (map (sighting_at shift) (used_fixes lines))
of_lines lines shift = λ k fix is. at k fix (slice_get (used_fixes lines) k) refl (sym (slice_get-map (sighting_at shift) (used_fixes lines) k) ∙ is)
  where
    at : (k : ℕ) (fix : Sighting) (used : Option UsedFix) → slice_get (used_fixes lines) k ≡ used → option_map (sighting_at shift) used ≡ Some fix → IsOfLine lines fix
    at k fix None there is = absurd (cc)
    at k fix (Some used) there is =
        let seen = seen-used lines used (k, slice_get_within (used_fixes lines) k used there, get_or_from_slice_get (used_fixes lines) k used used there) in
        let same : sighting_at shift used ≡ fix = cc in
        record {
          line = seen.line;
          of_text = seen.of_text;
          extension = seen.extension;
          seen = used.seen;
          says = seen.says;
          lat = ap (λ (s : Sighting). s.lat) (sym same);
          lon = ap (λ (s : Sighting). s.lon) (sym same);
          alt = ap (λ (s : Sighting). s.alt) (sym same);
          enl = ap (λ (s : Sighting). s.enl) (sym same);
        }

fixes_of_lines : (fix : Option UsedFix) (date shift : ℤ) (lines : Lines) (reading : Reading) → reading_of_fixes fix date shift lines ≡ Ok reading → AreOfLines lines reading.fixes
unfolding reading_of_fixes reading_at
fixes_of_lines (Some fix) date shift lines reading is = absurd (cc)
fixes_of_lines None date shift lines reading is = tested (length (used_fixes lines) == 0) is
  where
    tested : (b : Bool) → cond b (Err NoFix) (Ok (reading_at date shift lines)) ≡ Ok reading → AreOfLines lines reading.fixes
    tested true is = absurd (cc)
    tested false is =
        let same : reading_at date shift lines ≡ reading = cc in
        subst (λ (reading : Reading). AreOfLines lines reading.fixes) same (of_lines lines shift)

day_of_lines : (date task_day : Option ℤ) (lines : Lines) (reading : Reading) → reading_of_day date task_day lines ≡ Ok reading → AreOfLines lines reading.fixes
unfolding reading_of_day
day_of_lines None task_day lines reading is = absurd (cc)
day_of_lines (Some date) task_day lines reading is = tested (is_wrong_day date task_day) is
  where
    tested : (b : Bool) → cond b (Err (WrongDay date)) (reading_of_fixes (slice_get (used_fixes lines) most_fixes) date (shift_of date task_day) lines) ≡ Ok reading → AreOfLines lines reading.fixes
    tested true is = absurd (cc)
    tested false is = fixes_of_lines (slice_get (used_fixes lines) most_fixes) date (shift_of date task_day) lines reading is

opening_of_lines : (opening : Option Bool) (task_day : Option ℤ) (lines : Lines) (reading : Reading) → reading_of_opening opening task_day lines ≡ Ok reading → AreOfLines lines reading.fixes
unfolding reading_of_opening
opening_of_lines None task_day lines reading is = absurd (cc)
opening_of_lines (Some false) task_day lines reading is = absurd (cc)
opening_of_lines (Some true) task_day lines reading is = day_of_lines (first_of date_of_line lines) task_day lines reading is

pub fixes_are_seen : (lines : Lines) (task_day : Option ℤ) (reading : Reading) → recording_of_lines lines task_day ≡ Ok reading → AreOfLines lines reading.fixes
unfolding recording_of_lines
fixes_are_seen lines task_day reading is = opening_of_lines (first_of opening_of_line lines) task_day lines reading is
