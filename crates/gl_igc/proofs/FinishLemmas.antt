-- The recording of the lines that were taken.
use Rattle.std.proofs.Common.{◌≡◌, ◌∙◌, sym, ap, subst, ℕ, ◌-◌, ◌<◌, List, length, map, Bool, true, false, cond, Option, None, Some, arith, refl, ℤ, pos, ◌+ℤ◌}
use Rattle.std.specs.Prelude.{Result, Ok, Err, MatchResult, option_map, unwrap_or, slice_get, reverse, filter, ◌==◌, IsTrue}
use Rattle.std.proofs.lemmas.Bool.Decides.{nat_tests}
use Rattle.std.proofs.lemmas.Simd.{map-map}
use Rattle.std.proofs.lemmas.List.{length-map}
use Rattle.std.proofs.Math.ListN.{length-reverse}
use Rattle.gl_igc.specs.Dates.{date_of_line}
use Rattle.gl_igc.specs.Declaration.{is_declaration_line, declared_by, declared_places}
use Rattle.gl_igc.specs.FirstOf.{first_of}
use Rattle.gl_igc.specs.FixLine.{is_fix_line}
use Rattle.gl_igc.specs.Parts.{IsTrackOf, own_sighting}
use Rattle.gl_igc.specs.Code.Parts.{shifted}
use Rattle.gl_igc.specs.Reading.{Sighting, Reading, capped, most_fixes, opening_of_line, is_wrong_day, shift_of, sighting_at, skipped_lines, reading_at, reading_of_fixes, reading_of_day, reading_of_opening, recording_of_lines}
use Rattle.gl_igc.specs.Recording.{sighting_of}
use Rattle.gl_igc.specs.Seconds.{is_rising}
use Rattle.gl_igc.specs.UsedFixes.{UsedFix, used_upwards, used_fixes, event_seconds}
use Rattle.gl_igc.specs.declared.error.IgcError.{IgcError}
use Rattle.gl_igc.specs.declared.error.IgcError.TheVariants.{NotIgc, NoDate, WrongDay, TooManyFixes, NoFix}
use Rattle.gl_igc.specs.declared.fix.Fix.{Fix}
use Rattle.gl_igc.specs.declared.track.Track.{Track}
use Rattle.gl_igc.proofs.SecondsLemmas.{rising-shift}
use Rattle.gl_igc.proofs.TrackLemmas.{map_none, kept-length}

abbrev pub Lines : Type 0
Lines = List (List ℕ)

abbrev pub Answer : Type 0
Answer = Result Reading IgcError

there : (date shift : ℤ) (line : ℕ) (lines : Lines) (fix : Option UsedFix) → Some line ≡ option_map (λ fix. capped fix.line) fix → reading_of_fixes fix date shift lines ≡ Err (TooManyFixes line)
unfolding reading_of_fixes
there date shift line lines None is = absurd (cc)
there date shift line lines (Some fix) is =
    let same : line ≡ capped fix.line = cc in
    ap (λ (l : ℕ). Err (TooManyFixes l)) (sym same)

-- a fix past the limit
pub finish-excess : (lines : Lines) (n : ℕ) (track : Track) (date shift : ℤ) (line : ℕ) → IsTrackOf (used_upwards (reverse lines)) n track → track.excess ≡ Some line
    → reading_of_fixes (slice_get (used_fixes lines) most_fixes) date shift lines ≡ Err (TooManyFixes line)
unfolding used_fixes
finish-excess lines n track date shift line of is =
    there date shift line lines (slice_get (reverse (used_upwards (reverse lines))) most_fixes) (sym is ∙ of.excess)

none_there : (lines : Lines) (n : ℕ) (track : Track) → IsTrackOf (used_upwards (reverse lines)) n track → track.excess ≡ None → slice_get (used_fixes lines) most_fixes ≡ None
unfolding used_fixes
none_there lines n track of none =
    map_none (λ (fix : UsedFix). capped fix.line) (slice_get (reverse (used_upwards (reverse lines))) most_fixes) (sym of.excess ∙ none)

used-length : (lines : Lines) (n : ℕ) (track : Track) → IsTrackOf (used_upwards (reverse lines)) n track → track.excess ≡ None → length (used_fixes lines) ≡ length track.fixes.items
unfolding used_fixes
used-length lines n track of none =
    length-reverse (used_upwards (reverse lines)) ∙ sym (kept-length (used_upwards (reverse lines)) n track of none)

-- no fix
pub finish-empty : (lines : Lines) (n : ℕ) (track : Track) (date shift : ℤ) → IsTrackOf (used_upwards (reverse lines)) n track → track.excess ≡ None → length track.fixes.items ≡ 0
    → reading_of_fixes (slice_get (used_fixes lines) most_fixes) date shift lines ≡ Err NoFix
unfolding reading_of_fixes
finish-empty lines n track date shift of none empty =
    let test : (length (used_fixes lines) == 0) ≡ true = let long = used-length lines n track of none in grind (arith, nat_tests) in
    rw (none_there lines n track of none, test) refl

-- some fixes
pub finish-some : (lines : Lines) (n : ℕ) (track : Track) (date shift : ℤ) → IsTrackOf (used_upwards (reverse lines)) n track → track.excess ≡ None → 0 < length track.fixes.items
    → reading_of_fixes (slice_get (used_fixes lines) most_fixes) date shift lines ≡ Ok (reading_at date shift lines)
unfolding reading_of_fixes
finish-some lines n track date shift of none some =
    let test : (length (used_fixes lines) == 0) ≡ false = let long = used-length lines n track of none in grind (arith, nat_tests) in
    rw (none_there lines n track of none, test) refl

-- what the code keeps, moved
pub finish-fixes : (lines : Lines) (n : ℕ) (track : Track) (shift : ℤ) (fixes : List Fix) → IsTrackOf (used_upwards (reverse lines)) n track → track.excess ≡ None
    → map sighting_of fixes ≡ map (shifted shift) (map sighting_of track.fixes.items) → map sighting_of fixes ≡ map (sighting_at shift) (used_fixes lines)
unfolding used_fixes
finish-fixes lines n track shift fixes of none moved =
    moved ∙ ap (map (shifted shift)) (of.kept none).fixes ∙ map-map (shifted shift) own_sighting (reverse (used_upwards (reverse lines)))

pub finish-events : (lines : Lines) (shift : ℤ) (events seconds : List ℤ) → events ≡ map pos (event_seconds lines) → seconds ≡ map (λ second. second +ℤ shift) events
    → seconds ≡ map (λ own. pos own +ℤ shift) (event_seconds lines)
finish-events lines shift events seconds is moved =
    moved ∙ ap (map (λ second. second +ℤ shift)) is ∙ map-map (λ (second : ℤ). second +ℤ shift) pos (event_seconds lines)

pub finish-skipped : (lines : Lines) (track : Track) → IsTrackOf (used_upwards (reverse lines)) (length (filter is_fix_line lines)) track → track.excess ≡ None
    → track.skipped ≡ capped (skipped_lines lines)
unfolding skipped_lines used_fixes
finish-skipped lines track of none =
    (of.kept none).skipped ∙ ap (λ (k : ℕ). capped (length (filter is_fix_line lines) - k)) (sym (length-reverse (used_upwards (reverse lines))))

-- the parts of a reading
pub reading-is : (lines : Lines) (date shift date' : ℤ) (fixes : List Sighting) (events : List ℤ) (declared : Option (List (ℤ × ℤ))) (skipped : ℕ) → date' ≡ date
    → fixes ≡ map (sighting_at shift) (used_fixes lines) → events ≡ map (λ own. pos own +ℤ shift) (event_seconds lines) → declared ≡ declared_by (filter is_declaration_line lines)
    → skipped ≡ capped (skipped_lines lines) → reading_at date shift lines ≡ record { date = date'; fixes = fixes; events = events; declared = declared; skipped = skipped }
unfolding reading_at declared_places
reading-is lines date shift date' fixes events declared skipped a b c d e = rw (a, b, c, d, e) refl

-- moved seconds rise
pub finish-rising : (shift : ℤ) (old new : List Fix) → map sighting_of new ≡ map (shifted shift) (map sighting_of old) → IsTrue (is_rising (map (λ fix. fix.second) old))
    → IsTrue (is_rising (map (λ fix. fix.second) new))
finish-rising shift old new moved rising =
    let same : map (λ fix. fix.second) new ≡ map (λ second. second +ℤ shift) (map (λ fix. fix.second) old) =
    sym (map-map (λ (s : Sighting). s.second) sighting_of new) ∙ ap (map (λ (s : Sighting). s.second)) (moved ∙ map-map (shifted shift) sighting_of old)
    ∙ map-map (λ (s : Sighting). s.second) (λ (fix : Fix). shifted shift (sighting_of fix)) old ∙ sym (map-map (λ (second : ℤ). second +ℤ shift) (λ (fix : Fix). fix.second) old) in
    subst (λ (seconds : List ℤ). IsTrue (is_rising seconds)) (sym same) (rising-shift (map (λ fix. fix.second) old) shift rising)

pub moved-length : (shift : ℤ) (old new : List Fix) → map sighting_of new ≡ map (shifted shift) (map sighting_of old) → length new ≡ length old
moved-length shift old new moved =
    sym (length-map new sighting_of) ∙ ap length moved ∙ length-map (map sighting_of old) (shifted shift) ∙ length-map old sighting_of

not_igc : (opening : Option Bool) (task_day : Option ℤ) (lines : Lines) → unwrap_or opening false ≡ false → reading_of_opening opening task_day lines ≡ Err NotIgc
unfolding reading_of_opening
not_igc None task_day lines other = refl
not_igc (Some false) task_day lines other = refl
not_igc (Some true) task_day lines other = absurd (cc)

-- the tests before
pub finish-not_igc : (lines : Lines) (task_day : Option ℤ) (opening : Option Bool) → opening ≡ first_of opening_of_line lines → unwrap_or opening false ≡ false
    → recording_of_lines lines task_day ≡ Err NotIgc
unfolding recording_of_lines
finish-not_igc lines task_day opening is other =
    ap (λ (opening : Option Bool). reading_of_opening opening task_day lines) (sym is) ∙ not_igc opening task_day lines other

opened : (opening : Option Bool) → unwrap_or opening false ≡ true → opening ≡ Some true
opened None igc = absurd (cc)
opened (Some false) igc = absurd (cc)
opened (Some true) igc = refl

pub none_from : {X : Type 0} (o : Option X) → ((x : X) → o ≡ Some x → ⊥) → o ≡ None
none_from None never = refl
none_from (Some x) never = absurd (never x refl)

pub match_answer : {A : Type 0} (answer other : Answer) (result : Result A IgcError) (read : A → Reading) → answer ≡ other → MatchResult result (λ a. other ≡ Ok (read a)) (λ e. other ≡ Err e)
    → MatchResult result (λ a. answer ≡ Ok (read a)) (λ e. answer ≡ Err e)
match_answer answer other (Ok a) read same is = same ∙ is
match_answer answer other (Err e) read same is = same ∙ is

pub finish-igc : (lines : Lines) (task_day : Option ℤ) (opening : Option Bool) (date : Option ℤ) → opening ≡ first_of opening_of_line lines → unwrap_or opening false ≡ true
    → date ≡ first_of date_of_line lines → recording_of_lines lines task_day ≡ reading_of_day date task_day lines
unfolding recording_of_lines reading_of_opening
finish-igc lines task_day opening date is igc date_is =
    let opens : first_of opening_of_line lines ≡ Some true = sym is ∙ opened opening igc in
    rw opens (ap (λ (date : Option ℤ). reading_of_day date task_day lines) (sym date_is))

pub finish-no_date : (lines : Lines) (task_day : Option ℤ) → reading_of_day None task_day lines ≡ Err NoDate
unfolding reading_of_day
finish-no_date lines task_day = refl

pub finish-wrong : (lines : Lines) (date : ℤ) (task_day shift : Option ℤ) → shift ≡ cond (is_wrong_day date task_day) None (Some (shift_of date task_day)) → shift ≡ None
    → reading_of_day (Some date) task_day lines ≡ Err (WrongDay date)
unfolding reading_of_day
finish-wrong lines date task_day shift is none = wrong (is_wrong_day date task_day) (sym is ∙ none)
  where
    wrong : (b : Bool) → cond b None (Some (shift_of date task_day)) ≡ None
        → cond b (Err (WrongDay date)) (reading_of_fixes (slice_get (used_fixes lines) most_fixes) date (shift_of date task_day) lines) ≡ Err (WrongDay date)
    wrong true is = refl
    wrong false is = absurd (cc)

pub finish-day : (lines : Lines) (date shift : ℤ) (task_day moved : Option ℤ) → moved ≡ cond (is_wrong_day date task_day) None (Some (shift_of date task_day)) → moved ≡ Some shift
    → reading_of_day (Some date) task_day lines ≡ reading_of_fixes (slice_get (used_fixes lines) most_fixes) date shift lines
unfolding reading_of_day
finish-day lines date shift task_day moved is some = right (is_wrong_day date task_day) (sym is ∙ some)
  where
    right : (b : Bool) → cond b None (Some (shift_of date task_day)) ≡ Some shift
        → cond b (Err (WrongDay date)) (reading_of_fixes (slice_get (used_fixes lines) most_fixes) date (shift_of date task_day) lines)
        ≡ reading_of_fixes (slice_get (used_fixes lines) most_fixes) date shift lines
    right true is = absurd (cc)
    right false is =
        let same : shift_of date task_day ≡ shift = cc in
        ap (λ (shift : ℤ). reading_of_fixes (slice_get (used_fixes lines) most_fixes) date shift lines) same
