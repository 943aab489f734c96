-- The used fixes, line by line.
use Rattle.std.proofs.Common.{◌≡◌, ◌∙◌, sym, ap, subst, ℕ, zero, suc, ◌+◌, ◌-◌, ◌<◌, ◌≤◌, inl, inr, List, [], ◌∷◌, ◌++◌, length, map, get_or, Bool, true, false, Option, None, Some, arith, refl, ◌&&◌}
use Rattle.std.specs.Global.{Vec}
use Rattle.std.specs.Prelude.{Result, Ok, Err, OnOk, is_some, option_map, unwrap_or, slice_get, slice_index, reverse, ◌==◌, if◌then◌else◌, nat_le}
use Rattle.gl_igc.specs.Code.Seconds.{AreOwnSeconds}
use Rattle.std.specs.Str.{byte}
use Rattle.std.proofs.lemmas.Bool.Decides.{nat_tests}
use Rattle.std.proofs.lemmas.Bool.{cases_lt, false≢true}
use Rattle.std.proofs.lemmas.Grind.{reverse_onto}
use Rattle.std.proofs.lemmas.List.{map-append, length-map, length-append}
use Rattle.std.proofs.lemmas.Option.{slice_get_past, slice_get_within, slice_get-get_or}
use Rattle.std.proofs.Math.ListN.{length-reverse, get_or-append}
use Rattle.std.proofs.Math.Seq.{get_or-append_seam}
use Rattle.gl_igc.specs.Columns.{day}
use Rattle.gl_igc.specs.Extension.{Extension, no_extension}
use Rattle.gl_igc.specs.FixLine.{Observation, is_fix_line, observation_of}
use Rattle.gl_igc.specs.Parts.{IsTrackOf, own_sighting, extension_view}
use Rattle.gl_igc.specs.Code.Parts.{observation_view, extension_held}
use Rattle.gl_igc.specs.Reading.{capped, most_fixes}
use Rattle.gl_igc.specs.Recording.{sighting_of}
use Rattle.gl_igc.specs.UsedFixes.{UsedFix, last_own, own_second, may_follow, with_line, seconds_limit}
use Rattle.gl_igc.specs.declared.extension.Fields.{Fields}
use Rattle.gl_igc.specs.declared.fix.Fix.{Fix}
use Rattle.gl_igc.specs.declared.observation.Observed.{Observed}
use Rattle.gl_igc.specs.declared.track.Track.{Track}

-- an own second that may follow is below the limit
pub own-in_range : (last : Option ℕ) (time own : ℕ) → time < day → own ≡ own_second last time → may_follow last own ≡ true → own < seconds_limit
unfolding own_second may_follow
own-in_range None time own in_day is follows = omega arith
own-in_range (Some last) time own in_day is follows = grind (arith, nat_tests)

-- the fix that a line would give
abbrev pub next_fix : ℕ → Observation → List UsedFix → UsedFix
next_fix line seen used = record { line = line; own = own_second (last_own used) seen.time; seen = seen }

pub with_line-none : (line : ℕ) (used : List UsedFix) → with_line line None used ≡ used
unfolding with_line
with_line-none line used = refl

pub with_line-left : (line : ℕ) (seen : Observation) (used : List UsedFix) → may_follow (last_own used) (own_second (last_own used) seen.time) ≡ false → with_line line (Some seen) used ≡ used
unfolding with_line
with_line-left line seen used left = rw left refl

pub with_line-used : (line : ℕ) (seen : Observation) (used : List UsedFix) → may_follow (last_own used) (own_second (last_own used) seen.time) ≡ true
    → with_line line (Some seen) used ≡ next_fix line seen used ∷ used
unfolding with_line
with_line-used line seen used follows = rw follows refl

-- one fix more, or none
pub with_line_cases : (P : List UsedFix → Type 0) (line : ℕ) (seen : Option Observation) (used : List UsedFix) → P used → ((fix : UsedFix) → P (fix ∷ used)) → P (with_line line seen used)
with_line_cases P line None used same more = subst P (sym (with_line-none line used)) same
with_line_cases P line (Some seen) used same more = tested (may_follow (last_own used) (own_second (last_own used) seen.time)) refl
  where
    tested : (b : Bool) → may_follow (last_own used) (own_second (last_own used) seen.time) ≡ b → P (with_line line (Some seen) used)
    tested true follows = subst P (sym (with_line-used line seen used follows)) (more (next_fix line seen used))
    tested false left = subst P (sym (with_line-left line seen used left)) same

-- the latest fix comes last in the order of the file
pub reverse-cons : {X : Type 0} (x : X) (xs : List X) → reverse (x ∷ xs) ≡ reverse xs ++ x ∷ []
reverse-cons x xs = reverse_onto xs x []

slice_get-seam : {X : Type 0} (xs : List X) (x : X) (n : ℕ) → n ≡ length xs → slice_get (xs ++ x ∷ []) n ≡ Some x
slice_get-seam xs x n is =
    let there : n < length (xs ++ x ∷ []) = omega (arith, length-append xs (x ∷ [])) in
    slice_get-get_or (xs ++ x ∷ []) n x there ∙ ap Some (ap (λ (k : ℕ). get_or (xs ++ x ∷ []) k x) is ∙ get_or-append_seam xs x [] x)

slice_get-front : {X : Type 0} (xs ys : List X) (n : ℕ) (x : X) → slice_get xs n ≡ Some x → slice_get (xs ++ ys) n ≡ Some x
slice_get-front xs ys n x is =
    let below = slice_get_within xs n x is in
    let there : n < length (xs ++ ys) = omega (arith, length-append xs ys) in
    slice_get-get_or (xs ++ ys) n x there ∙ ap Some (get_or-append xs ys x n below) ∙ sym (slice_get-get_or xs n x below) ∙ is

-- where the list has no item past a place it ends there
pub none_past : {X : Type 0} (xs : List X) (n : ℕ) → slice_get xs n ≡ None → length xs ≤ n
none_past xs n none =
    elim (cases_lt n (length xs)) [
      | inl below ↦ absurd (has xs n below none)
      | inr over ↦ over
    ]
  where
    has : {X : Type 0} (xs : List X) (n : ℕ) → n < length xs → slice_get xs n ≡ None → ⊥
    has [] n below none = omega arith
    has (x ∷ xs) zero below none = cc
    has (x ∷ xs) (suc n) below none = has xs n (omega arith) none

pub map_none : {X Y : Type 0} (f : X → Y) (o : Option X) → option_map f o ≡ None → o ≡ None
map_none f None is = refl
map_none f (Some x) is = absurd (cc)

-- a track without an excess keeps at most the most fixes
pub kept-length : (used : List UsedFix) (lines : ℕ) (track : Track) → IsTrackOf used lines track → track.excess ≡ None → length track.fixes.items ≡ length used
kept-length used lines track of open_ =
    let kept = of.kept open_ in
    sym (length-map track.fixes.items sighting_of) ∙ ap length kept.fixes ∙ length-map (reverse used) own_sighting ∙ length-reverse used

pub kept-few : (used : List UsedFix) (lines : ℕ) (track : Track) → IsTrackOf used lines track → track.excess ≡ None → length used ≤ most_fixes
kept-few used lines track of open_ =
    let none = map_none (λ (fix : UsedFix). capped fix.line) (slice_get (reverse used) most_fixes) (sym of.excess ∙ open_) in
    let few = none_past (reverse used) most_fixes none in
    omega (arith, length-reverse used)

-- a fix past the limit
pub track-excess : (used after : List UsedFix) (lines line number : ℕ) (old : Track) (fix : UsedFix) (own_seconds : AreOwnSeconds (map (λ fix. fix.second) old.fixes.items) old.last)
    → after ≡ fix ∷ used → fix.line ≡ line → number ≡ capped line → IsTrackOf used lines old → old.excess ≡ None → most_fixes ≤ length old.fixes.items
    → IsTrackOf after (lines + 1) (record { fixes = old.fixes; last = old.last; skipped = old.skipped; excess = Some number; own = own_seconds })
track-excess used after lines line number old fix own_seconds is_after is_line is_number of open_ full =
    let long = kept-length used lines old of open_ in
    let few = kept-few used lines old of open_ in
    let at_end : most_fixes ≡ length (reverse used) = omega (arith, length-reverse used) in
    let there : slice_get (reverse after) most_fixes ≡ Some fix =
    ap (λ (fixes : List UsedFix). slice_get (reverse fixes) most_fixes) is_after ∙ ap (λ (fixes : List UsedFix). slice_get fixes most_fixes) (reverse-cons fix used)
    ∙ slice_get-seam (reverse used) fix most_fixes at_end in
    record {
      excess = ap Some (is_number ∙ ap capped (sym is_line)) ∙ sym (ap (option_map (λ (fix : UsedFix). capped fix.line)) there);
      kept = λ none. absurd (cc);
    }

-- a fix that is kept
pub track-kept : (used after : List UsedFix) (lines own : ℕ) (old : Track) (fixes : Vec Fix) (fix : UsedFix) (stored : Fix)
    (own_seconds : AreOwnSeconds (map (λ fix. fix.second) fixes.items) (Some own)) → after ≡ fix ∷ used → sighting_of stored ≡ own_sighting fix → own ≡ fix.own → IsTrackOf used lines old
    → old.excess ≡ None → length old.fixes.items < most_fixes → fixes.items ≡ old.fixes.items ++ stored ∷ []
    → IsTrackOf after (lines + 1) (record { fixes = fixes; last = Some own; skipped = old.skipped; excess = old.excess; own = own_seconds })
track-kept used after lines own old fixes fix stored own_seconds is_after same is_own of open_ room items =
    let kept = of.kept open_ in
    let long = kept-length used lines old of open_ in
    let few : length (reverse (fix ∷ used)) ≤ most_fixes = omega (arith, length-reverse (fix ∷ used)) in
    let fewer : lines + 1 - length (fix ∷ used) ≡ lines - length used = omega arith in
    let stored_all : map sighting_of fixes.items ≡ map own_sighting (reverse (fix ∷ used)) =
    ap (map sighting_of) items ∙ map-append sighting_of old.fixes.items (stored ∷ [])
    ∙ rw (kept.fixes, same) (sym (ap (map own_sighting) (reverse-cons fix used) ∙ map-append own_sighting (reverse used) (fix ∷ []))) in
    let P : List UsedFix → Type 0 = λ after. IsTrackOf after (lines + 1) (record { fixes = fixes; last = Some own; skipped = old.skipped; excess = old.excess; own = own_seconds }) in
    subst P (sym is_after) (record {
      excess = open_ ∙ sym (ap (option_map (λ (fix : UsedFix). capped fix.line)) (slice_get_past (reverse (fix ∷ used)) most_fixes few));
      kept = λ none. record {
        fixes = stored_all;
        last = ap Some is_own;
        skipped = kept.skipped ∙ sym (ap capped fewer);
        within = omega (arith, kept.within);
      };
    })

-- past the limit nothing changes
pub track-stays : (used : List UsedFix) (lines line more : ℕ) (seen : Option Observation) (track : Track) (number : ℕ) → track.excess ≡ Some number → IsTrackOf used lines track
    → IsTrackOf (with_line line seen used) (lines + more) track
track-stays used lines line more seen track number excess of =
    with_line_cases (λ after. IsTrackOf after (lines + more) track) line seen used (record { excess = of.excess; kept = λ none. absurd (cc) }) (λ fix. record {
      excess = longer fix (slice_get (reverse used) most_fixes) refl;
      kept = λ none. absurd (cc);
    })
  where
    longer : (fix : UsedFix) (there : Option UsedFix) → slice_get (reverse used) most_fixes ≡ there → track.excess ≡ option_map (λ fix. capped fix.line) (slice_get (reverse (fix ∷ used)) most_fixes)
    longer fix None none = absurd (let other = of.excess ∙ ap (option_map (λ (fix : UsedFix). capped fix.line)) none in cc)
    longer fix (Some first) is =
        of.excess ∙ ap (option_map (λ (fix : UsedFix). capped fix.line)) (is
        ∙ sym (ap (λ (fixes : List UsedFix). slice_get fixes most_fixes) (reverse-cons fix used) ∙ slice_get-front (reverse used) (fix ∷ []) most_fixes first is))

-- no B line
pub observation_of-other : (extension : Extension) (line : List ℕ) → is_fix_line line ≡ false → observation_of extension line ≡ None
unfolding observation_of
observation_of-other extension line other =
    let no : (nat_le 35 (length line) && is_fix_line line && (slice_index line 24 == byte "A")) ≡ false = no_and (nat_le 35 (length line)) (is_fix_line line) (slice_index line 24 == byte "A") other in
    rw no refl
  where
    no_and : (a b c : Bool) → b ≡ false → (a && b && c) ≡ false
    no_and true b c none = rw none refl
    no_and false b c none = refl

-- the fields that hold, as the code keeps them
pub fields_view : (fields : Option Fields) (none : Fields) → extension_view none ≡ no_extension → extension_view (unwrap_or fields none) ≡ unwrap_or (option_map extension_view fields) no_extension
fields_view None none empty = empty
fields_view (Some fields) none empty = refl

some_is : (o : Option ℕ) → is_some o ≡ true → (n : ℕ) × (o ≡ Some n)
some_is None some = absurd (false≢true some)
some_is (Some n) some = (n, refl)

-- past the limit, a line more
pub take-past : (used : List UsedFix) (lines number : ℕ) (fields : Option Fields) (line : List ℕ) (track : Track) → is_some track.excess ≡ true → IsTrackOf used lines track
    → IsTrackOf (with_line number (observation_of (extension_held fields) line) used) (lines + (if is_fix_line line then 1 else 0)) track
take-past used lines number fields line track past of =
    let (n, is) = some_is track.excess past in
    track-stays used lines number (if is_fix_line line then 1 else 0) (observation_of (extension_held fields) line) track n is of

-- a line that is no B line
pub take-other : (used : List UsedFix) (lines number : ℕ) (fields : Option Fields) (line : List ℕ) (track : Track) → is_fix_line line ≡ false → IsTrackOf used lines track
    → IsTrackOf (with_line number (observation_of (extension_held fields) line) used) (lines + (if is_fix_line line then 1 else 0)) track
take-other used lines number fields line track other of =
    let none = observation_of-other (extension_held fields) line other in
    let same : lines + 0 ≡ lines = omega arith in
    rw (other, none, with_line-none, same) of

pub empty_other : (line : List ℕ) → length line ≡ 0 → is_fix_line line ≡ false
empty_other [] empty = refl
empty_other (c ∷ cs) empty = absurd (omega arith)

-- a B line
pub take-line : (used : List UsedFix) (lines number : ℕ) (fields : Option Fields) (line : List ℕ) (seen : Option Observation) (track : Track) → is_fix_line line ≡ true
    → seen ≡ observation_of (extension_held fields) line → IsTrackOf (with_line number seen used) (lines + 1) track
    → IsTrackOf (with_line number (observation_of (extension_held fields) line) used) (lines + (if is_fix_line line then 1 else 0)) track
take-line used lines number fields line seen track is_b same of =
    rw is_b (subst (λ (seen : Option Observation). IsTrackOf (with_line number seen used) (lines + 1) track) same of)

pub on_ok : {T E : Type 0} {P Q : Type 0} (r : Result T E) → (P → Q) → OnOk r P → OnOk r Q
on_ok (Ok x) f h = f h
on_ok (Err e) f h = h

-- what the code reads is what the definition reads
pub take-sees : (fields : Option Fields) (none merged : Fields) (line : List ℕ) (read : Option Observed) → extension_view none ≡ no_extension → merged ≡ unwrap_or fields none
    → option_map observation_view read ≡ observation_of (extension_view merged) line → option_map observation_view read ≡ observation_of (extension_held fields) line
take-sees fields none merged line read empty is_merged reads =
    reads ∙ ap (λ (fields : Extension). observation_of fields line) (ap extension_view is_merged ∙ fields_view fields none empty)
