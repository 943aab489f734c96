-- The used fixes of a text with one line more.
use Rattle.std.proofs.Common.{◌≡◌, ◌∙◌, sym, ap, subst, refl, ℕ, ◌+◌, ◌*◌, ◌/◌, ◌%◌, ◌<◌, ◌≤◌, List, [], ◌∷◌, ◌++◌, length, Bool, true, false, cond, Option, None, Some, ℤ, arith, ◌&&◌, ◌⊎◌, inl, inr}
use Rattle.std.specs.Prelude.{All, AllPairs, reverse, nat_lt, nat_le, slice_index, int_le, ◌==◌, if◌then◌else◌}
use Rattle.std.specs.Str.{byte}
use Rattle.std.proofs.lemmas.Bool.{cases_Bool, cases_lt}
use Rattle.std.proofs.lemmas.Bool.Decides.{nat_tests}
use Rattle.std.proofs.lemmas.List.{reverse-append, reverse-reverse, length-reverse, length-append, append_assoc}
use Rattle.std.proofs.lemmas.List.Elements.{All-nil, All-push, All-weaker}
use Rattle.std.proofs.lemmas.List.Quantifiers.{all_pairs_push}
use Rattle.gl_text.specs.Digits.{◌>>=◌, columns, number_of}
use Rattle.gl_igc.specs.Columns.{altitude_of, day, half_day, time_of_day}
use Rattle.gl_sphere.specs.PlaceText.{latitude_of, longitude_of}
use Rattle.gl_igc.specs.Extension.{Extension}
use Rattle.gl_igc.specs.FixLine.{Observation, decimals_of, highest, is_fix_line, noise_of, observation_of}
use Rattle.gl_igc.specs.UsedFixes.{UsedFix, extension_below, last_own, may_follow, own_second, used_fixes, used_upwards, with_line}
use Rattle.gl_igc.proofs.TrackLemmas.{next_fix, reverse-cons, with_line-left, with_line-none, with_line-used}
use Rattle.gl_laws.specs.Recordings.{FixesComeInOrder, FixesKeepTheTimeOfDay, FixesStandAtTheirLines, GoodLinesGiveOneFix, IsOutOfTime, LateLinesGiveNoFix, OtherLinesGiveNoFix, StandsIn, comes_before}

abbrev Lines : Type 0
Lines = List (List ℕ)

-- the used fixes of some lines, the latest first
up : Lines → List UsedFix
up lines = used_upwards (reverse lines)

fixes-up : (lines : Lines) → used_fixes lines ≡ reverse (up lines)
unfolding used_fixes up
fixes-up lines = refl

up-fixes : (lines : Lines) → reverse (used_fixes lines) ≡ up lines
up-fixes lines = ap reverse (fixes-up lines) ∙ reverse-reverse (up lines)

up-more : (above : Lines) (line : List ℕ) → up (above ++ line ∷ []) ≡ with_line (length above + 1) (observation_of (extension_below above) line) (up above)
unfolding up used_upwards
up-more above line =
    ap used_upwards (reverse-append above (line ∷ []))
    ∙ ap (λ (n : ℕ). with_line (n + 1) (observation_of (extension_below (reverse (reverse above))) line) (used_upwards (reverse above))) (length-reverse above)
    ∙ ap (λ (lines : Lines). with_line (length above + 1) (observation_of (extension_below lines) line) (used_upwards (reverse above))) (reverse-reverse above)

up-nil : up [] ≡ []
unfolding up used_upwards
up-nil = refl

-- a line that isn't good gives none
no_more : (above : Lines) (line : List ℕ) → observation_of (extension_below above) line ≡ None → used_fixes (above ++ line ∷ []) ≡ used_fixes above
no_more above line none =
    fixes-up (above ++ line ∷ []) ∙ ap reverse (up-more above line ∙ ap (λ (seen : Option Observation). with_line (length above + 1) seen (up above)) none
    ∙ with_line-none (length above + 1) (up above)) ∙ sym (fixes-up above)

may : Lines → Observation → Bool
may above seen = may_follow (last_own (up above)) (own_second (last_own (up above)) seen.time)

-- the fix that a good line would give
next : Lines → Observation → UsedFix
next above seen = next_fix (length above + 1) seen (up above)

left_more : (above : Lines) (line : List ℕ) (seen : Observation) → observation_of (extension_below above) line ≡ Some seen → may above seen ≡ false → used_fixes (above ++ line ∷ []) ≡ used_fixes above
unfolding may
left_more above line seen good left =
    fixes-up (above ++ line ∷ []) ∙ ap reverse (up-more above line ∙ ap (λ (seen : Option Observation). with_line (length above + 1) seen (up above)) good
    ∙ with_line-left (length above + 1) seen (up above) left) ∙ sym (fixes-up above)

one_more : (above : Lines) (line : List ℕ) (seen : Observation) → observation_of (extension_below above) line ≡ Some seen → may above seen ≡ true
    → used_fixes (above ++ line ∷ []) ≡ used_fixes above ++ next above seen ∷ []
unfolding may next
one_more above line seen good follows =
    fixes-up (above ++ line ∷ []) ∙ ap reverse (up-more above line ∙ ap (λ (seen : Option Observation). with_line (length above + 1) seen (up above)) good
    ∙ with_line-used (length above + 1) seen (up above) follows)
    ∙ reverse-cons (next_fix (length above + 1) seen (up above)) (up above) ∙ ap (λ (fixes : List UsedFix). fixes ++ next_fix (length above + 1) seen (up above) ∷ []) (sym (fixes-up above))

-- what holds without a line and is kept by one line more holds of all
by_lines : (P : Lines → List UsedFix → Type 0) → P [] [] → ((above : Lines) (line : List ℕ) → P above (used_fixes above) → P (above ++ line ∷ []) (used_fixes above))
    → ((above : Lines) (line : List ℕ) (seen : Observation) → observation_of (extension_below above) line ≡ Some seen → may above seen ≡ true → P above (used_fixes above)
    → P (above ++ line ∷ []) (used_fixes above ++ next above seen ∷ [])) → (lines : Lines) → P lines (used_fixes lines)
by_lines P none same more lines = subst (λ (lines : Lines). P lines (used_fixes lines)) (reverse-reverse lines) (upwards (reverse lines))
  where
    seen_or : (above : Lines) (line : List ℕ) → P above (used_fixes above) → (seen : Option Observation) → observation_of (extension_below above) line ≡ seen
        → P (above ++ line ∷ []) (used_fixes (above ++ line ∷ []))
    seen_or above line before None is = subst (P (above ++ line ∷ [])) (sym (no_more above line is)) (same above line before)
    seen_or above line before (Some seen) is = elim (cases_Bool (may above seen)) [
      | inl follows ↦ subst (P (above ++ line ∷ [])) (sym (one_more above line seen is follows)) (more above line seen is follows before)
      | inr left ↦ subst (P (above ++ line ∷ [])) (sym (left_more above line seen is left)) (same above line before)
    ]

    upwards : (lines : Lines) → P (reverse lines) (used_fixes (reverse lines))
    upwards [] = subst (P []) (sym (fixes-up [] ∙ ap reverse up-nil)) none
    upwards (line ∷ above) =
        subst (λ (lines : Lines). P lines (used_fixes lines)) (sym (reverse-cons line above))
        (seen_or (reverse above) line (upwards above) (observation_of (extension_below (reverse above)) line) refl)

-- a fix of some lines is one of these and one line more
stands-more : (above : Lines) (line : List ℕ) (fix : UsedFix) → StandsIn above fix → StandsIn (above ++ line ∷ []) fix
stands-more above line fix stands = record {
  above = stands.above;
  line = stands.line;
  below = stands.below ++ line ∷ [];
  whole = ap (λ (lines : Lines). lines ++ line ∷ []) stands.whole ∙ append_assoc stands.above (stands.line ∷ stands.below) (line ∷ []);
  number = stands.number;
  says = stands.says;
}

stands-next : (above : Lines) (line : List ℕ) (seen : Observation) → observation_of (extension_below above) line ≡ Some seen → StandsIn (above ++ line ∷ []) (next above seen)
unfolding next
stands-next above line seen good = record { above = above; line = line; below = []; whole = refl; number = refl; says = good }

pub stand : FixesStandAtTheirLines
stand = by_lines (λ lines fixes. All (StandsIn lines) fixes) (All-nil (StandsIn []))
    (λ above line before. All-weaker (StandsIn above) (StandsIn (above ++ line ∷ [])) (stands-more above line) (used_fixes above) before)
    (λ above line seen good follows before. All-push (StandsIn (above ++ line ∷ [])) (used_fixes above) (next above seen)
    (All-weaker (StandsIn above) (StandsIn (above ++ line ∷ [])) (stands-more above line) (used_fixes above) before) (stands-next above line seen good))

-- the last of some fixes
last_own-last : (earlier : List UsedFix) (last : UsedFix) (lines : Lines) → used_fixes lines ≡ earlier ++ last ∷ [] → last_own (up lines) ≡ Some last.own
last_own-last earlier last lines is =
    ap last_own (sym (up-fixes lines) ∙ ap reverse is ∙ reverse-append earlier (last ∷ []))

out-left : (last own : ℕ) → (own ≤ last) ⊎ (300_000 ≤ own) → may_follow (Some last) own ≡ false
unfolding may_follow
out-left last own (inl early) = grind (arith, nat_tests)
out-left last own (inr late) = grind (arith, nat_tests)

left-out : (last own : ℕ) → may_follow (Some last) own ≡ false → (own ≤ last) ⊎ (300_000 ≤ own)
unfolding may_follow
left-out last own left = elim (cases_lt last own) [
  | inr early ↦ inl early
  | inl above ↦ elim (cases_lt own 300_000) [
    | inr late ↦ inr late
    | inl below ↦ absurd (grind (arith, nat_tests))
  ]
]

-- a good line that is out of time may not follow
out_may_not : (above : Lines) (seen : Observation) → IsOutOfTime above seen → may above seen ≡ false
unfolding may
out_may_not above seen out =
    ap (λ (last : Option ℕ). may_follow last (own_second last seen.time)) (last_own-last out.earlier out.last above out.fixes)
    ∙ out-left out.last.own (own_second (Some out.last.own) seen.time) out.out

none_follows : (own : ℕ) → may_follow None own ≡ false → ⊥
unfolding may_follow
none_follows own left = cc

-- the fixes of lines with a last one
with_last : (above : Lines) (ups : List UsedFix) (seen : Observation) → up above ≡ ups → may_follow (last_own ups) (own_second (last_own ups) seen.time) ≡ false → IsOutOfTime above seen
with_last above [] seen is left = absurd (none_follows (own_second None seen.time) left)
with_last above (last ∷ ups) seen is left = record {
  earlier = reverse ups;
  last = last;
  fixes = fixes-up above ∙ ap reverse is ∙ reverse-cons last ups;
  out = left-out last.own (own_second (Some last.own) seen.time) left;
}

left_is_out : (above : Lines) (seen : Observation) → may above seen ≡ false → IsOutOfTime above seen
unfolding may
left_is_out above seen left = with_last above (up above) seen refl left

-- a list with one more is another list
longer : (fixes : List UsedFix) (fix : UsedFix) → fixes ++ fix ∷ [] ≡ fixes → ⊥
longer fixes fix same = let long = ap (λ (l : List UsedFix). length l) same in omega (arith, long, length-append fixes (fix ∷ []))

pub late_give_none : LateLinesGiveNoFix
late_give_none above line seen good = (
  λ gives_none. elim (cases_Bool (may above seen)) [
    | inl follows ↦ absurd (longer (used_fixes above) (next above seen) (sym (one_more above line seen good follows) ∙ gives_none))
    | inr left ↦ left_is_out above seen left
  ],
  λ out. left_more above line seen good (out_may_not above seen out),
)

pub good_give_one : GoodLinesGiveOneFix
unfolding next
good_give_one above line seen good in_time = elim (cases_Bool (may above seen)) [
  | inl follows ↦ record { fix = next above seen; fixes = one_more above line seen good follows; number = refl; says = refl }
  | inr left ↦ absurd (in_time (left_is_out above seen left))
]

pub others_give_none : OtherLinesGiveNoFix
others_give_none = no_more

-- a time of day is below a day
timed : (line : List ℕ) (time : ℕ) → time_of_day line ≡ Some time → time < 86_400
unfolding time_of_day
timed line time is = by_hours (number_of (columns 2 3 line)) (number_of (columns 4 5 line)) (number_of (columns 6 7 line)) is
  where
    of_test : (h m s : ℕ) (b : Bool) → (nat_le h 23 && nat_le m 59 && nat_le s 59) ≡ b → cond b (Some (3600 * h + 60 * m + s)) None ≡ Some time → time < 86_400
    of_test h m s true test is = let same : 3600 * h + 60 * m + s ≡ time = cc in grind (arith, nat_tests)
    of_test h m s false test is = absurd (cc)

    by_hours : (hours minutes seconds : Option ℕ) → (hours >>= λ h. minutes >>= λ m. seconds >>= λ s. if nat_le h 23 && nat_le m 59 && nat_le s 59 then Some (3600 * h + 60 * m + s) else None)
        ≡ Some time → time < 86_400
    by_hours None m s is = absurd (cc)
    by_hours (Some h) None s is = absurd (cc)
    by_hours (Some h) (Some m) None is = absurd (cc)
    by_hours (Some h) (Some m) (Some s) is = of_test h m s _ refl is

-- what a good line says has its time of day
good_time : (line : List ℕ) (above : Lines) (seen : Observation) → observation_of (extension_below above) line ≡ Some seen → seen.time < 86_400
unfolding observation_of
good_time line above seen good = by_test (nat_le 35 (length line) && is_fix_line line && (slice_index line 24 == byte "A")) good
  where
    extension : Extension
    extension = extension_below above

    of_height : (time : ℕ) (lat lon alt : ℤ) (low : Bool) → time_of_day line ≡ Some time
        → cond low (Some (record { time = time; lat = lat; lon = lon; alt = alt; enl = noise_of extension.enl line })) None ≡ Some seen → seen.time < 86_400
    of_height time lat lon alt true is says = let same : record { time = time; lat = lat; lon = lon; alt = alt; enl = noise_of extension.enl line } ≡ seen = cc in
        subst (λ (t : ℕ). t < 86_400) (ap (λ (o : Observation). o.time) same) (timed line time is)
    of_height time lat lon alt false is says = absurd (cc)

    of_parts : (time : Option ℕ) (lat lon pressure alt : Option ℤ) → time_of_day line ≡ time
        → (time >>= λ t. lat >>= λ a. lon >>= λ o. pressure >>= λ p. alt >>= λ h. if int_le h highest then Some
        (record { time = t; lat = a; lon = o; alt = h; enl = noise_of extension.enl line }) else None) ≡ Some seen → seen.time < 86_400
    of_parts None lat lon pressure alt is says = absurd (cc)
    of_parts (Some time) None lon pressure alt is says = absurd (cc)
    of_parts (Some time) (Some lat) None pressure alt is says = absurd (cc)
    of_parts (Some time) (Some lat) (Some lon) None alt is says = absurd (cc)
    of_parts (Some time) (Some lat) (Some lon) (Some pressure) None is says = absurd (cc)
    of_parts (Some time) (Some lat) (Some lon) (Some pressure) (Some alt) is says = of_height time lat lon alt (int_le alt highest) is says

    by_test : (b : Bool) → cond b (time_of_day line >>= λ t. latitude_of (decimals_of extension.lad line) (columns 8 15 line) >>= λ a. longitude_of (decimals_of extension.lod line)
        (columns 16 24 line) >>= λ o. altitude_of (columns 26 30 line) >>= λ p. altitude_of (columns 31 35 line) >>= λ h. if int_le h highest then Some
        (record { time = t; lat = a; lon = o; alt = h; enl = noise_of extension.enl line }) else None) None ≡ Some seen → seen.time < 86_400
    by_test true says = of_parts (time_of_day line) (latitude_of (decimals_of extension.lad line) (columns 8 15 line)) (longitude_of (decimals_of extension.lod line) (columns 16 24 line))
        (altitude_of (columns 26 30 line)) (altitude_of (columns 31 35 line)) refl says
    by_test false says = absurd (cc)

own-time : (last : Option ℕ) (time : ℕ) → time < 86_400 → own_second last time % 86_400 ≡ time
unfolding own_second
own-time None time within = omega arith
own-time (Some last) time within = by_test (nat_lt (time + half_day) (last % day))
  where
    by_test : (b : Bool) → (day * (last / day) + time + cond b day 0) % 86_400 ≡ time
    by_test true = omega arith
    by_test false = omega arith

pub keep_time : FixesKeepTheTimeOfDay
unfolding next
keep_time = by_lines (λ lines fixes. All (λ (fix : UsedFix). fix.own % 86_400 ≡ fix.seen.time) fixes) (All-nil (λ (fix : UsedFix). fix.own % 86_400 ≡ fix.seen.time))
    (λ above line before. before)
    (λ above line seen good follows before. All-push (λ (fix : UsedFix). fix.own % 86_400 ≡ fix.seen.time) (used_fixes above) (next above seen) before
    (own-time (last_own (up above)) seen.time (good_time line above seen good)))

-- a number is at most the last one, and there is one
abbrev IsAtMost : ℕ → Option ℕ → Type 0
IsAtMost n None = ⊥
IsAtMost n (Some last) = n ≤ last

-- fixes in order, the last of which is known, at some lines
record Ordered (lines : Lines) (fixes : List UsedFix) : Type 0 where
  pairs : AllPairs comes_before fixes
  above : All (λ fix. fix.line ≤ length lines) fixes
  latest : All (λ fix. IsAtMost fix.own (last_own (reverse fixes))) fixes

follows-above : (last : Option ℕ) (own before : ℕ) → may_follow last own ≡ true → IsAtMost before last → before < own
unfolding may_follow
follows-above None own before follows most = absurd most
follows-above (Some last) own before follows most = grind (arith, nat_tests)

line-more : (above : Lines) (line : List ℕ) (n : ℕ) → n ≤ length above → n ≤ length (above ++ line ∷ [])
line-more above line n most = omega (arith, most, length-append above (line ∷ []))

ordered-more : (above : Lines) (line : List ℕ) (seen : Observation) → may above seen ≡ true → Ordered above (used_fixes above) → Ordered (above ++ line ∷ []) (used_fixes above ++ next above seen ∷ [])
unfolding may next
ordered-more above line seen follows before =
    let fixes = used_fixes above in
    let fix : UsedFix = next_fix (length above + 1) seen (up above) in
    let lower : All (λ (old : UsedFix). old.own < fix.own) fixes = All-weaker (λ (old : UsedFix). IsAtMost old.own (last_own (reverse fixes))) (λ (old : UsedFix). old.own < fix.own)
    (λ old most. follows-above (last_own (up above)) fix.own old.own follows (subst (λ (ups : List UsedFix). IsAtMost old.own (last_own ups)) (up-fixes above) most)) fixes before.latest in
    let newest : last_own (reverse (fixes ++ fix ∷ [])) ≡ Some fix.own = ap last_own (reverse-append fixes (fix ∷ [])) in
    record {
      pairs = all_pairs_push comes_before fixes fix before.pairs (λ k d within. (omega (arith, before.above k d within), lower k d within));
      above = All-push (λ (old : UsedFix). old.line ≤ length (above ++ line ∷ [])) fixes fix
          (All-weaker (λ (old : UsedFix). old.line ≤ length above) (λ (old : UsedFix). old.line ≤ length (above ++ line ∷ [])) (λ old most. line-more above line old.line most) fixes before.above)
          (omega (arith, length-append above (line ∷ [])));
      latest = subst (λ (last : Option ℕ). All (λ (old : UsedFix). IsAtMost old.own last) (fixes ++ fix ∷ [])) (sym newest)
          (All-push (λ (old : UsedFix). old.own ≤ fix.own) fixes fix (All-weaker (λ (old : UsedFix). old.own < fix.own) (λ (old : UsedFix). old.own ≤ fix.own)
          (λ old less. omega (arith, less)) fixes lower) (omega arith));
    }

ordered : (lines : Lines) → Ordered lines (used_fixes lines)
ordered = by_lines Ordered
    (record { pairs = λ i j d below within. absurd (omega (arith, below, within)); above = All-nil (λ (fix : UsedFix). fix.line ≤ 0); latest = All-nil (λ (fix : UsedFix). IsAtMost fix.own None) })
    (λ above line before. record {
      pairs = before.pairs;
      above = All-weaker (λ (old : UsedFix). old.line ≤ length above) (λ (old : UsedFix). old.line ≤ length (above ++ line ∷ []))
          (λ old most. line-more above line old.line most) (used_fixes above) before.above;
      latest = before.latest;
    })
    (λ above line seen good follows before. ordered-more above line seen follows before)

pub in_order : FixesComeInOrder
in_order lines = (ordered lines).pairs
