-- The definitions of a list of lines with one line more.
use Rattle.std.proofs.Common.{◌≡◌, ◌∙◌, sym, ap, subst, ℕ, ◌+◌, ◌-◌, ◌^◌, ◌≤◌, List, [], ◌∷◌, ◌++◌, length, map, Bool, true, false, cond, Option, None, Some, arith, refl, ℤ, pos}
use Rattle.std.specs.Prelude.{option_map, slice_get, reverse, filter, if◌then◌else◌, min}
use Rattle.std.specs.Option.{option_or, option_to_list}
use Rattle.std.proofs.lemmas.List.{reverse-append, reverse-reverse, map-append, length-append}
use Rattle.std.proofs.lemmas.List.Elements.{filter-append}
use Rattle.std.proofs.lemmas.Option.{slice_get_past}
use Rattle.std.proofs.Math.ListN.{length-reverse}
use Rattle.gl_igc.specs.Declaration.{is_declaration_line}
use Rattle.gl_igc.specs.Extension.{extension_of_line}
use Rattle.gl_igc.specs.FirstOf.{first_of}
use Rattle.gl_igc.specs.FixLine.{is_fix_line, observation_of}
use Rattle.gl_igc.specs.Parts.{IsTrackOf, extension_view}
use Rattle.gl_igc.specs.Code.Parts.{extension_held}
use Rattle.gl_igc.specs.Reading.{capped, most_fixes}
use Rattle.gl_igc.specs.UsedFixes.{UsedFix, extension_below, used_upwards, with_line, last_own, own_second, event_time, events_upwards, event_seconds}
use Rattle.gl_igc.specs.declared.extension.Fields.{Fields}
use Rattle.gl_igc.specs.declared.track.Track.{Track}
use Rattle.gl_igc.proofs.TrackLemmas.{with_line_cases, none_past, map_none}

abbrev pub Lines : Type 0
Lines = List (List ℕ)

pub first_of-push : {A B : Type 0} (f : A → Option B) (xs : List A) (x : A) → first_of f (xs ++ x ∷ []) ≡ option_or (first_of f xs) (f x)
first_of-push f [] x = none (f x)
  where
    none : {B : Type 0} (o : Option B) → option_or o None ≡ o
    none None = refl
    none (Some y) = refl
first_of-push f (y ∷ xs) x = ap (option_or (f y)) (first_of-push f xs x) ∙ assoc (f y) (first_of f xs) (f x)
  where
    assoc : {B : Type 0} (a b c : Option B) → option_or a (option_or b c) ≡ option_or (option_or a b) c
    assoc None b c = refl
    assoc (Some a) b c = refl

pub capped-more : (n : ℕ) → min (capped n + 1) (2 ^ 32 - 1) ≡ capped (n + 1)
capped-more n = omega arith

-- the lines upwards begin with the one that comes last
pub upwards-push : (lines : Lines) (line : List ℕ) → reverse (lines ++ line ∷ []) ≡ line ∷ reverse lines
upwards-push lines line = reverse-append lines (line ∷ [])

pub used-push : (lines : Lines) (line : List ℕ) (fields : Option Fields) → option_map extension_view fields ≡ first_of extension_of_line lines
    → used_upwards (reverse (lines ++ line ∷ [])) ≡ with_line (length lines + 1) (observation_of (extension_held fields) line) (used_upwards (reverse lines))
unfolding used_upwards extension_below
used-push lines line fields is =
    ap used_upwards (upwards-push lines line) ∙ rw (length-reverse, reverse-reverse, is) refl

pub count-push : (lines : Lines) (line : List ℕ) → length (filter is_fix_line (lines ++ line ∷ [])) ≡ length (filter is_fix_line lines) + (if is_fix_line line then 1 else 0)
count-push lines line =
    ap length (filter-append is_fix_line lines (line ∷ [])) ∙ length-append (filter is_fix_line lines) (filter is_fix_line (line ∷ []))
    ∙ ap (λ (k : ℕ). length (filter is_fix_line lines) + k) (tested (is_fix_line line))
  where
    tested : (b : Bool) → length (cond b (line ∷ []) []) ≡ cond b 1 0
    tested true = refl
    tested false = refl

pub track-push : (lines : Lines) (line : List ℕ) (fields : Option Fields) (number : ℕ) (old new : Track) → option_map extension_view fields ≡ first_of extension_of_line lines
    → number ≡ capped (length lines + 1) → IsTrackOf (used_upwards (reverse lines)) (length (filter is_fix_line lines)) old
    → ((used : List UsedFix) (count n : ℕ) → number ≡ capped n → IsTrackOf used count old
    → IsTrackOf (with_line n (observation_of (extension_held fields) line) used) (count + (if is_fix_line line then 1 else 0)) new)
    → IsTrackOf (used_upwards (reverse (lines ++ line ∷ []))) (length (filter is_fix_line (lines ++ line ∷ []))) new
track-push lines line fields number old new is is_number of step =
    let next = step (used_upwards (reverse lines)) (length (filter is_fix_line lines)) (length lines + 1) is_number of in
    subst (λ (used : List UsedFix). IsTrackOf used (length (filter is_fix_line (lines ++ line ∷ []))) new) (sym (used-push lines line fields is))
    (subst (λ (n : ℕ). IsTrackOf (with_line (length lines + 1) (observation_of (extension_held fields) line) (used_upwards (reverse lines))) n new) (sym (count-push lines line)) next)

-- where no fix is past the limit below a line, none was above it
pub no_excess_before : (lines : Lines) (line : List ℕ) (fields : Option Fields) (n m : ℕ) (old new : Track) → option_map extension_view fields ≡ first_of extension_of_line lines
    → IsTrackOf (used_upwards (reverse lines)) n old → IsTrackOf (used_upwards (reverse (lines ++ line ∷ []))) m new → new.excess ≡ None → old.excess ≡ None
no_excess_before lines line fields n m old new is before after none =
    let used = used_upwards (reverse lines) in
    let more = with_line (length lines + 1) (observation_of (extension_held fields) line) used in
    let few : length (reverse (used_upwards (reverse (lines ++ line ∷ [])))) ≤ most_fixes =
    none_past (reverse (used_upwards (reverse (lines ++ line ∷ [])))) most_fixes
    (map_none (λ (fix : UsedFix). capped fix.line) (slice_get (reverse (used_upwards (reverse (lines ++ line ∷ [])))) most_fixes) (sym after.excess ∙ none)) in
    let longer : length used ≤ length more = with_line_cases (λ after. length used ≤ length after) (length lines + 1) (observation_of (extension_held fields) line) used (omega arith)
    (λ fix. omega arith) in
    let fewer : length (reverse used) ≤ most_fixes =
    omega (arith, length-reverse used, length-reverse (used_upwards (reverse (lines ++ line ∷ []))), ap length (used-push lines line fields is)) in
    before.excess ∙ ap (option_map (λ (fix : UsedFix). capped fix.line)) (slice_get_past (reverse used) most_fixes fewer)

reverse-option : {X : Type 0} (o : Option X) → reverse (option_to_list o) ≡ option_to_list o
reverse-option None = refl
reverse-option (Some x) = refl

map-option : {X Y Z : Type 0} (f : Y → Z) (g : X → Y) (o : Option X) → map f (option_to_list (option_map g o)) ≡ option_to_list (option_map (λ x. f (g x)) o)
map-option f g None = refl
map-option f g (Some x) = refl

pub events-push : (lines : Lines) (line : List ℕ) (last : Option ℕ) → last ≡ last_own (used_upwards (reverse lines))
    → map pos (event_seconds (lines ++ line ∷ [])) ≡ map pos (event_seconds lines) ++ option_to_list (option_map (λ time. pos (own_second last time)) (event_time line))
unfolding event_seconds events_upwards
events-push lines line last is =
    let event : Option ℕ = option_map (own_second (last_own (used_upwards (reverse lines)))) (event_time line) in
    let above : List ℕ = events_upwards (reverse lines) in
    let upwards : reverse (events_upwards (reverse (lines ++ line ∷ []))) ≡ reverse above ++ option_to_list event =
    ap (λ (up : Lines). reverse (events_upwards up)) (upwards-push lines line) ∙ reverse-append (option_to_list event) above ∙ ap (λ (es : List ℕ). reverse above ++ es) (reverse-option event) in
    let seconds : map pos (option_to_list event) ≡ option_to_list (option_map (λ time. pos (own_second last time)) (event_time line)) =
    map-option pos (own_second (last_own (used_upwards (reverse lines)))) (event_time line)
    ∙ ap (λ (last : Option ℕ). option_to_list (option_map (λ time. pos (own_second last time)) (event_time line))) (sym is) in
    ap (map pos) upwards ∙ map-append pos (reverse above) (option_to_list event) ∙ ap (λ (es : List ℤ). map pos (reverse above) ++ es) seconds

pub declared-push : (lines : Lines) (line : List ℕ) → filter is_declaration_line (lines ++ line ∷ []) ≡ filter is_declaration_line lines ++ (if is_declaration_line line then line ∷ [] else [])
declared-push lines line = filter-append is_declaration_line lines (line ∷ [])

pub number-push : (lines : Lines) (line : List ℕ) (number : ℕ) → number ≡ capped (length lines) → min (number + 1) (2 ^ 32 - 1) ≡ capped (length (lines ++ line ∷ []))
number-push lines line number is =
    let more : length lines + 1 ≡ length (lines ++ line ∷ []) = omega (arith, length-append lines (line ∷ [])) in
    ap (λ (n : ℕ). min (n + 1) (2 ^ 32 - 1)) is ∙ capped-more (length lines) ∙ ap capped more

pub first-push : {A B : Type 0} (f : A → Option B) (xs : List A) (x : A) (old new : Option B) → old ≡ first_of f xs → new ≡ option_or old (f x) → new ≡ first_of f (xs ++ x ∷ [])
first-push f xs x old new is more = more ∙ ap (λ first. option_or first (f x)) is ∙ sym (first_of-push f xs x)
