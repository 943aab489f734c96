-- What is wrong with the first line of an airspace text with which anything is.
use Rattle.std.proofs.Common.{◌≡◌, ◌∙◌, refl, sym, ap, ℕ, suc, ◌+◌, ◌-◌, ◌≤◌, Bool, true, false, cond, not, if◌then◌else◌, ◌==◌, ◌&&◌, List, [], ◌∷◌, ◌++◌, length, Option, None, Some, arith, inl, inr, ℤ, nat_le}
use Rattle.std.specs.Prelude.{option_map, is_none, is_some, position, nat_lt}
use Rattle.std.specs.List.{cons_option, count_by, position_or_len}
use Rattle.std.specs.Option.{option_or}
use Rattle.std.proofs.lemmas.Bool.{cases_Bool}
use Rattle.std.proofs.lemmas.Bool.Decides.{nat_tests}
use Rattle.std.proofs.lemmas.List.{length-append}
use Rattle.std.proofs.lemmas.List.Elements.{filter_map-append}
use Rattle.std.proofs.lemmas.List.Sums.{sum_by-append}
use Rattle.gl_airspace.specs.Line.{Begins, PassedOver, Names, Floor, Ceiling, Centre, Corner, Circles}
use Rattle.gl_airspace.specs.Volumes.{Reading, Refusal, Line, TooMany, begins, corner_at, corner_of, corners_in, first_trouble, fits, is_passed, lower, misfit_after, parted, trouble}
use Rattle.gl_laws.specs.Airspace.{FirstLineDecides, first_wrong, is_misfit, is_unfinished, volume_above, wrong_with}
use Rattle.gl_airspace.proofs.Goings.{one_more, parted_on, parted_at, misfit_on, misfit_here}

-- what is wrong with a line below so many lines, volumes and corners and behind the lines of an open
-- volume
abbrev wrong_at : ℕ → ℕ → ℕ → Option (List Reading) → Reading → List Reading → Option Refusal
wrong_at n v c so_far line below =
    if (if begins line then is_unfinished (parted below).0 else is_misfit so_far line) then Some (Line (n + 1))
    else (if (if begins line then v == 256 else is_some (corner_of line) && (c == 4_096)) then Some (TooMany (n + 1)) else None)

abbrev more_volumes : Reading → ℕ
more_volumes line = cond (begins line) 1 0

abbrev more_corners : Reading → ℕ
more_corners line = length (corners_in (line ∷ []))

abbrev next_open : Option (List Reading) → Reading → Option (List Reading)
next_open so_far line = if begins line then Some [] else option_map (λ gone. gone ++ line ∷ []) so_far

abbrev run : ℕ → ℕ → ℕ → Option (List Reading) → List Reading → Option Refusal
run n v c so_far [] = None
run n v c so_far (line ∷ below) =
    option_or (wrong_at n v c so_far line below) (run (n + 1) (v + more_volumes line) (c + more_corners line) (next_open so_far line) below)

-- what is counted above one line more
volumes-more : (above : List Reading) (line : Reading) → count_by begins (above ++ line ∷ []) ≡ count_by begins above + more_volumes line
volumes-more above line = sum_by-append (λ (l : Reading). cond (begins l) 1 0) above (line ∷ []) ∙ ap (λ (k : ℕ). count_by begins above + k) (omega arith)

corners-more : (above : List Reading) (line : Reading) → length (corners_in (above ++ line ∷ [])) ≡ length (corners_in above) + more_corners line
corners-more above line = ap length (filter_map-append corner_of above (line ∷ [])) ∙ length-append {A = ℤ × ℤ} (corners_in above) (corners_in (line ∷ []))

open-more : (above : List Reading) (line : Reading) → volume_above (above ++ line ∷ []) ≡ next_open (volume_above above) line
open-more [] line = by_begin (begins line)
  where
    by_begin : (b : Bool) → cond b (Some []) None ≡ cond b (Some []) (option_map (λ (gone : List Reading). gone ++ line ∷ []) None)
    by_begin true = refl
    by_begin false = refl
open-more (first ∷ above) line =
    ap (λ (o : Option (List Reading)). option_or o (cond (begins first) (Some (above ++ line ∷ [])) None)) (open-more above line) ∙ by_cases (begins line) (begins first) (volume_above above)
  where
    by_cases : (b f : Bool) (o : Option (List Reading)) → option_or (cond b (Some []) (option_map (λ (gone : List Reading). gone ++ line ∷ []) o)) (cond f (Some (above ++ line ∷ [])) None)
        ≡ cond b (Some []) (option_map (λ (gone : List Reading). gone ++ line ∷ []) (option_or o (cond f (Some above) None)))
    by_cases true f o = refl
    by_cases false f (Some gone) = refl
    by_cases false true None = refl
    by_cases false false None = refl

-- the first line with which anything is wrong, by what stands above
by_run : (above lines : List Reading) → first_wrong above lines ≡ run (length above) (count_by begins above) (length (corners_in above)) (volume_above above) lines
by_run above [] = refl
by_run above (line ∷ below) =
    ap (option_or (wrong_with above line below)) (by_run (above ++ line ∷ []) below ∙ moved)
  where
    moved : run (length (above ++ line ∷ [])) (count_by begins (above ++ line ∷ [])) (length (corners_in (above ++ line ∷ []))) (volume_above (above ++ line ∷ [])) below
        ≡ run (length above + 1) (count_by begins above + more_volumes line) (length (corners_in above) + more_corners line) (next_open (volume_above above) line) below
    moved =
        ap (λ (n : ℕ). run n (count_by begins (above ++ line ∷ [])) (length (corners_in (above ++ line ∷ []))) (volume_above (above ++ line ∷ [])) below) (length-append above (line ∷ []))
        ∙ ap (λ (v : ℕ). run (length above + 1) v (length (corners_in (above ++ line ∷ []))) (volume_above (above ++ line ∷ [])) below) (volumes-more above line)
        ∙ ap (λ (c : ℕ). run (length above + 1) (count_by begins above + more_volumes line) c (volume_above (above ++ line ∷ [])) below) (corners-more above line)
        ∙ ap (λ (o : Option (List Reading)). run (length above + 1) (count_by begins above + more_volumes line) (length (corners_in above) + more_corners line) o below) (open-more above line)

-- the trouble of an open volume, the lines of which are left, below so many lines and corners
abbrev rest_trouble : ℕ → ℕ → List Reading → List Reading → Option Refusal
rest_trouble n c gone volume =
    lower (option_map (λ k. n + 1 + k) (misfit_after gone volume)) (option_map (λ k. n + 1 + k) (corner_at (4_096 - c) volume))

-- the same of it and of the volumes below
abbrev all_trouble : ℕ → ℕ → ℕ → List Reading → List Reading → Option Refusal
all_trouble n v c gone lines =
    option_or (rest_trouble n c gone (parted lines).0)
    (first_trouble (n + length (parted lines).0 + 1) v (c + length (corners_in (parted lines).0)) (parted lines).1)

or_assoc : {X : Type 0} (a b c : Option X) → option_or (option_or a b) c ≡ option_or a (option_or b c)
or_assoc None b c = refl
or_assoc (Some x) b c = refl

-- a line that begins a volume has no corner
no_corner : (line : Reading) → begins line ≡ true → corner_of line ≡ None
no_corner None is = absurd (cc)
no_corner (Some Begins) is = refl
no_corner (Some PassedOver) is = absurd (cc)
no_corner (Some Names) is = absurd (cc)
no_corner (Some (Floor m)) is = absurd (cc)
no_corner (Some (Ceiling m)) is = absurd (cc)
no_corner (Some (Centre p)) is = absurd (cc)
no_corner (Some (Corner p)) is = absurd (cc)
no_corner (Some (Circles r)) is = absurd (cc)

-- the trouble of a volume is that of the line that begins it, or of a line of it
begin_trouble : (n v c : ℕ) (volume : List Reading) → trouble (n + 1) v c volume
    ≡ option_or (cond (is_unfinished volume) (Some (Line (n + 1))) (cond (v == 256) (Some (TooMany (n + 1))) None)) (rest_trouble (n + 1) c [] volume)
begin_trouble n v c volume = by_tests (is_unfinished volume) (v == 256)
  where
    by_tests : (u w : Bool) → cond u (Some (Line (n + 1))) (cond w (Some (TooMany (n + 1))) (rest_trouble (n + 1) c [] volume))
        ≡ option_or (cond u (Some (Line (n + 1))) (cond w (Some (TooMany (n + 1))) None)) (rest_trouble (n + 1) c [] volume)
    by_tests true w = refl
    by_tests false true = refl
    by_tests false false = refl

-- a misfit is the trouble wherever a corner stands from it on
misfit_first : (n : ℕ) (corner : Option ℕ) → lower (Some (n + 1 + 0)) (option_map (λ k. n + 1 + k) corner) ≡ Some (Line (n + 1))
misfit_first n None = ap (λ (k : ℕ). Some (Line k)) (omega arith)
misfit_first n (Some k) = at (nat_le (n + 1 + 0) (n + 1 + k)) (grind (arith, nat_tests))
  where
    at : (b : Bool) → b ≡ true → cond b (Some (Line (n + 1 + 0))) (Some (TooMany (n + 1 + k))) ≡ Some (Line (n + 1))
    at true is = ap (λ (k : ℕ). Some (Line k)) (omega arith)
    at false is = absurd (cc)

-- a surplus corner is the trouble where a misfit stands below it
corner_first : (n : ℕ) (misfit : Option ℕ) → lower (option_map (λ k. n + 1 + k) (option_map suc misfit)) (Some (n + 1 + 0)) ≡ Some (TooMany (n + 1))
corner_first n None = ap (λ (k : ℕ). Some (TooMany k)) (omega arith)
corner_first n (Some k) = at (nat_le (n + 1 + suc k) (n + 1 + 0)) (grind (arith, nat_tests))
  where
    at : (b : Bool) → b ≡ false → cond b (Some (Line (n + 1 + suc k))) (Some (TooMany (n + 1 + 0))) ≡ Some (TooMany (n + 1))
    at false is = ap (λ (k : ℕ). Some (TooMany k)) (omega arith)
    at true is = absurd (cc)

-- a line below others
step_line : (n v c : ℕ) (so_far : Option (List Reading)) (line : Reading) (below : List Reading) (b : Bool) → begins line ≡ b
    → run n v c so_far (line ∷ below) ≡ option_or (cond (cond b (is_unfinished (parted below).0) (is_misfit so_far line)) (Some (Line (n + 1)))
    (cond (cond b (v == 256) (is_some (corner_of line) && (c == 4_096))) (Some (TooMany (n + 1))) None))
    (run (n + 1) (v + cond b 1 0) (c + more_corners line) (cond b (Some []) (option_map (λ (gone : List Reading). gone ++ line ∷ []) so_far)) below)
step_line n v c so_far line below b test =
    ap (λ (b : Bool). option_or (cond (cond b (is_unfinished (parted below).0) (is_misfit so_far line)) (Some (Line (n + 1)))
    (cond (cond b (v == 256) (is_some (corner_of line) && (c == 4_096))) (Some (TooMany (n + 1))) None))
    (run (n + 1) (v + cond b 1 0) (c + more_corners line) (cond b (Some []) (option_map (λ (gone : List Reading). gone ++ line ∷ []) so_far)) below)) test

none_more : (line : Reading) → corner_of line ≡ None → more_corners line ≡ 0
none_more line none = rw none refl

-- a line that begins a volume, where the lines of it are known to decide
begin_run : (n v c : ℕ) (so_far : Option (List Reading)) (line : Reading) (below : List Reading) → begins line ≡ true → run (n + 1) (v + 1) c (Some []) below ≡ all_trouble (n + 1) (v + 1) c [] below
    → run n v c so_far (line ∷ below) ≡ first_trouble (n + 1) v c ((parted below).0 ∷ (parted below).1)
begin_run n v c so_far line below test rest =
    step_line n v c so_far line below true test
    ∙ ap (λ (k : ℕ). option_or wrong (run (n + 1) (v + 1) (c + k) (Some []) below)) (none_more line (no_corner line test))
    ∙ ap (λ (k : ℕ). option_or wrong (run (n + 1) (v + 1) k (Some []) below)) same_count
    ∙ ap (option_or wrong) (rest ∙ ap (λ (k : ℕ). option_or (rest_trouble (n + 1) c [] (parted below).0) (first_trouble k (v + 1) (c + length (corners_in (parted below).0)) (parted below).1))
    (same_line (length (parted below).0)))
    ∙ sym (or_assoc wrong (rest_trouble (n + 1) c [] (parted below).0) (first_trouble (n + 1 + 1 + length (parted below).0) (v + 1) (c + length (corners_in (parted below).0)) (parted below).1))
    ∙ ap (λ (t : Option Refusal). option_or t (first_trouble (n + 1 + 1 + length (parted below).0) (v + 1) (c + length (corners_in (parted below).0)) (parted below).1))
    (sym (begin_trouble n v c (parted below).0))
  where
    wrong : Option Refusal
    wrong = cond (is_unfinished (parted below).0) (Some (Line (n + 1))) (cond (v == 256) (Some (TooMany (n + 1))) None)

    same_count : c + 0 ≡ c
    same_count = omega arith

    same_line : (l : ℕ) → n + 1 + l + 1 ≡ n + 1 + 1 + l
    same_line l = omega arith

-- what a line of a volume comes to for its corners
corner_shift : (c : ℕ) (line : Reading) (volume : List Reading) → c ≤ 4_096 → (is_some (corner_of line) && (c == 4_096)) ≡ false
    → corner_at (4_096 - c) (line ∷ volume) ≡ option_map suc (corner_at (4_096 - (c + more_corners line)) volume)
corner_shift c line volume few room = at (corner_of line) room
  where
    at : (o : Option (ℤ × ℤ)) → (is_some o && (c == 4_096)) ≡ false → cond (is_none o) (option_map suc (corner_at (4_096 - c) volume))
        (cond ((4_096 - c) == 0) (Some 0) (option_map suc (corner_at (4_096 - c - 1) volume))) ≡ option_map suc (corner_at (4_096 - (c + length (cons_option o []))) volume)
    at None room = ap (λ (k : ℕ). option_map suc (corner_at (4_096 - k) volume)) (omega arith)
    at (Some place) room =
        let left : ((4_096 - c) == 0) ≡ false = grind (arith, nat_tests) in
        rw left (ap (λ (k : ℕ). option_map suc (corner_at k volume)) (omega arith))

corner_full : (c : ℕ) (line : Reading) (volume : List Reading) → (is_some (corner_of line) && (c == 4_096)) ≡ true → corner_at (4_096 - c) (line ∷ volume) ≡ Some 0
corner_full c line volume full = at (corner_of line) full
  where
    at : (o : Option (ℤ × ℤ)) → (is_some o && (c == 4_096)) ≡ true → cond (is_none o) (option_map suc (corner_at (4_096 - c) volume))
        (cond ((4_096 - c) == 0) (Some 0) (option_map suc (corner_at (4_096 - c - 1) volume))) ≡ Some 0
    at None full = absurd (cc)
    at (Some place) full =
        let none_left : ((4_096 - c) == 0) ≡ true = grind (arith, nat_tests) in
        rw none_left refl

few_more : (c : ℕ) (line : Reading) → c ≤ 4_096 → (is_some (corner_of line) && (c == 4_096)) ≡ false → c + more_corners line ≤ 4_096
few_more c line few room = at (corner_of line) room
  where
    at : (o : Option (ℤ × ℤ)) → (is_some o && (c == 4_096)) ≡ false → c + length (cons_option o []) ≤ 4_096
    at None room = omega arith
    at (Some place) room = grind (arith, nat_tests)

corners-cons : (line : Reading) (volume : List Reading) → length (corners_in (line ∷ volume)) ≡ more_corners line + length (corners_in volume)
corners-cons line volume = at (corner_of line)
  where
    at : (o : Option (ℤ × ℤ)) → length (cons_option o (corners_in volume)) ≡ length (cons_option o []) + length (corners_in volume)
    at None = omega arith
    at (Some place) = omega arith

no_lines : (n : ℕ) → n + 0 + 1 ≡ n + 1
no_lines n = omega arith

no_corners : (c : ℕ) → c + 0 ≡ c
no_corners c = omega arith

one_line : (n l : ℕ) → n + 1 + l + 1 ≡ n + suc l + 1
one_line n l = omega arith

-- one more line of a volume, which fits and for the corner of which there is room
rest-on : (n c : ℕ) (gone : List Reading) (line : Reading) (volume : List Reading) → c ≤ 4_096 → fits gone line ≡ true → (is_some (corner_of line) && (c == 4_096)) ≡ false
    → rest_trouble n c gone (line ∷ volume) ≡ rest_trouble (n + 1) (c + more_corners line) (gone ++ line ∷ []) volume
rest-on n c gone line volume few fit room =
    ap (λ (m : Option ℕ). lower (option_map (λ k. n + 1 + k) m) (option_map (λ k. n + 1 + k) (corner_at (4_096 - c) (line ∷ volume)))) (misfit_on gone line volume fit)
    ∙ ap (λ (m : Option ℕ). lower (option_map (λ k. n + 1 + k) (option_map suc (misfit_after (gone ++ line ∷ []) volume))) (option_map (λ k. n + 1 + k) m)) (corner_shift c line volume few room)
    ∙ ap (λ (m : Option ℕ). lower m (option_map (λ k. n + 1 + k) (option_map suc (corner_at (4_096 - (c + more_corners line)) volume)))) (one_more (n + 1) (misfit_after (gone ++ line ∷ []) volume))
    ∙ ap (λ (m : Option ℕ). lower (option_map (λ k. n + 1 + 1 + k) (misfit_after (gone ++ line ∷ []) volume)) m) (one_more (n + 1) (corner_at (4_096 - (c + more_corners line)) volume))

rest-misfit : (n c : ℕ) (gone : List Reading) (line : Reading) (volume : List Reading) → fits gone line ≡ false → rest_trouble n c gone (line ∷ volume) ≡ Some (Line (n + 1))
rest-misfit n c gone line volume misfit =
    ap (λ (m : Option ℕ). lower (option_map (λ k. n + 1 + k) m) (option_map (λ k. n + 1 + k) (corner_at (4_096 - c) (line ∷ volume)))) (misfit_here gone line volume misfit)
    ∙ misfit_first n (corner_at (4_096 - c) (line ∷ volume))

rest-full : (n c : ℕ) (gone : List Reading) (line : Reading) (volume : List Reading) → fits gone line ≡ true → (is_some (corner_of line) && (c == 4_096)) ≡ true
    → rest_trouble n c gone (line ∷ volume) ≡ Some (TooMany (n + 1))
rest-full n c gone line volume fit full =
    ap (λ (m : Option ℕ). lower (option_map (λ k. n + 1 + k) m) (option_map (λ k. n + 1 + k) (corner_at (4_096 - c) (line ∷ volume)))) (misfit_on gone line volume fit)
    ∙ ap (λ (m : Option ℕ). lower (option_map (λ k. n + 1 + k) (option_map suc (misfit_after (gone ++ line ∷ []) volume))) (option_map (λ k. n + 1 + k) m)) (corner_full c line volume full)
    ∙ corner_first n (misfit_after (gone ++ line ∷ []) volume)

-- the lines of an open volume and of those below it
in_volume : (n v c : ℕ) (gone lines : List Reading) → c ≤ 4_096 → run n v c (Some gone) lines ≡ all_trouble n v c gone lines
in_volume n v c gone [] few = refl
in_volume n v c gone (line ∷ below) few = elim (cases_Bool (begins line)) [
  | inl test ↦ begin_run n v c (Some gone) line below test (in_volume (n + 1) (v + 1) c [] below few) ∙ sym (all-at test)
  | inr test ↦ step_line n v c (Some gone) line below false test ∙ ap (λ (k : ℕ). option_or (wrong (fits gone line) (is_some (corner_of line) && (c == 4_096)))
      (run (n + 1) k (c + more_corners line) (Some (gone ++ line ∷ [])) below)) same_count
      ∙ by_fit (λ few. in_volume (n + 1) v (c + more_corners line) (gone ++ line ∷ []) below few) (fits gone line) (is_some (corner_of line) && (c == 4_096)) refl refl
      ∙ sym (ap (λ (p : List Reading × List (List Reading)). option_or (rest_trouble n c gone p.0) (first_trouble (n + length p.0 + 1) v (c + length (corners_in p.0)) p.1))
      (parted_on line below test))
]
  where
    same_count : v + 0 ≡ v
    same_count = omega arith

    wrong : Bool → Bool → Option Refusal
    wrong fit full = cond (not fit) (Some (Line (n + 1))) (cond full (Some (TooMany (n + 1))) None)

    all-at : begins line ≡ true → all_trouble n v c gone (line ∷ below) ≡ first_trouble (n + 1) v c ((parted below).0 ∷ (parted below).1)
    all-at test =
        ap (λ (p : List Reading × List (List Reading)). option_or (rest_trouble n c gone p.0) (first_trouble (n + length p.0 + 1) v (c + length (corners_in p.0)) p.1)) (parted_at line below test)
        ∙ ap (λ (k : ℕ). first_trouble k v (c + 0) ((parted below).0 ∷ (parted below).1)) (no_lines n)
        ∙ ap (λ (k : ℕ). first_trouble (n + 1) v k ((parted below).0 ∷ (parted below).1)) (no_corners c)

    volume : List Reading
    volume = (parted below).0

    by_fit : (c + more_corners line ≤ 4_096 → run (n + 1) v (c + more_corners line) (Some (gone ++ line ∷ [])) below ≡ all_trouble (n + 1) v (c + more_corners line) (gone ++ line ∷ []) below)
        → (fit full : Bool) → fits gone line ≡ fit → (is_some (corner_of line) && (c == 4_096)) ≡ full
        → option_or (wrong fit full) (run (n + 1) v (c + more_corners line) (Some (gone ++ line ∷ [])) below)
        ≡ option_or (rest_trouble n c gone (line ∷ volume)) (first_trouble (n + length (line ∷ volume) + 1) v (c + length (corners_in (line ∷ volume))) (parted below).1)
    by_fit deeper false full misfit is = ap (λ (t : Option Refusal). option_or t (first_trouble (n + length (line ∷ volume) + 1) v (c + length (corners_in (line ∷ volume))) (parted below).1))
        (sym (rest-misfit n c gone line volume misfit))
    by_fit deeper true true fit full = ap (λ (t : Option Refusal). option_or t (first_trouble (n + length (line ∷ volume) + 1) v (c + length (corners_in (line ∷ volume))) (parted below).1))
        (sym (rest-full n c gone line volume fit full))
    by_fit deeper true false fit room =
        deeper (few_more c line few room)
        ∙ ap (λ (t : Option Refusal). option_or t (first_trouble (n + 1 + length volume + 1) v (c + more_corners line + length (corners_in volume)) (parted below).1))
        (sym (rest-on n c gone line volume few fit room))
        ∙ ap (λ (k : ℕ). option_or (rest_trouble n c gone (line ∷ volume)) (first_trouble k v (c + more_corners line + length (corners_in volume)) (parted below).1)) (one_line n (length volume))
        ∙ ap (λ (k : ℕ). option_or (rest_trouble n c gone (line ∷ volume)) (first_trouble (n + length (line ∷ volume) + 1) v k (parted below).1)) (omega (arith, corners-cons line volume))

-- the first place
first_at : {X : Type 0} (p : X → Bool) (x : X) (xs : List X) → p x ≡ true → position p (x ∷ xs) ≡ Some 0
first_at {X} p x xs here = rw here (ap (λ (b : Bool). cond b (Some 0) None) there)
  where
    there : nat_lt 0 (length (x ∷ xs)) ≡ true
    there = grind (arith, nat_tests)

first_on : {X : Type 0} (p : X → Bool) (x : X) (xs : List X) → p x ≡ false → position p (x ∷ xs) ≡ option_map suc (position p xs)
first_on {X} p x xs no_test = rw no_test (at (nat_lt (position_or_len p xs) (length xs)) refl)
  where
    at : (b : Bool) → nat_lt (position_or_len p xs) (length xs) ≡ b → cond (nat_lt (1 + position_or_len p xs) (length (x ∷ xs))) (Some (1 + position_or_len p xs)) None
        ≡ option_map suc (cond b (Some (position_or_len p xs)) None)
    at true below =
        let more : nat_lt (1 + position_or_len p xs) (length (x ∷ xs)) ≡ true = grind (arith, nat_tests) in
        rw more (ap Some (omega arith))
    at false past =
        let more : nat_lt (1 + position_or_len p xs) (length (x ∷ xs)) ≡ false = grind (arith, nat_tests) in
        rw more refl

abbrev stops : Reading → Bool
stops line = not (is_passed line)

passed_corner : (line : Reading) → is_passed line ≡ true → corner_of line ≡ None
passed_corner None is = absurd (cc)
passed_corner (Some PassedOver) is = refl
passed_corner (Some Begins) is = absurd (cc)
passed_corner (Some Names) is = absurd (cc)
passed_corner (Some (Floor m)) is = absurd (cc)
passed_corner (Some (Ceiling m)) is = absurd (cc)
passed_corner (Some (Centre p)) is = absurd (cc)
passed_corner (Some (Corner p)) is = absurd (cc)
passed_corner (Some (Circles r)) is = absurd (cc)

early_line : (n : ℕ) (o : Option ℕ) → option_map (λ k. Line (n + 1 + k + 1)) o ≡ option_map (λ k. Line (n + k + 1)) (option_map suc o)
early_line n None = refl
early_line n (Some k) = ap (λ (l : ℕ). Some (Line l)) (omega arith)

-- the lines before the first volume and those below
abbrev early_or : ℕ → List Reading × List (List Reading) → Option Refusal
early_or n p = option_or (option_map (λ k. Line (n + k + 1)) (position stops p.0)) (first_trouble (n + length p.0 + 1) 0 0 p.1)

before : (n : ℕ) (lines : List Reading) → run n 0 0 None lines ≡ early_or n (parted lines)
before n [] = refl
before n (line ∷ below) = elim (cases_Bool (begins line)) [
  | inl test ↦ begin_run n 0 0 None line below test (in_volume (n + 1) 1 0 [] below (omega arith)) ∙ ap (λ (k : ℕ). first_trouble k 0 0 ((parted below).0 ∷ (parted below).1)) (sym (no_lines n))
      ∙ sym (ap (early_or n) (parted_at line below test))
  | inr test ↦ step_line n 0 0 None line below false test ∙ elim (cases_Bool (is_passed line)) [
    | inl passed ↦ over (before (n + 1) below) passed
    | inr stop ↦ stopped stop
  ] ∙ sym (ap (early_or n) (parted_on line below test))
]
  where
    early : List Reading
    early = (parted below).0

    over : run (n + 1) 0 0 None below ≡ early_or (n + 1) (parted below) → is_passed line ≡ true
        → option_or (cond (not (is_passed line)) (Some (Line (n + 1))) (cond (is_some (corner_of line) && (0 == 4_096)) (Some (TooMany (n + 1))) None))
        (run (n + 1) 0 (0 + more_corners line) None below) ≡ early_or n (line ∷ early, (parted below).1)
    over deeper passed =
        ap (λ (b : Bool). option_or (cond (not b) (Some (Line (n + 1))) (cond (is_some (corner_of line) && (0 == 4_096)) (Some (TooMany (n + 1))) None))
        (run (n + 1) 0 (0 + more_corners line) None below)) passed
        ∙ ap (λ (o : Option (ℤ × ℤ)). option_or (cond (is_some o && (0 == 4_096)) (Some (TooMany (n + 1))) None) (run (n + 1) 0 (0 + length (cons_option o [])) None below)) (passed_corner line passed)
        ∙ deeper
        ∙ ap (λ (o : Option Refusal). option_or o (first_trouble (n + 1 + length early + 1) 0 0 (parted below).1)) (early_line n (position stops early)
        ∙ ap (option_map (λ k. Line (n + k + 1))) (sym (first_on stops line early (ap not passed))))
        ∙ ap (λ (k : ℕ). option_or (option_map (λ k. Line (n + k + 1)) (position stops (line ∷ early))) (first_trouble k 0 0 (parted below).1)) (one_line n (length early))

    stopped : is_passed line ≡ false → option_or (cond (not (is_passed line)) (Some (Line (n + 1))) (cond (is_some (corner_of line) && (0 == 4_096)) (Some (TooMany (n + 1))) None))
        (run (n + 1) 0 (0 + more_corners line) None below) ≡ early_or n (line ∷ early, (parted below).1)
    stopped stop =
        ap (λ (b : Bool). option_or (cond (not b) (Some (Line (n + 1))) (cond (is_some (corner_of line) && (0 == 4_096)) (Some (TooMany (n + 1))) None))
        (run (n + 1) 0 (0 + more_corners line) None below)) stop
        ∙ ap (λ (k : ℕ). Some (Line k)) (sym (no_lines n))
        ∙ ap (λ (o : Option ℕ). option_or (option_map (λ k. Line (n + k + 1)) o) (first_trouble (n + length (line ∷ early) + 1) 0 0 (parted below).1)) (sym (first_at stops line early (ap not stop)))

from_zero : (o : Option ℕ) → option_map (λ k. Line (k + 1)) o ≡ option_map (λ k. Line (0 + k + 1)) o
from_zero None = refl
from_zero (Some k) = ap (λ (l : ℕ). Some (Line l)) (omega arith)

pub first_decides : FirstLineDecides
first_decides lines =
    ap (λ (o : Option Refusal). option_or o (first_trouble (length (parted lines).0 + 1) 0 0 (parted lines).1)) (from_zero (position stops (parted lines).0))
    ∙ ap (λ (k : ℕ). option_or (option_map (λ k. Line (0 + k + 1)) (position stops (parted lines).0)) (first_trouble k 0 0 (parted lines).1)) (from_none (length (parted lines).0))
    ∙ sym (before 0 lines) ∙ sym (by_run [] lines)
  where
    from_none : (l : ℕ) → l + 1 ≡ 0 + l + 1
    from_none l = omega arith
