-- Going over the lines of a volume, one more at a time.
use Rattle.std.proofs.Common.{◌≡◌, ◌∙◌, refl, sym, ap, subst, ℕ, suc, ◌+◌, ◌-◌, ◌<◌, ◌≤◌, Bool, true, false, if◌then◌else◌, ◌==◌, List, [], ◌∷◌, ◌++◌, length, drop, Option, None, Some, ℤ, append_assoc, length-append, vec_len, rules, arith}
use Rattle.std.specs.Prelude.{IsSome, ◌≢◌, ◌&&◌, nat_lt, option_map, map, MatchOption}
use Rattle.std.specs.List.{filter_map}
use Rattle.std.proofs.lemmas.List.{append-nil, length-map}
use Rattle.gl_airspace.specs.declared.draft.Draft.{Draft}
use Rattle.gl_airspace.specs.declared.part.Part.{Part}
use Rattle.gl_airspace.specs.Volumes.{Reading, begins, corner_of, corner_at, corners_in, fits, misfit_after, parted, readings_of}
use Rattle.gl_airspace.specs.Code.Parts.{Says}
use Rattle.gl_airspace.specs.Code.Going.{GoesOver, IsGoing, IsSurplus, Fits, Misfits, volume_of}
use Rattle.gl_airspace.specs.Line.{reading_of}
use Rattle.gl_text.specs.Lines.{lines_of}
use Rattle.gl_sphere.specs.PlaceText.{place_of}
use Rattle.gl_airspace.proofs.Kept.{with_one, without}

pub one_more : (n : ℕ) (o : Option ℕ) → option_map (λ k. n + k) (option_map suc o) ≡ option_map (λ k. n + 1 + k) o
one_more n None = refl
one_more n (Some k) = ap Some (omega arith)

pub parted_on : (line : Reading) (rest : List Reading) → begins line ≡ false → parted (line ∷ rest) ≡ (line ∷ (parted rest).0, (parted rest).1)
parted_on line rest test = rw test refl

pub parted_at : (line : Reading) (rest : List Reading) → begins line ≡ true → parted (line ∷ rest) ≡ ([], (parted rest).0 ∷ (parted rest).1)
parted_at line rest test = rw test refl

pub misfit_on : (gone : List Reading) (line : Reading) (rest : List Reading) → fits gone line ≡ true → misfit_after gone (line ∷ rest) ≡ option_map suc (misfit_after (gone ++ line ∷ []) rest)
misfit_on gone line rest test = rw test refl

pub misfit_here : (gone : List Reading) (line : Reading) (rest : List Reading) → fits gone line ≡ false → misfit_after gone (line ∷ rest) ≡ Some 0
misfit_here gone line rest test = rw test refl

corner_none : (n : ℕ) (line : Reading) (rest : List Reading) → corner_of line ≡ None → corner_at n (line ∷ rest) ≡ option_map suc (corner_at n rest)
corner_none n line rest test = rw test refl

corner_some : (n : ℕ) (line : Reading) (place : ℤ × ℤ) (rest : List Reading) → corner_of line ≡ Some place
    → corner_at n (line ∷ rest) ≡ (if n == 0 then Some 0 else option_map suc (corner_at (n - 1) rest))
corner_some n line place rest test = rw test refl

corners_more : (gone : List Reading) (line : Reading) (place : ℤ × ℤ) → filter_map corner_of (line ∷ []) ≡ place ∷ [] → length (corners_in (gone ++ line ∷ [])) ≡ length (corners_in gone) + 1
corners_more gone line place one =
    let more : corners_in (gone ++ line ∷ []) ≡ corners_in gone ++ place ∷ [] = with_one corner_of gone line place one in
    grind (arith, length-append {A = ℤ × ℤ})

said_none : (line : Reading) → corner_of line ≡ None → filter_map corner_of (line ∷ []) ≡ []
said_none line test = rw test refl

said_one : (line : Reading) (place : ℤ × ℤ) → corner_of line ≡ Some place → filter_map corner_of (line ∷ []) ≡ place ∷ []
said_one line place test = rw test refl

count_none : (gone : List Reading) (line : Reading) → corner_of line ≡ None → length (corners_in (gone ++ line ∷ [])) ≡ length (corners_in gone)
count_none gone line test = ap (λ (xs : List (ℤ × ℤ)). length xs) (without corner_of gone line (said_none line test))

count_one : (gone : List Reading) (line : Reading) (place : ℤ × ℤ) → corner_of line ≡ Some place → length (corners_in (gone ++ line ∷ [])) ≡ length (corners_in gone) + 1
count_one gone line place test = corners_more gone line place (said_one line place test)

at_more : (m : ℕ) (rest : List Reading) → 0 < m → (if m == 0 then Some 0 else option_map suc (corner_at (m - 1) rest)) ≡ option_map suc (corner_at (m - 1) rest)
at_more m rest some = grind arith

-- a line behind those gone over with which there are not too many corners
surplus_on : (found : Option ℕ) (count room : ℕ) (gone : List Reading) (line : Reading) (rest : List Reading) (place : Option ℕ) (corner : Option (ℤ × ℤ)) → corner_of line ≡ corner
    → (IsSome corner → length (corners_in gone) ≢ room)
    → IsSurplus found count room gone (line ∷ rest) place → IsSurplus found (count + 1) room (gone ++ line ∷ []) rest place
surplus_on None count room gone line rest place None is unless told =
    let same = count_none gone line is in (
      omega (arith, same, told.0),
      told.1 ∙ ap (option_map (λ (k : ℕ). count + k)) (corner_none (room - length (corners_in gone)) line rest is) ∙ one_more count _
          ∙ ap (λ (n : ℕ). option_map (λ (k : ℕ). count + 1 + k) (corner_at (room - n) rest)) (sym same),
    )
surplus_on None count room gone line rest place (Some at) is unless told =
    let more = count_one gone line at is in
    let differs : length (corners_in gone) ≢ room = unless refl in
    let left : room - length (corners_in gone) - 1 ≡ room - length (corners_in (gone ++ line ∷ [])) = omega (arith, more) in
    let some : 0 < room - length (corners_in gone) = omega (arith, told.0, differs) in (
      omega (arith, more, told.0, differs),
      told.1 ∙ ap (option_map (λ (k : ℕ). count + k)) (corner_some (room - length (corners_in gone)) line at rest is ∙ at_more (room - length (corners_in gone)) rest some) ∙ one_more count _
          ∙ ap (λ (n : ℕ). option_map (λ (k : ℕ). count + 1 + k) (corner_at n rest)) left,
    )
surplus_on (Some found) count room gone line rest place None is unless told =
    (omega (arith, told.0), omega (arith, told.1, count_none gone line is), told.2)
surplus_on (Some found) count room gone line rest place (Some at) is unless told =
    (omega (arith, told.0), omega (arith, told.1, count_one gone line at is), told.2)

-- the corner with which there are too many
surplus_here : (count room : ℕ) (gone : List Reading) (line : Reading) (rest : List Reading) (place : Option ℕ) (at : ℤ × ℤ) → corner_of line ≡ Some at
    → length (corners_in gone) ≡ room
    → IsSurplus None count room gone (line ∷ rest) place → IsSurplus (Some count) (count + 1) room (gone ++ line ∷ []) rest place
surplus_here count room gone line rest place at is full told =
    let none : room - length (corners_in gone) ≡ 0 = omega (arith, full) in (
      omega arith,
      omega (arith, count_one gone line at is, full),
      told.1 ∙ ap (λ (n : ℕ). option_map (λ (k : ℕ). count + k) (corner_at n (line ∷ rest))) none ∙ ap (option_map (λ (k : ℕ). count + k)) (corner_some 0 line at rest is) ∙ ap Some (omega arith),
    )

room_left : (full : Bool) (found : Option ℕ) (count room : ℕ) (gone : List Reading) (line : Reading) (rest : List Reading) (place : Option ℕ) (at : ℤ × ℤ) → corner_of line ≡ Some at
    → (length (corners_in gone) == room) ≡ full
    → IsSurplus found count room gone (line ∷ rest) place
    → IsSurplus (if full && true then Some count else found) (count + 1) room (gone ++ line ∷ []) rest place
room_left true None count room gone line rest place at is test told =
    surplus_here count room gone line rest place at is (grind arith) told
room_left true (Some earlier) count room gone line rest place at is test told =
    let full : length (corners_in gone) ≡ room = grind arith in
    absurd (omega (arith, told.1, full))
room_left false found count room gone line rest place at is test told =
    surplus_on found count room gone line rest place (Some at) is (λ _ full. grind arith) told

pub surplus_step : (found : Option ℕ) (count room : ℕ) (gone : List Reading) (line : Reading) (rest : List Reading) (place : Option ℕ) (corner : Option (ℤ × ℤ)) → corner_of line ≡ corner
    → IsSurplus found count room gone (line ∷ rest) place
    → IsSurplus (if (length (corners_in gone) == room) && nat_lt (length (corners_in gone)) (length (corners_in (gone ++ line ∷ []))) then Some count else found) (count + 1) room
    (gone ++ line ∷ []) rest place
surplus_step found count room gone line rest place None is told =
    let same = count_none gone line is in
    let not_more : ((length (corners_in gone) == room) && nat_lt (length (corners_in gone)) (length (corners_in (gone ++ line ∷ [])))) ≡ false = grind arith in
    rw not_more (surplus_on found count room gone line rest place None is (λ some. cc) told)
surplus_step found count room gone line rest place (Some at) is told =
    let more = count_one gone line at is in
    let rises : nat_lt (length (corners_in gone)) (length (corners_in (gone ++ line ∷ []))) ≡ true = grind arith in
    rw rises (room_left (length (corners_in gone) == room) found count room gone line rest place at is refl told)

-- one line more was gone over
pub going_on : (lines rest : List Reading) (line : Reading) (room before after_count : ℕ) (part after : Part)
    → begins line ≡ false
    → ((gone : List Reading) → Says part.draft gone → fits gone line ≡ true)
    → ((gone : List Reading) → Says part.draft gone → Says after.draft (gone ++ line ∷ []))
    → ((gone : List Reading) → Says part.draft gone → before ≡ length (corners_in gone))
    → ((gone : List Reading) → Says after.draft gone → after_count ≡ length (corners_in gone))
    → after.lines ≡ part.lines + 1 → after.misfit ≡ part.misfit
    → after.surplus ≡ (if (before == room) && nat_lt before after_count then Some part.lines else part.surplus)
    → IsGoing lines (line ∷ rest) room part → IsGoing lines rest room after
going_on lines rest line room before after_count part after goes fit says corners corners_after count misfit surplus going =
    let gone = going.gone in
    let more = gone ++ line ∷ [] in
    let now = says gone going.says in
    let on = parted_on line rest goes in
    let volume : volume_of (line ∷ rest) ≡ line ∷ volume_of rest = ap (λ (p : List Reading × List (List Reading)). p.0) on in
    let fitted : misfit_after gone (line ∷ volume_of rest) ≡ option_map suc (misfit_after more (volume_of rest)) = misfit_on gone line (volume_of rest) (fit gone going.says) in
    let At : ℕ → Type 0 = λ n. IsSurplus after.surplus n room more (volume_of rest) (corner_at room (volume_of lines)) in
    let Known : Option ℕ → Type 0 = λ s. IsSurplus s (part.lines + 1) room more (volume_of rest) (corner_at room (volume_of lines)) in
    let Rest : List Reading → Type 0 = λ v. IsSurplus part.surplus part.lines room gone v (corner_at room (volume_of lines)) in
    let is_surplus : after.surplus ≡ (if (length (corners_in gone) == room) && nat_lt (length (corners_in gone)) (length (corners_in more)) then Some part.lines else part.surplus) =
    surplus ∙ ap (λ (n : ℕ). if (n == room) && nat_lt n after_count then Some part.lines else part.surplus) (corners gone going.says)
    ∙ ap (λ (n : ℕ). if (length (corners_in gone) == room) && nat_lt (length (corners_in gone)) n then Some part.lines else part.surplus) (corners_after more now) in
    record {
      gone = more;
      says = now;
      count = count ∙ omega (arith, going.count, length-append {A = Reading} gone (line ∷ []));
      volume = going.volume ∙ ap (λ (v : List Reading). gone ++ v) volume ∙ sym (append_assoc gone (line ∷ []) (volume_of rest));
      volumes = going.volumes ∙ ap (λ (p : List Reading × List (List Reading)). p.1) on;
      none_yet = misfit ∙ going.none_yet;
      misfit =
          going.misfit ∙ ap (λ (v : List Reading). option_map (λ (k : ℕ). part.lines + k) (misfit_after gone v)) volume
          ∙ ap (option_map (λ (k : ℕ). part.lines + k)) fitted ∙ one_more part.lines _
          ∙ ap (λ (n : ℕ). option_map (λ (k : ℕ). n + k) (misfit_after more (volume_of rest))) (sym count);
      surplus =
          subst At (sym count) (subst Known (sym is_surplus)
          (surplus_step part.surplus part.lines room gone line (volume_of rest) (corner_at room (volume_of lines)) (corner_of line) refl (subst Rest volume going.surplus)));
    }

surplus_done : (found : Option ℕ) (count room : ℕ) (gone : List Reading) (place : Option ℕ) → IsSurplus found count room gone [] place → place ≡ found
surplus_done None count room gone place told = told.1
surplus_done (Some at) count room gone place told = told.2

few_done : (found : Option ℕ) (count room : ℕ) (gone : List Reading) (place : Option ℕ) → found ≡ None → IsSurplus found count room gone [] place → length (corners_in gone) ≤ room
few_done None count room gone place none told = told.0
few_done (Some at) count room gone place none told = cc

-- all lines of the volume were gone over
pub going_ends : (text : List ℕ) (lines rest : List Reading) (room : ℕ) (part : Part) (behind : List (List Reading)) → parted rest ≡ ([], behind) → readings_of (drop part.next text) ≡ rest
    → IsGoing lines rest room part → Fits text lines room part
going_ends text lines rest room part behind ended left going =
    let none_left_over : volume_of rest ≡ [] = ap (λ (p : List Reading × List (List Reading)). p.0) ended in
    let all : volume_of lines ≡ going.gone = going.volume ∙ ap (λ (v : List Reading). going.gone ++ v) none_left_over ∙ append-nil going.gone in
    let Surplus : List Reading → Type 0 = λ v. IsSurplus part.surplus part.lines room going.gone v (corner_at room (volume_of lines)) in
    let others : (parted lines).1 ≡ behind = going.volumes ∙ ap (λ (p : List Reading × List (List Reading)). p.1) ended in
    record {
      says = subst (λ (v : List Reading). Says part.draft v) (sym all) going.says;
      count = going.count ∙ ap (λ (v : List Reading). length v) (sym all);
      all_fit = going.misfit ∙ ap (λ (v : List Reading). option_map (λ (k : ℕ). part.lines + k) (misfit_after going.gone v)) none_left_over;
      surplus = surplus_done part.surplus part.lines room going.gone (corner_at room (volume_of lines)) (subst Surplus none_left_over going.surplus);
      few = λ none. subst (λ (v : List Reading). length (corners_in v) ≤ room) (sym all)
          (few_done part.surplus part.lines room going.gone (corner_at room (volume_of lines)) none (subst Surplus none_left_over going.surplus));
      behind = ap parted left ∙ ended ∙ ap (λ (b : List (List Reading)). ([], b)) (sym others);
    }

-- the lines of a text from a place on, as they read, where one line stands there
pub readings_on : (text line : List ℕ) (at next : ℕ) → lines_of (drop at text) ≡ line ∷ lines_of (drop next text) → readings_of (drop at text) ≡ reading_of line ∷ readings_of (drop next text)
readings_on text line at next on = ap (map reading_of) on

pub goes_over : (text : List ℕ) (lines : List Reading) (room : ℕ) (part : Part) → part.next ≤ length text → part.misfit ≡ None → Fits text lines room part → GoesOver text lines room part
goes_over text lines room part within none fit = record {
  within = within;
  result = subst (λ (o : Option ℕ). MatchOption o (Fits text lines room part) (Misfits lines room part)) (sym none) fit;
}

-- another draft that says the same
pub same_going : (lines rest : List Reading) (room : ℕ) (part after : Part) → ((gone : List Reading) → Says part.draft gone → Says after.draft gone) → after.lines ≡ part.lines
    → after.misfit ≡ part.misfit → after.surplus ≡ part.surplus
    → IsGoing lines rest room part → IsGoing lines rest room after
same_going lines rest room part after says count misfit surplus going =
    let At : ℕ → Type 0 = λ n. IsSurplus after.surplus n room going.gone (volume_of rest) (corner_at room (volume_of lines)) in
    let Known : Option ℕ → Type 0 = λ s. IsSurplus s part.lines room going.gone (volume_of rest) (corner_at room (volume_of lines)) in
    record {
      gone = going.gone;
      says = says going.gone going.says;
      count = count ∙ going.count;
      volume = going.volume;
      volumes = going.volumes;
      none_yet = misfit ∙ going.none_yet;
      misfit = going.misfit ∙ ap (λ (n : ℕ). option_map (λ (k : ℕ). n + k) (misfit_after going.gone (volume_of rest))) (sym count);
      surplus = subst At (sym count) (subst Known (sym surplus) going.surplus);
    }

-- the next volume begins, so the lines of this one were gone over
pub over_at_next : (text line : List ℕ) (lines : List Reading) (room next : ℕ) (part : Part) → part.next ≤ length text → lines_of (drop part.next text) ≡ line ∷ lines_of (drop next text)
    → begins (reading_of line) ≡ true
    → IsGoing lines (readings_of (drop part.next text)) room part → GoesOver text lines room part
over_at_next text line lines room next part within on begun going =
    goes_over text lines room part within going.none_yet
    (going_ends text lines (readings_of (drop part.next text)) room part _ (ap parted (readings_on text line part.next next on)
    ∙ parted_at (reading_of line) (readings_of (drop next text)) begun) refl going)

-- a draft has as many corners as its lines say
pub corners_said : (draft : Draft) (gone : List Reading) → Says draft gone → vec_len draft.corners ≡ length (corners_in gone)
corners_said draft gone says =
    let same : vec_len draft.corners ≡ length draft.corners.items = search rules in
    same ∙ sym (length-map draft.corners.items place_of) ∙ ap (λ (xs : List (ℤ × ℤ)). length xs) says.corners
