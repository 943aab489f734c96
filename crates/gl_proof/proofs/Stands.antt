-- Words that stay where they stand while others are written before them.
use Rattle.std.proofs.Common.{rules, inl, inr, true, eqb, ◌&&◌, ◌≡◌, ◌≢◌, ◌∙◌, sym, ap, subst, ℕ, ◌+◌, ◌-◌, ◌<◌, ◌≤◌, List, [], ◌∷◌, ◌++◌, length, get_or, drop, map, slice_set, arith, append_assoc}
use Rattle.std.proofs.Props.{props}
use Rattle.std.proofs.lemmas.Bool.{and_parts, cases_eq, eqb-true}
use Rattle.std.proofs.lemmas.List.{drop-drop, drop_at, drop_all, drop_more, get_or-set_same, get_or-set_other, get_or_default, length-append, length-drop, set-get_or}
use Rattle.std.proofs.lemmas.List.Elements.{All-cons}
use Rattle.std.specs.Prelude.{All}
use mathlib.Core.HLevel.{is_prop→PathP}
use Rattle.gl_box.specs.declared.span.Span.{Span}
use Rattle.gl_box.specs.Cell.{ends}
use Rattle.gl_proof.specs.Words.{IsSpan, spaced, span_word}
use Rattle.gl_proof.specs.Code.Standing.{AreInOrder, StandAt, StandFrom}

-- what stands behind a place is the same after a word was written before it
pub kept_behind : (old new word : List ℕ) (at end s : ℕ) → drop at new ≡ word ++ drop end old → length new ≡ length old → at ≤ end → end ≤ length old → end ≤ s → drop s new ≡ drop s old
kept_behind old new word at end s is same before within behind =
    let lengths : length new - at ≡ length word + (length old - end) = omega (arith, ap length is, length-append word (drop end old), length-drop at new, length-drop end old) in
    let word_long : length word ≡ end - at = omega arith in
    let new_end : drop end new ≡ drop end old =
    ap (λ (n : ℕ). drop n new) (let n : end ≡ at + (end - at) = omega arith in n)
    ∙ sym (drop-drop (end - at) at new) ∙ ap (drop (end - at)) is ∙ drop_at word (drop end old) (end - at) word_long in
    let far : s ≡ end + (s - end) = omega arith in
    ap (λ (n : ℕ). drop n new) far ∙ sym (drop-drop (s - end) end new) ∙ ap (drop (s - end)) new_end ∙ drop-drop (s - end) end old
    ∙ ap (λ (n : ℕ). drop n old) (sym far)

-- the words of an axis stay there
stays : (old new : List ℕ) (spans : List Span) (k start : ℕ) → length new ≡ length old → drop start new ≡ drop start old → StandAt old spans k start → StandAt new spans k start
stays old new spans k start same is at = record {
  each = at.each;
  room = at.room;
  within = omega (arith, at.within);
  words = is ∙ at.words;
}

-- words that stand from some axis on stay there
pub stand_kept : (old new word starts : List ℕ) (spans : List Span) (first at end : ℕ) → StandFrom old starts spans first → AreInOrder starts first (length spans) → first ≤ length spans
    → drop at new ≡ word ++ drop end old → length new ≡ length old → at ≤ end → end ≡ get_or starts first 0 → StandFrom new starts spans first
stand_kept old new word starts spans first at end stand order some is same before start k behind last =
    let here = stand first (omega arith) some in
    let later : get_or starts first 0 ≤ get_or starts k 0 = order first k (omega arith) behind last in
    stays old new spans k (get_or starts k 0) same (kept_behind old new word at end (get_or starts k 0) is same before (omega (arith, here.within, start)) (omega arith)) (stand k behind last)

-- what holds at an axis and at those behind it holds from it on
from_here : (P : ℕ → Type 0) (k next last : ℕ) → next ≡ k + 1 → P k → ((j : ℕ) → next ≤ j → j ≤ last → P j) → (j : ℕ) → k ≤ j → j ≤ last → P j
from_here P k next last one here behind j from within = elim (cases_eq j k) as (λ _. P j) [
  | inl equal ↦ subst P (sym equal) here
  | inr other ↦ behind j (omega arith) within
]

-- one axis more
pub stand_more : (old new starts : List ℕ) (spans : List Span) (k next at end : ℕ) (span : Span) → next ≡ k + 1 → StandFrom old starts spans next → AreInOrder starts next (length spans)
    → k < length spans → k < length starts → span ≡ get_or spans k span → IsSpan (ends span) → drop at new ≡ 32 ∷ (span_word (ends span) ++ drop end old) → length new ≡ length old → at ≤ end
    → end ≤ at + 22 → end ≡ get_or starts next 0 → StandFrom new (slice_set starts k at) spans k
stand_more old new starts spans k next at end span one stand order inside room read is_span is same before most start =
    let behind = stand next (omega arith) (omega arith) in
    let front : drop k spans ≡ span ∷ drop next spans =
    drop_more spans k span inside ∙ ap (λ (x : Span). x ∷ drop (k + 1) spans) (sym read) ∙ ap (λ (n : ℕ). span ∷ drop n spans) (sym one) in
    let old_words : drop end old ≡ spaced (map span_word (map ends (drop next spans))) ++ 10 ∷ [] = ap (λ (n : ℕ). drop n old) start ∙ behind.words in
    let rest = spaced (map span_word (map ends (drop next spans))) in
    let here : StandAt new spans k at = record {
      each = subst (λ (xs : List Span). All IsSpan (map ends xs)) (sym front) (All-cons IsSpan (ends span) (map ends (drop next spans)) is_span behind.each);
      room = omega (arith, behind.room, start);
      within = omega (arith, behind.within, start);
      words = is
          ∙ ap (λ (l : List ℕ). 32 ∷ (span_word (ends span) ++ l)) old_words
          ∙ ap (λ (l : List ℕ). 32 ∷ l) (sym (append_assoc (span_word (ends span)) rest (10 ∷ [])))
          ∙ ap (λ (xs : List Span). spaced (map span_word (map ends xs)) ++ 10 ∷ []) (sym front);
    } in
    let others = stand_kept old new (32 ∷ span_word (ends span)) starts spans next at end stand order (omega arith) is same before start in
    from_here (λ j. StandAt new spans j (get_or (slice_set starts k at) j 0)) k next (length spans) one
    (subst (StandAt new spans k) (sym (get_or-set_same starts k at 0 room)) here)
    (λ j from last. let other : j ≢ k = omega arith in subst (StandAt new spans j) (sym (get_or-set_other starts k j at 0 other)) (others j from last))

-- the place before the words of one axis more comes before the others
pub order_more : (starts : List ℕ) (k next at end last : ℕ) → next ≡ k + 1 → AreInOrder starts next last → k < length starts → k < last → at ≤ end → end ≡ get_or starts next 0
    → AreInOrder (slice_set starts k at) k last
order_more starts k next at end last one order room below before start i j from behind within =
    let first : get_or (slice_set starts k at) k 0 ≡ at = get_or-set_same starts k at 0 room in
    let others : (n : ℕ) → k < n → get_or (slice_set starts k at) n 0 ≡ get_or starts n 0 = λ n above. let other : n ≢ k = omega arith in get_or-set_other starts k n at 0 other in
    let after : ℕ → ℕ = λ n. get_or (slice_set starts k at) n 0 in
    let later : (n : ℕ) → next ≤ n → n ≤ last → at ≤ after n = λ n from_n within_n. omega (arith, others n (omega arith), order next n (omega arith) from_n within_n, start) in
    let from_first : (n : ℕ) → k ≤ n → n ≤ last → after k ≤ after n =
    from_here (λ n. after k ≤ after n) k next last one (omega arith) (λ n from_n within_n. omega (arith, first, later n from_n within_n)) in
    from_here (λ n. n ≤ j → after n ≤ after j) k next last one (λ here. from_first j here within)
    (λ n from_n within_n behind_n. omega (arith, others n (omega arith), others j (omega arith), order n j from_n behind_n within)) i from (omega arith) behind

-- the last place is that of LF
pub last_place : (bytes starts : List ℕ) (spans : List Span) → StandFrom bytes starts spans 0 → length bytes ≡ 226 → get_or starts (length spans) 0 ≡ 225
last_place bytes starts spans stand room =
    let here = stand (length spans) (omega arith) (omega arith) in
    let none : drop (length spans) spans ≡ [] = drop_all (length spans) spans (omega arith) in
    let only : drop (get_or starts (length spans) 0) bytes ≡ 10 ∷ [] = here.words ∙ ap (λ (xs : List Span). spaced (map span_word (map ends xs)) ++ 10 ∷ []) none in
    omega (arith, ap length only, length-drop (get_or starts (length spans) 0) bytes, here.within, room)

-- what stands there
pub ends_there : (bytes starts : List ℕ) (spans : List Span) → StandFrom bytes starts spans 0 → length bytes ≡ 226 → drop 225 bytes ≡ 10 ∷ []
ends_there bytes starts spans stand room =
    let here = stand (length spans) (omega arith) (omega arith) in
    let none : drop (length spans) spans ≡ [] = drop_all (length spans) spans (omega arith) in
    ap (λ (n : ℕ). drop n bytes) (sym (last_place bytes starts spans stand room)) ∙ here.words ∙ ap (λ (xs : List Span). spaced (map span_word (map ends xs)) ++ 10 ∷ []) none

-- where there are as many spans, the place of LF is noted already
pub noted : (bytes starts : List ℕ) (had : List Span) (axes : ℕ) → StandFrom bytes starts had 0 → length bytes ≡ 226 → length had ≡ axes → slice_set starts axes 225 ≡ starts
noted bytes starts had axes stand room long =
    let place : 225 ≡ get_or starts axes 0 = sym (last_place bytes starts had stand room) ∙ ap (λ (n : ℕ). get_or starts n 0) long in
    ap (slice_set starts axes) place ∙ set-get_or starts axes 0

-- the words of the last spans stand where these are the same as others
pub same_stand : (bytes starts : List ℕ) (had spans : List Span) (first : ℕ) → StandFrom bytes starts had 0 → length had ≡ length spans → drop first had ≡ drop first spans
    → StandFrom bytes starts spans first
same_stand bytes starts had spans first stand long same k behind last =
    let at = stand k (omega arith) (omega arith) in
    let far : k ≡ first + (k - first) = omega arith in
    let rest : drop k had ≡ drop k spans =
    ap (λ (n : ℕ). drop n had) far ∙ sym (drop-drop (k - first) first had) ∙ ap (drop (k - first)) same ∙ drop-drop (k - first) first spans ∙ ap (λ (n : ℕ). drop n spans) (sym far) in
    record {
      each = subst (λ (xs : List Span). All IsSpan (map ends xs)) rest at.each;
      room = at.room;
      within = at.within;
      words = at.words ∙ ap (λ (xs : List Span). spaced (map span_word (map ends xs)) ++ 10 ∷ []) rest;
    }

-- where there are others, LF alone stands
pub none_stand : (bytes starts : List ℕ) (had spans : List Span) → StandFrom bytes starts had 0 → length bytes ≡ 226 → length spans ≤ 10 → length spans < length starts
    → StandFrom bytes (slice_set starts (length spans) 225) spans (length spans)
none_stand bytes starts had spans stand room ten inside k behind last =
    let equal : k ≡ length spans = omega arith in
    let none : drop (length spans) spans ≡ [] = drop_all (length spans) spans (omega arith) in
    let here : StandAt bytes spans (length spans) 225 = record {
      each = subst (λ (xs : List Span). All IsSpan (map ends xs)) (sym none) (search rules);
      room = omega arith;
      within = omega arith;
      words = ends_there bytes starts had stand room ∙ ap (λ (xs : List Span). spaced (map span_word (map ends xs)) ++ 10 ∷ []) (sym none);
    } in
    subst (λ (n : ℕ). StandAt bytes spans n (get_or (slice_set starts (length spans) 225) n 0)) (sym equal)
    (subst (StandAt bytes spans (length spans)) (sym (get_or-set_same starts (length spans) 225 0 inside)) here)

-- a single place is in order
pub one_in_order : (starts : List ℕ) (axes : ℕ) → AreInOrder starts axes axes
one_in_order starts axes j k from behind last = let equal : j ≡ k = omega arith in omega (arith, ap (λ (n : ℕ). get_or starts n 0) equal)

-- spans with the same ends are the same
same_ends : (x y : Span) → x.lo ≡ y.lo → x.hi ≡ y.hi → x ≡ y
same_ends x y lo hi = λ i. record { lo = lo i; hi = hi i; ordered = is_prop→PathP (λ j. lo j ≤ hi j) (λ j. hlevel props) x.ordered y.ordered i }

-- as the test says it
pub equal_spans : (x y : Span) → (eqb x.lo y.lo && eqb x.hi y.hi) ≡ true → x ≡ y
equal_spans x y same = let both = and_parts (eqb x.lo y.lo) (eqb x.hi y.hi) same in same_ends x y (eqb-true x.lo y.lo both.0) (eqb-true x.hi y.hi both.1)

-- the same spans from one axis before on
pub same_more : (xs ys : List Span) (k : ℕ) (x y : Span) → 0 < k → k ≤ length xs → length xs ≡ length ys → x ≡ get_or xs (k - 1) x → y ≡ get_or ys (k - 1) y → x ≡ y → drop k xs ≡ drop k ys
    → drop (k - 1) xs ≡ drop (k - 1) ys
same_more xs ys k x y some within long is_x is_y equal same =
    let one : (k - 1) + 1 ≡ k = omega arith in
    drop_more xs (k - 1) x (omega arith)
    ∙ ap (λ (z : Span). z ∷ drop ((k - 1) + 1) xs) (sym is_x ∙ equal ∙ is_y ∙ get_or_default ys (k - 1) y x (omega arith))
    ∙ ap (λ (l : List Span). get_or ys (k - 1) x ∷ l) (ap (λ (n : ℕ). drop n xs) one ∙ same ∙ ap (λ (n : ℕ). drop n ys) (sym one))
    ∙ sym (drop_more ys (k - 1) x (omega arith))
