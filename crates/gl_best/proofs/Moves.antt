-- Each step keeps what holds of the best word and its seats.
use Rattle.std.proofs.Common.{◌≡◌, ◌≢◌, ◌⊎◌, ℕ, zero, suc, ◌<◌, ◌≤◌, max, Bool, true, false, List, [], ◌∷◌, ◌++◌, length, set, refl, sym, ap, ◌∙◌, subst, inl, inr, ⊎_elim, arith}
use Rattle.std.specs.Prelude.{slice_index, slice_set, nat_lt}
use Rattle.std.proofs.lemmas.Bool.{ltb-true}
use mathlib.Core.Option.{some, some-ne-none, some-injective}
use mathlib.Core.Logic.{dite}
use native.Mathlib.Decide.{dec_le, ℕ_discrete}
use lib.ListN.{get_elem?}
use Rattle.atomic_table.proofs.Lists.{at_set, at_snoc, at_longer, set_here, set_else}
use Rattle.gl_best.specs.declared.rule.View.{View}
use Rattle.gl_best.specs.Rule.{IsHeard, IsKept, IsRaised, once, times, times_in}
use Rattle.gl_best.specs.Code.Steps.{Looked, Raised, spent}
use Rattle.gl_best.specs.Steps.{both_of, given_of, greatest, kept_of, without}
use Rattle.gl_best.proofs.Numbers.{times-append, times-greatest, times-without, times_in-append, times_in-set, times_in-one, times_in-two, none_stand, without-some}

there_is_below : (views : List View) (seat : ℕ) (view : View) → get_elem? views seat ≡ some view → seat < length views
there_is_below [] seat view at = absurd (some-ne-none view (sym at))
there_is_below (first ∷ views) zero view at = omega arith
there_is_below (first ∷ views) (suc seat) view at = omega (arith, there_is_below views seat view at)

-- what was heard of a word is heard of one that is no less
heard_more : (word new : ℕ) (view : View) → word ≤ new → IsHeard word view → IsHeard new view
heard_more word new view less heard = record { raised = heard.raised; seen = omega (arith, heard.seen); idle = heard.idle }

heard_set : (word new : ℕ) (views : List View) (by : ℕ) (after : View) → word ≤ new → ((seat : ℕ) (view : View) → get_elem? views seat ≡ some view → IsHeard word view) → IsHeard new after
    → (seat : ℕ) (view : View) → get_elem? (set views by after) seat ≡ some view → IsHeard new view
heard_set word new views by after less heard mine seat view at =
    ⊎_elim
    (λ (it : (seat ≡ by) × (after ≡ view)). subst (IsHeard new) it.1 mine)
    (λ (it : (seat ≢ by) × (get_elem? views seat ≡ some view)). heard_more word new view less (heard seat view it.1))
    (at_set views by seat after view at)

-- who raised the word still has, after a view changed that raised no other
raised_set : (word : ℕ) (views : List View) (by : ℕ) (before after : View) → get_elem? views by ≡ some before → (before.raised ≡ word → after.raised ≡ word) → IsRaised word views
    → IsRaised word (set views by after)
raised_set word views by before after at same raised =
    dite (ℕ_discrete raised.seat by)
    (λ is.
    let there : get_elem? views by ≡ some raised.view = subst (λ (it : ℕ). get_elem? views it ≡ some raised.view) is raised.there in
    let view : before ≡ raised.view = some-injective before raised.view (sym at ∙ there) in
    record { seat = by; view = after; there = set_here views by after (there_is_below views by before at); raised = same (ap (λ (it : View). it.raised) view ∙ raised.raised) })
    (λ isnt. record { seat = raised.seat; view = raised.view; there = set_else views by raised.seat after isnt ∙ raised.there; raised = raised.raised })

-- what holds once a word was written, from what holds of the word
kept_with : (words : List ℕ) (word : ℕ) (views : List View) → length words ≡ 1 → ((seat : ℕ) (view : View) → get_elem? views seat ≡ some view → IsHeard word view) → (word ≡ 0) ⊎ IsRaised word views
    → ((number : ℕ) → times_in number views ≡ once (nat_lt number 16)) → IsKept (slice_set words 0 word) views
kept_with [] word views one heard raised numbers = absurd (omega arith)
kept_with (first ∷ words) word views one heard raised numbers = record { one = one; heard = heard; raised = raised; numbers = numbers }

-- the numbers of all seats after a view changed that kept its numbers
same_numbers : (views : List View) (by : ℕ) (before after : View) → get_elem? views by ≡ some before → before.numbers ≡ after.numbers → ((number : ℕ) → times_in number views ≡ once (nat_lt number 16))
    → (number : ℕ) → times_in number (set views by after) ≡ once (nat_lt number 16)
same_numbers views by before after at same numbers number =
    let equal : times number before.numbers ≡ times number after.numbers = ap (times number) same in
    omega (arith, times_in-set number views by before after at, numbers number, equal)

not_empty : (numbers : List ℕ) → 0 < length numbers → numbers ≡ [] → ⊥
not_empty numbers some_ none = omega (arith, ap (λ (it : List ℕ). length it) none)

pub looks : (words : List ℕ) (views : List View) (by : ℕ) (before : View) → 0 < length before.numbers → IsKept words views → get_elem? views by ≡ some before
    → (after : View) × IsKept (slice_set words 0 (slice_index words 0)) (slice_set views by after) × Looked before (slice_index words 0) after
looks words views by before some_ kept at =
    let found = slice_index words 0 in
    let after : View = record { seen = found; raised = before.raised; numbers = before.numbers } in
    let heard = kept.heard by before at in
    let mine : IsHeard found after = record { raised = omega (arith, heard.raised, heard.seen); seen = omega arith; idle = λ none. absurd (not_empty before.numbers some_ none) } in
    let raised : (found ≡ 0) ⊎ IsRaised found (set views by after) =
    ⊎_elim (λ (zero_ : found ≡ 0). inl zero_) (λ (it : IsRaised found views). inr (raised_set found views by before after at (λ same. same) it)) kept.raised in (
      after,
      kept_with words found (set views by after) kept.one (heard_set found found views by after (omega arith) kept.heard mine) raised (same_numbers views by before after at refl kept.numbers),
      (heard.seen, refl),
    )

pub raises : (words : List ℕ) (views : List View) (by number : ℕ) (before : View) → 0 < length before.numbers → IsKept words views → get_elem? views by ≡ some before
    → (after : View) × IsKept (slice_set words 0 (max (slice_index words 0) number)) (slice_set views by after) × Raised number before (slice_index words 0) after
raises words views by number before some_ kept at =
    let found = slice_index words 0 in
    let word = max found number in
    let after : View = record { seen = word; raised = max before.raised number; numbers = before.numbers } in
    let heard = kept.heard by before at in
    let mine : IsHeard word after = record { raised = omega (arith, heard.raised, heard.seen); seen = omega arith; idle = λ none. absurd (not_empty before.numbers some_ none) } in
    let here : get_elem? (set views by after) by ≡ some after = set_here views by after (there_is_below views by before at) in
    let raised : (word ≡ 0) ⊎ IsRaised word (set views by after) =
    dite (dec_le number found)
    (λ less. ⊎_elim
    (λ (zero_ : found ≡ 0). inl (omega arith))
    (λ (it : IsRaised found views). let same : found ≡ word = omega arith in
    inr (subst (λ (it : ℕ). IsRaised it (set views by after)) same (raised_set found views by before after at (λ is. omega arith) it)))
    kept.raised)
    (λ more. inr record { seat = by; view = after; there = here; raised = omega (arith, heard.raised, heard.seen) }) in (
      after,
      kept_with words word (set views by after) kept.one (heard_set found word views by after (omega arith) kept.heard mine) raised (same_numbers views by before after at refl kept.numbers),
      (heard.seen, refl),
    )

pub shares : (words : List ℕ) (views : List View) (by : ℕ) (before : View) → 2 ≤ length before.numbers → IsKept words views → get_elem? views by ≡ some before
    → IsKept words (slice_set views by (kept_of before) ++ given_of before ∷ [])
shares words views by before two kept at =
    let word = slice_index words 0 in
    let left = kept_of before in
    let right = given_of before in
    let heard = kept.heard by before at in
    let mine : IsHeard word left = record { raised = heard.raised; seen = heard.seen; idle = λ none. absurd (without-some (greatest before.numbers) before.numbers two none) } in
    let new : IsHeard word right = record { raised = omega arith; seen = heard.seen; idle = λ none. absurd (not_empty (greatest before.numbers ∷ []) (omega arith) none) } in
    record {
      one = kept.one;
      heard = λ seat view there. ⊎_elim
          (λ (it : get_elem? (set views by left) seat ≡ some view). heard_set word word views by left (omega arith) kept.heard mine seat view it)
          (λ (it : right ≡ view). subst (IsHeard word) it new)
          (at_snoc (set views by left) right view seat there);
      raised = ⊎_elim
          (λ (zero_ : word ≡ 0). inl zero_)
          (λ (it : IsRaised word views). let one = raised_set word views by before left at (λ same. same) it in
          inr record { seat = one.seat; view = one.view; there = at_longer (set views by left) (right ∷ []) one.seat one.view one.there; raised = one.raised })
          kept.raised;
      numbers = λ number. omega (
        arith,
        times_in-append number (set views by left) right,
        times_in-set number views by before left at,
        times-without number (greatest before.numbers) before.numbers (times-greatest before.numbers (omega arith)),
        kept.numbers number,
      );
    }

both_empty : (one other : List ℕ) → one ++ other ≡ [] → (one ≡ []) × (other ≡ [])
both_empty [] other none = (refl, none)
both_empty (number ∷ one) other none = absurd (cc)

pub gathers : (words : List ℕ) (views : List View) (by other : ℕ) (before another : View) → IsKept words views → get_elem? views by ≡ some before → (other ≡ by → ⊥)
    → get_elem? (slice_set views by (both_of before another)) other ≡ some another → IsKept words (slice_set (slice_set views by (both_of before another)) other spent)
gathers words views by other before another kept at apart there =
    let word = slice_index words 0 in
    let both = both_of before another in
    let joined = set views by both in
    let was : get_elem? views other ≡ some another = sym (set_else views by other both apart) ∙ there in
    let heard = kept.heard by before at in
    let told = kept.heard other another was in
    let mine : IsHeard word both = record {
      raised = omega (arith, heard.raised, told.raised);
      seen = omega (arith, heard.seen, told.seen);
      idle = λ none. let empty = both_empty before.numbers another.numbers none in omega (arith, heard.idle empty.0, told.idle empty.1);
    } in
    let nothing : IsHeard word spent = record { raised = omega arith; seen = omega arith; idle = λ none. refl } in
    let here : get_elem? (set joined other spent) by ≡ some both = set_else joined other by spent (λ is. apart (sym is)) ∙ set_here views by both (there_is_below views by before at) in
    record {
      one = kept.one;
      heard = heard_set word word joined other spent (omega arith) (heard_set word word views by both (omega arith) kept.heard mine) nothing;
      raised = ⊎_elim
          (λ (zero_ : word ≡ 0). inl zero_)
          (λ (it : IsRaised word views). dite (ℕ_discrete it.seat by)
          (λ is. let same : before ≡ it.view = some-injective before it.view (sym at ∙ subst (λ (k : ℕ). get_elem? views k ≡ some it.view) is it.there) in
          let raised : before.raised ≡ word = ap (λ (v : View). v.raised) same ∙ it.raised in
          inr record { seat = by; view = both; there = here; raised = omega (arith, raised, told.raised, told.seen) })
          (λ isnt. dite (ℕ_discrete it.seat other)
          (λ is. let same : another ≡ it.view = some-injective another it.view (sym was ∙ subst (λ (k : ℕ). get_elem? views k ≡ some it.view) is it.there) in
          let raised : another.raised ≡ word = ap (λ (v : View). v.raised) same ∙ it.raised in
          inr record { seat = by; view = both; there = here; raised = omega (arith, raised, heard.raised, heard.seen) })
          (λ isnt_other. inr record { seat = it.seat; view = it.view; there = set_else joined other it.seat spent isnt_other ∙ set_else views by it.seat both isnt ∙ it.there; raised = it.raised })))
          kept.raised;
      numbers = λ number. omega (
        arith,
        times_in-set number joined other another spent there,
        times_in-set number views by before both at,
        times-append number before.numbers another.numbers,
        kept.numbers number,
      );
    }

-- beside a seat with all numbers no other has one
no_other : (words : List ℕ) (views : List View) (by other : ℕ) (view another : View) → IsKept words views → get_elem? views by ≡ some view → other ≢ by → get_elem? views other ≡ some another
    → ((number : ℕ) → number < 16 → 0 < times number view.numbers) → (number : ℕ) → times number another.numbers ≡ 0
no_other words views by other view another kept at apart there all number = by_number (nat_lt number 16) refl
  where
    by_number : (is : Bool) → nat_lt number 16 ≡ is → times number another.numbers ≡ 0
    by_number true is = omega (arith, times_in-two number views other by another view apart there at, kept.numbers number, ap once is, all number (ltb-true number 16 is))
    by_number false is = omega (arith, times_in-one number views other another there, kept.numbers number, ap once is)

pub closes : (words : List ℕ) (views : List View) (by : ℕ) (view : View) → IsKept words views → get_elem? views by ≡ some view → ((number : ℕ) → number < 16 → 0 < times number view.numbers)
    → slice_index words 0 ≡ view.raised
closes words views by view kept at all =
    let heard = kept.heard by view at in
    ⊎_elim
    (λ (zero_ : slice_index words 0 ≡ 0). omega (arith, heard.raised, heard.seen))
    (λ (it : IsRaised (slice_index words 0) views). dite (ℕ_discrete it.seat by)
    (λ is. let same : view ≡ it.view = some-injective view it.view (sym at ∙ subst (λ (k : ℕ). get_elem? views k ≡ some it.view) is it.there) in
    sym (ap (λ (v : View). v.raised) same ∙ it.raised))
    (λ isnt. let other = kept.heard it.seat it.view it.there in
    let idle : it.view.seen ≡ 0 = other.idle (none_stand it.view.numbers (no_other words views by it.seat view it.view kept at isnt it.there all)) in
    omega (arith, idle, other.raised, it.raised, heard.raised, heard.seen)))
    kept.raised

-- a seat's numbers after sharing, and after taking another in
pub some_kept : (gone : ℕ) (numbers : List ℕ) → 2 ≤ length numbers → 0 < length (without gone numbers)
some_kept gone numbers two = by_length (without gone numbers) (without-some gone numbers two)
  where
    by_length : (left : List ℕ) → (left ≡ [] → ⊥) → 0 < length left
    by_length [] none = absurd (none refl)
    by_length (number ∷ left) none = omega arith

pub first_word : (words items : List ℕ) (word : ℕ) → words ≡ items → get_elem? items 0 ≡ some word → slice_index words 0 ≡ word
first_word words [] word same at = absurd (some-ne-none word (sym at))
first_word words (first ∷ items) word same at = ap (λ (it : List ℕ). slice_index it 0) same ∙ some-injective first word at
