-- The first line of what is left of a text.
use Rattle.std.proofs.Common.{◌≡◌, ◌≢◌, ℕ, suc, ◌+◌, ◌-◌, ◌<◌, ◌≤◌, false, eqb, List, [], ◌∷◌, ◌++◌, map, length, get_or, drop, slice_range, sym, refl, ap, ◌∙◌, arith, inl, inr, take-append-drop, drop-drop, length-take, get_or-drop, get_or-take, subst, append_assoc}
use Rattle.std.specs.Str.Lines.{strip_carriage_return}
use Rattle.std.proofs.lemmas.List.{drop_more, drop_all, take_rest}
use Rattle.std.proofs.lemmas.Bool.Decides.{nat_tests}
use Rattle.std.proofs.lemmas.Bool.{cases_lt}
use Rattle.gl_text.specs.Lines.{pieces_of, lines_of}

-- no item of a list is an LF
abbrev pub HasNoFeed : List ℕ → Type 0
HasNoFeed xs = (k : ℕ) → k < length xs → get_or xs k 0 ≢ 10

no_feed_tail : (x : ℕ) (xs : List ℕ) → HasNoFeed (x ∷ xs) → HasNoFeed xs
no_feed_tail x xs h = λ k below. h (suc k) (omega arith)

not_feed : (x : ℕ) (xs : List ℕ) → HasNoFeed (x ∷ xs) → eqb x 10 ≡ false
not_feed x xs h = let apart : x ≢ 10 = h 0 (omega arith) in grind (arith, nat_tests)

-- a piece that an LF ends is the first one
pub pieces_of-ended : (xs rest : List ℕ) → HasNoFeed xs → pieces_of (xs ++ 10 ∷ rest) ≡ xs ∷ pieces_of rest
pieces_of-ended [] rest h = refl
pieces_of-ended (x ∷ xs) rest h =
    rw (not_feed x xs h, pieces_of-ended xs rest (no_feed_tail x xs h))

-- a last piece without LF
pub pieces_of-last : (x : ℕ) (xs : List ℕ) → HasNoFeed (x ∷ xs) → pieces_of (x ∷ xs) ≡ (x ∷ xs) ∷ []
pieces_of-last x [] h = rw (not_feed x [] h)
pieces_of-last x (y ∷ xs) h =
    rw (not_feed x (y ∷ xs) h, pieces_of-last y xs (no_feed_tail x (y ∷ xs) h))

-- `end` is the first LF of a text from a place on, or the text's end
pub record IsEnd (text : List ℕ) (at end : ℕ) : Type 0 where
  pub after : at ≤ end
  pub within : end ≤ length text
  pub inside : (k : ℕ) → at ≤ k → k < end → get_or text k 0 ≢ 10

no_feed_between : (text : List ℕ) (at end : ℕ) → IsEnd text at end → HasNoFeed (slice_range text at end)
no_feed_between text at end h = λ k below.
    let short : k < end - at = omega (arith, length-take (end - at) (drop at text)) in
    let apart = h.inside (at + k) (omega arith) (omega arith) in
    rw (get_or-take, get_or-drop) apart

split_at_feed : (text : List ℕ) (at end : ℕ) → IsEnd text at end → end < length text → get_or text end 0 ≡ 10 → drop at text ≡ slice_range text at end ++ 10 ∷ drop (end + 1) text
split_at_feed text at end h more feed =
    let there : at + (end - at) ≡ end = omega (arith, h.after) in
    let rest : drop (end - at) (drop at text) ≡ 10 ∷ drop (end + 1) text =
    drop-drop (end - at) at text ∙ ap (λ (k : ℕ). drop k text) there ∙ drop_more text end 0 more ∙ ap (λ (b : ℕ). b ∷ drop (end + 1) text) feed in
    sym (take-append-drop (end - at) (drop at text)) ∙ ap (λ (r : List ℕ). slice_range text at end ++ r) rest

pieces_of-drop_ended : (text : List ℕ) (at end : ℕ) → IsEnd text at end → end < length text → get_or text end 0 ≡ 10
    → pieces_of (drop at text) ≡ slice_range text at end ∷ pieces_of (drop (end + 1) text)
pieces_of-drop_ended text at end h more feed =
    ap pieces_of (split_at_feed text at end h more feed) ∙ pieces_of-ended (slice_range text at end) (drop (end + 1) text) (no_feed_between text at end h)

pieces_of-drop_last : (text : List ℕ) (at : ℕ) → IsEnd text at (length text) → at < length text → pieces_of (drop at text) ≡ slice_range text at (length text) ∷ []
pieces_of-drop_last text at h more =
    let cons = drop_more text at 0 more in
    let whole : slice_range text at (length text) ≡ get_or text at 0 ∷ drop (at + 1) text = take_rest text at ∙ cons in
    let clean = subst HasNoFeed whole (no_feed_between text at (length text) h) in
    ap pieces_of cons ∙ pieces_of-last (get_or text at 0) (drop (at + 1) text) clean ∙ ap (λ (p : List ℕ). p ∷ []) (sym whole)

-- `next` is just past the LF at `end`, or the text's end
pub record IsNext (text : List ℕ) (end next : ℕ) : Type 0 where
  pub feed : end < length text → get_or text end 0 ≡ 10
  pub past : end < length text → next ≡ end + 1
  pub last : length text ≤ end → next ≡ end

pieces_of-drop : (text : List ℕ) (at end next : ℕ) → IsEnd text at end → IsNext text end next → at < length text → pieces_of (drop at text) ≡ slice_range text at end ∷ pieces_of (drop next text)
pieces_of-drop text at end next h n more =
    elim (cases_lt end (length text)) [
      | inl below ↦ rw (n.past below) (pieces_of-drop_ended text at end h below (n.feed below))
      | inr over ↦
          let e : length text ≡ end = omega (arith, h.within) in
          let none : drop next text ≡ [] = drop_all next text (omega (arith, n.last over)) in
          rw (none, ← e) (pieces_of-drop_last text at (rw e h) more)
    ]

-- the line of a text, and those behind it
pub next_of_lines : (text : List ℕ) (at end next to : ℕ) → IsEnd text at end → IsNext text end next → at < length text → strip_carriage_return (slice_range text at end) ≡ slice_range text at to
    → lines_of (drop at text) ≡ slice_range text at to ∷ lines_of (drop next text)
unfolding lines_of
next_of_lines text at end next to h n more line =
    ap (map strip_carriage_return) (pieces_of-drop text at end next h n more) ∙ ap (λ (p : List ℕ). p ∷ lines_of (drop next text)) line

-- a line that an LF ends is as it is, whatever follows the text
pub ended_of_lines : (text more : List ℕ) (at end to : ℕ) → IsEnd text at end → end < length text → get_or text end 0 ≡ 10 → strip_carriage_return (slice_range text at end) ≡ slice_range text at to
    → lines_of (drop at text ++ more) ≡ slice_range text at to ∷ lines_of (drop (end + 1) text ++ more)
unfolding lines_of
ended_of_lines text more at end to h inside feed is =
    let line = slice_range text at end in
    let rest = drop (end + 1) text in
    let split : drop at text ++ more ≡ line ++ 10 ∷ (rest ++ more) =
    ap (λ (t : List ℕ). t ++ more) (split_at_feed text at end h inside feed) ∙ append_assoc line (10 ∷ rest) more in
    ap (λ (t : List ℕ). map strip_carriage_return (pieces_of t)) split ∙ ap (map strip_carriage_return) (pieces_of-ended line (rest ++ more) (no_feed_between text at end h))
    ∙ ap (λ (p : List ℕ). p ∷ lines_of (rest ++ more)) is

-- no line is left at the end of a text
pub lines_of-end : (text : List ℕ) (at : ℕ) → at ≡ length text → lines_of (drop at text) ≡ []
unfolding lines_of
lines_of-end text at end = rw (drop_all at text (omega arith))
