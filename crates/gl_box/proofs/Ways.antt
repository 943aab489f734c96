-- The open cells of a walk, as they are kept: what a cut adds to the way, and what is left of it.
use Rattle.std.proofs.Common.{◌≡◌, ◌∙◌, sym, ap, subst, ℕ, ◌+◌, ◌-◌, ◌/◌, ◌<◌, Bool, true, false, List, [], ◌∷◌, ◌++◌, get_or, length, take, slice_set, arith}
use Rattle.std.specs.Prelude.{Option}
use Rattle.std.proofs.lemmas.List.{append-nil, get_or_default, length_push, reverse-append, same_from_push, set-append_left, set-get_or, set-set}
use Rattle.std.proofs.Math.ListN.{get_or-append}
use Rattle.gl_text.proofs.Lists.{set_top, top_is}
use Rattle.gl_box.specs.declared.cell.Cell.{Cell}
use Rattle.gl_box.specs.declared.fork.Fork.{Fork}
use Rattle.gl_box.specs.Cell.{Covers, spans_of}
use Rattle.gl_box.specs.declared.span.Span.{Span}
use Rattle.gl_box.proofs.Held.{covers_at, length-covers}
use Rattle.gl_box.specs.Along.{IsCut}
use Rattle.gl_box.specs.Halves.{AreHalves, IsSingle, IsWidest, span_at}
use Rattle.gl_box.specs.Turns.{cut_into, when_cut}
use Rattle.gl_box.specs.Walk.{open_cells}
use Rattle.gl_box.specs.Way.{IsFork, before_if, open_on, upper_of, uppers_of, whole_of}
use Rattle.gl_box.proofs.Frontiers.{open_push}
use Rattle.gl_box.proofs.Spans.{halves_made, length-spans_of, span_at-spans_of}
use Rattle.gl_box.proofs.Turns.{cut_open, single_uncut}

-- a cell that was cut in the middle of its widest span
pub is_fork : (cell lower : List (ℕ × ℕ)) (fork : Fork) (middle : ℕ) → IsWidest cell fork.axis → span_at cell fork.axis ≡ (fork.lo, fork.hi) → fork.is_lower ≡ true
    → middle ≡ fork.lo + (fork.hi - fork.lo) / 2 → lower ≡ slice_set cell fork.axis (fork.lo, middle) → IsFork cell lower fork
is_fork cell lower fork middle widest is is_lower half low =
    let axis = fork.axis in
    let wide = fork.wide in
    let mid : middle ≡ (fork.lo + fork.hi) / 2 = omega arith in
    let again = λ (span : ℕ × ℕ). ap (λ (l : List (ℕ × ℕ)). slice_set l axis span) low ∙ set-set cell axis (fork.lo, middle) span in
    record {
      is_open = is_lower;
      whole = again (fork.lo, fork.hi) ∙ ap (slice_set cell axis) (sym is) ∙ set-get_or cell axis (0, 0);
      halves = halves_made cell lower (upper_of fork lower) axis (fork.lo, fork.hi) middle widest is wide half low
          (again ((fork.lo + fork.hi) / 2 + 1, fork.hi) ∙ ap (λ (m : ℕ). slice_set cell axis (m + 1, fork.hi)) (sym mid));
    }

-- the last fork of a way
last_fork : (cell : List (ℕ × ℕ)) (way rest : List Fork) (fork : Fork) → way ≡ rest ++ fork ∷ [] → open_on cell way ≡ before_if fork.is_lower (upper_of fork cell) (open_on (whole_of fork cell) rest)
last_fork cell way rest fork ends = ap (open_on cell) ends ∙ ap (uppers_of cell) (reverse-append rest (fork ∷ []))

-- a fork more on the way
pub fork_added : (cell lower : List (ℕ × ℕ)) (fork : Fork) (before after : List Fork) → IsFork cell lower fork → after ≡ before ++ fork ∷ [] → open_on lower after ≡ upper_of fork lower ∷ open_on cell before
fork_added cell lower fork before after is added =
    let upper = upper_of fork lower in
    last_fork lower after before fork added ∙ ap (λ (b : Bool). before_if b upper (open_on (whole_of fork lower) before)) is.is_open ∙ ap (λ (c : List (ℕ × ℕ)). upper ∷ open_on c before) is.whole

-- the way goes on in the lower half of the cell that comes first
pub forked : (cell lower : List (ℕ × ℕ)) (fork : Fork) (before after : List Fork) (others : List (List (ℕ × ℕ))) → IsFork cell lower fork → after ≡ before ++ fork ∷ []
    → lower ∷ (open_on lower after ++ others) ≡ when_cut (cell ∷ (open_on cell before ++ others))
forked cell lower fork before after others is added =
    ap (λ (l : List (List (ℕ × ℕ))). lower ∷ (l ++ others)) (fork_added cell lower fork before after is added) ∙ sym (cut_open cell lower (upper_of fork lower) (open_on cell before ++ others) is.halves)

-- a single tuple stays
pub stays : (cell left : Cell) (way : List Fork) (others : List (List (ℕ × ℕ))) → IsSingle (spans_of cell) → left ≡ cell
    → spans_of left ∷ (open_on (spans_of left) way ++ others) ≡ when_cut (spans_of cell ∷ (open_on (spans_of cell) way ++ others))
stays cell left way others single same =
    let rest = open_on (spans_of cell) way ++ others in
    ap (λ (c : Cell). spans_of c ∷ (open_on (spans_of c) way ++ others)) same
    ∙ sym (ap (λ (h : Option (List (ℕ × ℕ) × List (ℕ × ℕ))). cut_into h (spans_of cell) rest) (single_uncut (spans_of cell) single))

-- the last of some cells was doubled, and then the second of both became the lower half and the first one the upper
pub cut_made : (items rest doubled : List Cell) (top : ℕ) (first cell second left lower upper : Cell) (fork : Fork) → 0 < length items → top ≡ length items - 1 → first ≡ get_or items top first
    → items ≡ rest ++ cell ∷ [] → doubled ≡ items ++ first ∷ [] → second ≡ get_or doubled (top + 1) second → IsFork (spans_of second) (spans_of lower) fork
    → left ≡ get_or (slice_set doubled (top + 1) lower) top left → spans_of upper ≡ slice_set (spans_of left) fork.axis ((fork.lo + fork.hi) / 2 + 1, fork.hi)
    → IsCut cell rest (slice_set (slice_set doubled (top + 1) lower) top upper)
cut_made items rest doubled top first cell second left lower upper fork some last is ends twice second_is forks left_is upper_is =
    let at = top_is items top first some last is in
    let both = same_from_push (take top items) rest first cell (sym at ∙ ends) in
    let longer : length doubled ≡ length items + 1 = ap length twice ∙ length_push items first in
    let behind = same_from_push (take (top + 1) doubled) items second first (sym (top_is doubled (top + 1) second (omega arith) (omega arith) second_is) ∙ twice) in
    let one : slice_set doubled (top + 1) lower ≡ items ++ lower ∷ [] = set_top doubled (top + 1) lower (omega arith) (omega arith) ∙ ap (λ (l : List Cell). l ++ lower ∷ []) behind.0 in
    let inside : top < length items = omega arith in
    let same : left ≡ first =
    left_is ∙ ap (λ (l : List Cell). get_or l top left) one ∙ get_or-append items (lower ∷ []) left top inside ∙ get_or_default items top left first inside ∙ sym is in
    let high : ℕ × ℕ = ((fork.lo + fork.hi) / 2 + 1, fork.hi) in
    let whole : spans_of left ≡ whole_of fork (spans_of lower) = ap spans_of (same ∙ sym behind.1) ∙ sym forks.whole in
    record {
      lower = lower;
      upper = upper;
      cut = ap (λ (l : List Cell). slice_set l top upper) one ∙ set-append_left items (lower ∷ []) top upper inside ∙ ap (λ (l : List Cell). l ++ lower ∷ []) (set_top items top upper some last)
          ∙ ap (λ (l : List Cell). (l ++ upper ∷ []) ++ lower ∷ []) both.0;
      halves = subst (λ (l : List (ℕ × ℕ)). AreHalves (spans_of cell) (spans_of lower) l) (sym (upper_is ∙ ap (λ (l : List (ℕ × ℕ)). slice_set l fork.axis high) whole ∙ set-set (spans_of lower) fork.axis (fork.lo, fork.hi) high))
          (subst (λ (c : Cell). AreHalves (spans_of c) (spans_of lower) (upper_of fork (spans_of lower))) (behind.1 ∙ both.1) forks.halves);
    }

-- a cut whose upper half is done with too
pub passed_fork : (cell next : List (ℕ × ℕ)) (way rest : List Fork) (fork : Fork) → way ≡ rest ++ fork ∷ [] → fork.is_lower ≡ false → next ≡ whole_of fork cell → open_on cell way ≡ open_on next rest
passed_fork cell next way rest fork ends low is =
    last_fork cell way rest fork ends ∙ ap (λ (b : Bool). before_if b (upper_of fork cell) (open_on (whole_of fork cell) rest)) low ∙ ap (λ (c : List (ℕ × ℕ)). open_on c rest) (sym is)

-- one whose upper half comes next
pub upper_fork : (cell next : List (ℕ × ℕ)) (way rest after : List Fork) (fork turned : Fork) → way ≡ rest ++ fork ∷ [] → fork.is_lower ≡ true → next ≡ upper_of fork cell → after ≡ rest ++ turned ∷ []
    → turned.is_lower ≡ false → ((c : List (ℕ × ℕ)) → whole_of turned c ≡ whole_of fork c) → open_on cell way ≡ next ∷ open_on next after
upper_fork cell next way rest after fork turned ends low is added high same =
    let upper = upper_of fork cell in
    let whole : whole_of fork cell ≡ whole_of turned next =
    sym (same next ∙ ap (whole_of fork) is ∙ set-set cell fork.axis ((fork.lo + fork.hi) / 2 + 1, fork.hi) (fork.lo, fork.hi)) in
    let behind : open_on next after ≡ open_on (whole_of turned next) rest =
    last_fork next after rest turned added ∙ ap (λ (b : Bool). before_if b (upper_of turned next) (open_on (whole_of turned next) rest)) high in
    last_fork cell way rest fork ends ∙ ap (λ (b : Bool). before_if b upper (open_on (whole_of fork cell) rest)) low
    ∙ ap (λ (c : List (ℕ × ℕ)). c ∷ open_on (whole_of fork cell) rest) (sym is) ∙ ap (λ (c : List (ℕ × ℕ)). next ∷ open_on c rest) whole ∙ ap (λ (l : List (List (ℕ × ℕ))). next ∷ l) (sym behind)

-- where the way has no open cell any more, the last of the others comes next
pub other_next : (old mid : List (ℕ × ℕ)) (next : Cell) (before after : List Fork) (cells rest : List Cell) → open_on old before ≡ open_on mid after → after ≡ [] → cells ≡ rest ++ next ∷ []
    → open_on old before ++ open_cells cells ≡ spans_of next ∷ (open_on (spans_of next) after ++ open_cells rest)
other_next old mid next before after cells rest same none ends =
    ap (λ (l : List (List (ℕ × ℕ))). l ++ open_cells cells) (same ∙ ap (open_on mid) none) ∙ ap open_cells ends ∙ open_push rest next
    ∙ ap (λ (forks : List Fork). spans_of next ∷ (open_on (spans_of next) forks ++ open_cells rest)) (sym none)

-- or nothing is open
pub none_next : (old mid : List (ℕ × ℕ)) (before after : List Fork) (cells rest : List Cell) → open_on old before ≡ open_on mid after → cells ≡ rest ++ []
    → open_on old before ++ open_cells cells ≡ open_on mid after ++ open_cells rest
none_next old mid before after cells rest same ends =
    ap (λ (l : List (List (ℕ × ℕ))). l ++ open_cells cells) same ∙ ap (λ (cs : List Cell). open_on mid after ++ open_cells cs) (ends ∙ append-nil rest)

pub none_open : (mid : List (ℕ × ℕ)) (after : List Fork) (rest : List Cell) → after ≡ [] → rest ≡ [] → open_on mid after ++ open_cells rest ≡ []
none_open mid after rest none empty = ap (λ (forks : List Fork). open_on mid forks ++ open_cells rest) none ∙ ap open_cells empty

-- a cell that reaches beyond another on an axis doesn't lie in it
pub beyond : (low next : Cell) (axis : ℕ) (a b : Span) → axis < length (spans_of low) → Covers (spans_of low) (spans_of next) → (get_or low.spans axis a).hi < (get_or next.spans axis b).hi → ⊥
beyond low next axis a b inside covers above =
    let same = length-covers (spans_of low) (spans_of next) covers in
    let one : axis < low.axes = omega (arith, length-spans_of low) in
    let other : axis < next.axes = omega (arith, same, length-spans_of next) in
    let within = covers_at (spans_of low) (spans_of next) axis covers inside in
    let mine = ap (λ (s : ℕ × ℕ). s.1) (span_at-spans_of low axis a one) in
    let its = ap (λ (s : ℕ × ℕ). s.1) (span_at-spans_of next axis b other) in
    omega (arith, within.1, mine, its, above)
