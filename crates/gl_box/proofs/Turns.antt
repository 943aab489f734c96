-- The halves of a cell, and what turns of a walk leave open and close.
use Rattle.std.proofs.Common.{◌≡◌, ◌∙◌, sym, ap, refl, subst, ℕ, zero, suc, ◌<◌, ◌≤◌, List, [], ◌∷◌, ◌++◌, length, map, replicate, append_assoc, ltb, arith}
use Rattle.std.specs.Prelude.{Option, None, Some}
use Rattle.std.proofs.lemmas.Bool.{cond-false, cond-true, le-ltb, lt-ltb, ltb-true}
use Rattle.std.proofs.lemmas.List.{append-nil, map-append}
use Rattle.std.proofs.lemmas.Option.{cond_some}
use Rattle.gl_box.specs.declared.cell.Cell.{Cell}
use Rattle.gl_box.specs.Along.{Closes, Cuts, StaysSingle}
use Rattle.gl_box.specs.Cell.{spans_of}
use Rattle.gl_box.specs.Frontier.{IsFrontier}
use Rattle.gl_box.specs.Frontier.IsFrontier.{alone, parted}
use Rattle.gl_box.specs.Halves.{AreHalves, IsSingle, IsWidest, halves_of, lower_at, span_at, upper_at, widest_axis, width}
use Rattle.gl_box.specs.Turns.{boxes_from, closed_by, cut_into, left_open, open_after, others_of, when_cut}
use Rattle.gl_box.specs.Walk.{AreFrontiers, cuts_of, open_cells}
use Rattle.gl_box.proofs.Frontiers.{open_push, widest_unique}
use Rattle.gl_box.proofs.Singles.{widest_is}
use Rattle.gl_box.proofs.Spans.{single-narrow}

-- a cell with an axis has its widest axis
widest_inside : (cell : List (ℕ × ℕ)) → 0 < length cell → IsWidest cell (widest_axis cell)
widest_inside [] some = absurd (omega arith)
widest_inside (s ∷ ss) some = widest_is s ss

-- what is cut are halves
pub halves_are : (cell lower upper : List (ℕ × ℕ)) → AreHalves cell lower upper → halves_of cell ≡ Some (lower, upper)
halves_are cell lower upper halves =
    let axis : widest_axis cell ≡ halves.axis = widest_unique cell _ _ (widest_inside cell (omega (arith, halves.widest.inside))) halves.widest in
    let wide : 0 < width (span_at cell (widest_axis cell)) = subst (λ (k : ℕ). 0 < width (span_at cell k)) (sym axis) halves.wide in
    let low : lower_at cell (widest_axis cell) ≡ lower = ap (lower_at cell) axis ∙ sym halves.lower_is in
    let high : upper_at cell (widest_axis cell) ≡ upper = ap (upper_at cell) axis ∙ sym halves.upper_is in
    cond-true _ _ _ (lt-ltb _ _ wide) ∙ ap Some (λ i. (low i, high i))

-- and such are cut
wide_some : (cell : List (ℕ × ℕ)) → 0 < width (span_at cell (widest_axis cell)) → 0 < length cell
wide_some [] wide = absurd (omega arith)
wide_some (s ∷ ss) wide = omega arith

pub halves_cut : (cell : List (ℕ × ℕ)) (halves : List (ℕ × ℕ) × List (ℕ × ℕ)) → halves_of cell ≡ Some halves → AreHalves cell halves.0 halves.1
halves_cut cell halves is =
    let made = cond_some (ltb 0 (width (span_at cell (widest_axis cell)))) (lower_at cell (widest_axis cell), upper_at cell (widest_axis cell)) halves is in
    let wide : 0 < width (span_at cell (widest_axis cell)) = ltb-true _ _ made.0 in
    record {
      axis = widest_axis cell;
      widest = widest_inside cell (wide_some cell wide);
      wide = wide;
      lower_is = ap (λ (h : List (ℕ × ℕ) × List (ℕ × ℕ)). h.0) (sym made.1);
      upper_is = ap (λ (h : List (ℕ × ℕ) × List (ℕ × ℕ)). h.1) (sym made.1);
    }

-- the cells that are open once the first of them was cut
pub cut_open : (cell lower upper : List (ℕ × ℕ)) (others : List (List (ℕ × ℕ))) → AreHalves cell lower upper → when_cut (cell ∷ others) ≡ lower ∷ upper ∷ others
cut_open cell lower upper others halves = ap (λ (h : Option (List (ℕ × ℕ) × List (ℕ × ℕ))). cut_into h cell others) (halves_are cell lower upper halves)

-- some turns, and then others
pub left_open-append : {W : Type 0} (opened : List (List (ℕ × ℕ))) (turns others : List (Option W)) → left_open opened (turns ++ others) ≡ left_open (left_open opened turns) others
left_open-append opened [] others = refl
left_open-append opened (turn ∷ turns) others = left_open-append (open_after turn opened) turns others

pub boxes_from-append : {W : Type 0} (opened : List (List (ℕ × ℕ))) (turns others : List (Option W)) → boxes_from opened (turns ++ others) ≡ boxes_from opened turns ++ boxes_from (left_open opened turns) others
boxes_from-append opened [] others = refl
boxes_from-append {W} opened (turn ∷ turns) others =
    ap (λ (boxes : List (List (ℕ × ℕ) × W)). closed_by turn opened ++ boxes) (boxes_from-append (open_after turn opened) turns others)
    ∙ sym (append_assoc (closed_by turn opened) (boxes_from (open_after turn opened) turns) (boxes_from (left_open (open_after turn opened) turns) others))

abbrev cells_of : {W : Type 0} → List (List (ℕ × ℕ) × W) → List (List (ℕ × ℕ))
cells_of boxes = map (λ box. box.0) boxes

-- the cells that a cut leaves lead to the one that was cut
cut_leads : (halves : Option (List (ℕ × ℕ) × List (ℕ × ℕ))) (cell : List (ℕ × ℕ)) (others more : List (List (ℕ × ℕ))) → halves_of cell ≡ halves → AreFrontiers (cut_into halves cell others) more
    → AreFrontiers (cell ∷ others) more
cut_leads None cell others more is fronts = fronts
cut_leads (Some halves) cell others more is fronts = (
  fronts.0 ++ fronts.3.0,
  fronts.3.1,
  parted cell halves.0 halves.1 fronts.0 fronts.3.0 (fronts.0 ++ fronts.3.0) (halves_cut cell halves is) fronts.2 fronts.3.2 refl,
  fronts.3.3,
  fronts.4 ∙ ap (λ (l : List (List (ℕ × ℕ))). fronts.0 ++ l) fronts.3.4 ∙ sym (append_assoc fronts.0 fronts.3.0 fronts.3.1),
)

turn_leads : {W : Type 0} (turn : Option W) (opened more : List (List (ℕ × ℕ))) → AreFrontiers (open_after turn opened) more → AreFrontiers opened (cells_of (closed_by turn opened) ++ more)
turn_leads None [] more fronts = fronts
turn_leads (Some why) [] more fronts = fronts
turn_leads None (cell ∷ others) more fronts = cut_leads (halves_of cell) cell others more refl fronts
turn_leads (Some why) (cell ∷ others) more fronts = (cell ∷ [], more, alone cell (cell ∷ []) refl, fronts, refl)

-- the boxes that turns close lead to the cells that are open before them
pub turns_lead : {W : Type 0} (opened : List (List (ℕ × ℕ))) (turns : List (Option W)) (more : List (List (ℕ × ℕ))) → AreFrontiers (left_open opened turns) more
    → AreFrontiers opened (map (λ box. box.0) (boxes_from opened turns) ++ more)
turns_lead opened [] more fronts = fronts
turns_lead opened (turn ∷ turns) more fronts =
    let front = closed_by turn opened in
    let back = boxes_from (open_after turn opened) turns in
    let all : cells_of front ++ (cells_of back ++ more) ≡ cells_of (front ++ back) ++ more =
    sym (append_assoc (cells_of front) (cells_of back) more) ∙ ap (λ (l : List (List (ℕ × ℕ))). l ++ more) (sym (map-append (λ box. box.0) front back)) in
    subst (AreFrontiers opened) all (turn_leads turn opened (cells_of back ++ more) (turns_lead (open_after turn opened) turns more fronts))

-- where nothing is left open, the boxes are a frontier of the cell that was open at first
pub turns_part : {W : Type 0} (cell : List (ℕ × ℕ)) (turns : List (Option W)) → left_open (cell ∷ []) turns ≡ [] → IsFrontier cell (map (λ box. box.0) (boxes_from (cell ∷ []) turns))
turns_part cell turns none =
    let cells = cells_of (boxes_from (cell ∷ []) turns) in
    let fronts = turns_lead (cell ∷ []) turns [] (subst (λ (l : List (List (ℕ × ℕ))). AreFrontiers l []) (sym none) refl) in
    let same : cells ≡ fronts.0 = sym (append-nil cells) ∙ fronts.4 ∙ ap (λ (l : List (List (ℕ × ℕ))). fronts.0 ++ l) fronts.3 ∙ append-nil fronts.0 in
    subst (IsFrontier cell) (sym same) fronts.2

-- cuts close no box
pub boxes_from-cuts : {W : Type 0} (count : ℕ) (opened : List (List (ℕ × ℕ))) → boxes_from {W = W} opened (replicate count None) ≡ []
boxes_from-cuts zero opened = refl
boxes_from-cuts {W} (suc count) opened = boxes_from-cuts {W = W} count (when_cut opened)

-- and leave what they leave
cuts_of-first : (count : ℕ) (opened : List (List (ℕ × ℕ))) → cuts_of count (when_cut opened) ≡ cuts_of (suc count) opened
cuts_of-first zero opened = refl
cuts_of-first (suc count) opened = ap when_cut (cuts_of-first count opened)

pub left_open-cuts : (W : Type 0) (count : ℕ) (opened : List (List (ℕ × ℕ))) → left_open {W = W} opened (replicate count None) ≡ cuts_of count opened
left_open-cuts W zero opened = refl
left_open-cuts W (suc count) opened = left_open-cuts W count (when_cut opened) ∙ cuts_of-first count opened

-- a single tuple can't be cut
pub single_uncut : (cell : List (ℕ × ℕ)) → IsSingle cell → halves_of cell ≡ None
single_uncut [] single = refl
single_uncut (s ∷ ss) single =
    let cell = s ∷ ss in
    let axis = widest_axis cell in
    let same = single-narrow cell axis single (widest_is s ss).inside in
    let narrow : width (span_at cell axis) ≤ 0 = omega (arith, same) in
    cond-false _ _ _ (le-ltb _ _ narrow)

-- what was cut at the end of a list is the first open cell no more
pub cut_opened : (before rest after : List Cell) (cell lower upper : Cell) → before ≡ rest ++ cell ∷ [] → AreHalves (spans_of cell) (spans_of lower) (spans_of upper)
    → after ≡ (rest ++ upper ∷ []) ++ lower ∷ [] → open_cells after ≡ when_cut (open_cells before)
cut_opened before rest after cell lower upper top halves cut =
    let others = open_cells rest in
    let opened : open_cells before ≡ spans_of cell ∷ others = ap open_cells top ∙ open_push rest cell in
    let left : open_cells after ≡ spans_of lower ∷ spans_of upper ∷ others =
    ap open_cells cut ∙ open_push (rest ++ upper ∷ []) lower ∙ ap (λ (l : List (List (ℕ × ℕ))). spans_of lower ∷ l) (open_push rest upper) in
    left ∙ sym (ap when_cut opened ∙ cut_open (spans_of cell) (spans_of lower) (spans_of upper) others halves)

pub uncut_opened : (before rest : List Cell) (cell : Cell) → before ≡ rest ++ cell ∷ [] → IsSingle (spans_of cell) → open_cells before ≡ when_cut (open_cells before)
uncut_opened before rest cell top single =
    let others = open_cells rest in
    let opened : open_cells before ≡ spans_of cell ∷ others = ap open_cells top ∙ open_push rest cell in
    opened ∙ sym (ap when_cut opened ∙ ap (λ (h : Option (List (ℕ × ℕ) × List (ℕ × ℕ))). cut_into h (spans_of cell) others) (single_uncut (spans_of cell) single))

-- a turn that is added
pub turn_added : {T W : Type 0} (reason : T → Option W) (before after : List T) (turn : T) (why : Option W) → after ≡ before ++ turn ∷ [] → reason turn ≡ why
    → map reason after ≡ map reason before ++ why ∷ []
turn_added {T} {W} reason before after turn why is told =
    ap (map reason) is ∙ map-append reason before (turn ∷ []) ∙ ap (λ (w : Option W). map reason before ++ w ∷ []) told

-- a single tuple is closed by such a turn
pub single_closed : {W : Type 0} (cell left : Cell) (before after : List Cell) (turns same turns_after : List (Option W)) (why : W) → StaysSingle cell left before after turns same
    → turns_after ≡ same ++ Some why ∷ [] → Closes cell before after turns turns_after why
single_closed {W} cell left before after turns same turns_after why stays is =
    record { top = stays.top; turn = is ∙ ap (λ (ts : List (Option W)). ts ++ Some why ∷ []) stays.turns }

-- where turns lead that are added, whatever else is open, and which boxes they close
pub record Leads {W : Type 0} (start : List (List (ℕ × ℕ))) (turns turns_after : List (Option W)) (cells : List Cell) (others : List (List (ℕ × ℕ))) (closed : List (List (ℕ × ℕ) × W)) : Type 0 where
  pub left : left_open start turns_after ≡ open_cells cells ++ others
  pub boxes : boxes_from start turns_after ≡ boxes_from start turns ++ closed

-- the last open cell comes before all others
open_last : (cells rest : List Cell) (cell : Cell) (others : List (List (ℕ × ℕ))) → cells ≡ rest ++ cell ∷ [] → open_cells cells ++ others ≡ spans_of cell ∷ (open_cells rest ++ others)
open_last cells rest cell others top = ap (λ (l : List (List (ℕ × ℕ))). l ++ others) (ap open_cells top ∙ open_push rest cell)

module _ {W : Type 0} (start others : List (List (ℕ × ℕ))) (cell : Cell) (before after : List Cell) (turns turns_after : List (Option W)) (led : left_open start turns ≡ open_cells before ++ others) where
  pub leads_closed : (why : W) → Closes cell before after turns turns_after why → Leads start turns turns_after after others ((spans_of cell, why) ∷ [])
  leads_closed why closes =
      let there : left_open start turns ≡ spans_of cell ∷ (open_cells after ++ others) = led ∙ open_last before after cell others closes.top in
      record {
        left = ap (left_open start) closes.turn ∙ left_open-append start turns (Some why ∷ []) ∙ ap others_of there;
        boxes = ap (boxes_from start) closes.turn ∙ boxes_from-append start turns (Some why ∷ [])
            ∙ ap (λ (l : List (List (ℕ × ℕ))). boxes_from start turns ++ boxes_from l (Some why ∷ [])) there;
      }

  pub leads_cut : Cuts cell before after turns turns_after → Leads start turns turns_after after others []
  leads_cut cuts =
      let rest = cuts.rest in
      let two : open_cells after ++ others ≡ spans_of cuts.lower ∷ spans_of cuts.upper ∷ (open_cells rest ++ others) =
      open_last after (rest ++ cuts.upper ∷ []) cuts.lower others cuts.cut ∙ ap (λ (l : List (List (ℕ × ℕ))). spans_of cuts.lower ∷ l) (open_last (rest ++ cuts.upper ∷ []) rest cuts.upper others refl) in
      record {
        left = ap (left_open start) cuts.turn ∙ left_open-append start turns (None ∷ []) ∙ ap when_cut (led ∙ open_last before rest cell others cuts.top)
            ∙ cut_open (spans_of cell) (spans_of cuts.lower) (spans_of cuts.upper) (open_cells rest ++ others) cuts.halves ∙ sym two;
        boxes = ap (boxes_from start) cuts.turn ∙ boxes_from-append start turns (None ∷ []);
      }

-- a walk that goes on by cuts to a cell
pub record IsThere {W : Type 0} (opened : List (List (ℕ × ℕ))) (turns after : List (Option W)) (cell : List (ℕ × ℕ)) (others : List (List (ℕ × ℕ))) : Type 0 where
  pub left : left_open opened after ≡ cell ∷ others
  pub boxes : boxes_from opened after ≡ boxes_from opened turns

pub is_there : {W : Type 0} (opened : List (List (ℕ × ℕ))) (turns after : List (Option W)) (count : ℕ) (cell : List (ℕ × ℕ)) (others : List (List (ℕ × ℕ)))
    → cuts_of count (left_open opened turns) ≡ cell ∷ others → after ≡ turns ++ replicate count None → IsThere opened turns after cell others
is_there {W} opened turns after count cell others come is = record {
  left = ap (left_open opened) is ∙ left_open-append opened turns (replicate count None) ∙ left_open-cuts W count (left_open opened turns) ∙ come;
  boxes = ap (boxes_from opened) is ∙ boxes_from-append opened turns (replicate count None)
      ∙ ap (λ (boxes : List (List (ℕ × ℕ) × W)). boxes_from opened turns ++ boxes) (boxes_from-cuts count (left_open opened turns)) ∙ append-nil (boxes_from opened turns);
}

-- and closes it
pub record GoesTo {W : Type 0} (opened : List (List (ℕ × ℕ))) (turns after : List (Option W)) (cell : List (ℕ × ℕ)) (why : W) (others : List (List (ℕ × ℕ))) : Type 0 where
  pub boxes : boxes_from opened after ≡ boxes_from opened turns ++ (cell, why) ∷ []
  pub left : left_open opened after ≡ others

pub goes_to : {W : Type 0} (opened : List (List (ℕ × ℕ))) (turns cuts after : List (Option W)) (cell : List (ℕ × ℕ)) (why : W) (others : List (List (ℕ × ℕ))) → IsThere opened turns cuts cell others
    → after ≡ cuts ++ Some why ∷ [] → GoesTo opened turns after cell why others
goes_to {W} opened turns cuts after cell why others there is = record {
  boxes = ap (boxes_from opened) is ∙ boxes_from-append opened cuts (Some why ∷ []) ∙ ap (λ (boxes : List (List (ℕ × ℕ) × W)). boxes ++ boxes_from (left_open opened cuts) (Some why ∷ [])) there.boxes
      ∙ ap (λ (cells : List (List (ℕ × ℕ))). boxes_from opened turns ++ boxes_from cells (Some why ∷ [])) there.left;
  left = ap (left_open opened) is ∙ left_open-append opened cuts (Some why ∷ []) ∙ ap (λ (cells : List (List (ℕ × ℕ))). left_open cells (Some why ∷ [])) there.left;
}
