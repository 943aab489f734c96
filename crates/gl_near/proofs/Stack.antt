-- The open cells of a search: its turns lead from the whole cell to them.
use Rattle.std.proofs.Common.{◌≡◌, ◌∙◌, sym, ap, refl, subst, ℕ, ◌^◌, ◌-◌, ◌<◌, inl, inr, List, [], ◌∷◌, ◌++◌, length, map, take, arith}
use Rattle.std.specs.Prelude.{◌↔◌, All, IfSome, IsNone, Option, Some, None}
use Rattle.std.specs.Option.{option_to_list}
use Rattle.std.proofs.lemmas.List.{append-nil}
use Rattle.std.proofs.lemmas.List.Elements.{All-cons, All-nil, All-push}
use Rattle.gl_box.specs.declared.cell.Cell.{Cell}
use Rattle.gl_box.specs.declared.span.Span.{Span}
use Rattle.gl_box.specs.Along.{Advances}
use Rattle.gl_box.specs.Cell.{Covers, ends, point, spans_of}
use Rattle.gl_box.specs.Halves.{IsSingle, span_at}
use Rattle.gl_box.specs.Turns.{boxes_from, left_open}
use Rattle.gl_box.specs.Walk.{open_cells}
use Rattle.gl_box.proofs.Held.{length-covers}
use Rattle.gl_box.proofs.Nodes.{covers_lower, covers_self, covers_through, covers_upper}
use Rattle.gl_box.proofs.Turns.{leads_closed, leads_cut, turns_part}
use Rattle.gl_proof.specs.Words.{IsSpan}
use Rattle.gl_near.specs.declared.dive.Candidate.{Candidate}
use Rattle.gl_near.specs.declared.found.NearBest.{NearBest}
use Rattle.gl_near.specs.declared.found.NearWhy.{NearWhy}
use Rattle.gl_near.specs.declared.found.NearWhy.TheVariants.{Time, Near}
use Rattle.gl_near.specs.declared.pairs.Pairs.{Pairs}
use Rattle.gl_near.specs.declared.pairs.Pairs.TheVariants.{Two, One}
use Rattle.gl_near.specs.Line.{AreTwoSpans}
use Rattle.gl_near.specs.Pairing.{Fits, IsApart, IsLeast, IsPairing, IsReached, Pairing, flights, least, place, whole_cell}
use Rattle.gl_near.specs.Pairs.{pairing_of}
use Rattle.gl_near.specs.Certificate.{IsCertificate, IsClosedFor, IsSound, total_of}
use Rattle.gl_near.specs.Code.Search.{AreWithin, IsBox, IsNoMore, IsUnderWay, Promises}
use Rattle.gl_near.proofs.PairsLemmas.{single_reached}
use Rattle.gl_text.proofs.Lists.{All-last}
use Rattle.gl_box.proofs.Lows.{single_low}

-- a cell of two axes by its spans
pair_of : (spans : List (ℕ × ℕ)) → length spans ≡ 2 → map (λ span. span.0) spans ≡ (span_at spans 0).0 ∷ (span_at spans 1).0 ∷ []
pair_of [] two = absurd (omega arith)
pair_of (a ∷ []) two = absurd (omega arith)
pair_of (a ∷ b ∷ []) two = refl
pair_of (a ∷ b ∷ c ∷ rest) two = absurd (omega arith)

pub two_axes : (pairing : Pairing) → length (whole_cell pairing) ≡ 2
two_axes (flights one other apart) = refl
two_axes (place flight at) = refl

-- a single pair that isn't closed fits, and is as near as its hulls
pub open_reached : (pairing : Pairing) (total : Option ℕ) (cell : List (ℕ × ℕ)) (distance first second : ℕ) → IsPairing pairing → Covers (whole_cell pairing) cell → IsSingle cell
    → Promises pairing total cell distance → first ≡ (span_at cell 0).0 → second ≡ (span_at cell 1).0 → IsReached pairing distance first second
open_reached pairing total cell distance first second is covers single promises low low_other =
    let two : length cell ≡ 2 = sym (length-covers (whole_cell pairing) cell covers) ∙ two_axes pairing in
    let places : map (λ span. span.0) cell ≡ first ∷ second ∷ [] = pair_of cell two ∙ (λ i. sym low i ∷ sym low_other i ∷ []) in
    let at : cell ≡ point (first ∷ second ∷ []) = single_low cell single ∙ ap point places in
    let reached = single_reached pairing first second is (subst (Covers (whole_cell pairing)) at covers) (λ apart. promises.not_apart (subst (IsApart pairing) (sym at) apart)) in
    subst (λ (d : ℕ). IsReached pairing d first second) (ap (least pairing) (sym at) ∙ sym promises.is_least) reached

-- what was closed for a total stays so for a lesser one
pub closed_longer : (pairing : Pairing) (old new : Option ℕ) (cell : List (ℕ × ℕ)) (why : NearWhy) → IsNoMore old new → IsClosedFor pairing old cell why → IsClosedFor pairing new cell why
closed_longer pairing old new cell Time less closed = closed
closed_longer pairing None new cell Near less closed = absurd closed
closed_longer pairing (Some old) None cell Near less closed = absurd less
closed_longer pairing (Some old) (Some new) cell Near less closed = omega arith

-- the ends of the whole cell are numbers of 32 bits
pub record IsShort (pairing : Pairing) : Type 0 where
  first : ℕ
  second : ℕ
  is : whole_cell pairing ≡ (0, first) ∷ (0, second) ∷ []
  first_short : first < 2 ^ 32
  second_short : second < 2 ^ 32

pub pairs_short : (pairs : Pairs) → IsShort (pairing_of pairs)
pairs_short (Two two) = record {
  first = length two.one - 1;
  second = length two.other - 1;
  is = refl;
  first_short = omega (arith, two.most_fixes);
  second_short = omega (arith, two.most_others);
}
pairs_short (One one) = record { first = length one.flight - 1; second = 0; is = refl; first_short = omega (arith, one.most_fixes); second_short = omega arith }

-- so the spans of a cell in it can be written
spans_within : (first second : ℕ) (spans : List Span) → first < 2 ^ 32 → second < 2 ^ 32 → Covers ((0, first) ∷ (0, second) ∷ []) (map ends spans) → AreTwoSpans (map ends spans)
spans_within first second [] short other covers = absurd covers
spans_within first second (a ∷ []) short other covers = absurd covers.2
spans_within first second (a ∷ b ∷ []) short other covers = record {
  two = refl;
  each = All-cons IsSpan (ends a) (ends b ∷ []) (a.ordered, omega (arith, short, covers.1))
      (All-cons IsSpan (ends b) [] (b.ordered, omega (arith, other, covers.2.1)) (All-nil IsSpan));
}
spans_within first second (a ∷ b ∷ c ∷ rest) short other covers = absurd covers.2.2

cell_spans : (pairing : Pairing) (cell : Cell) → IsShort pairing → Covers (whole_cell pairing) (spans_of cell) → AreTwoSpans (spans_of cell)
cell_spans pairing cell short covers =
    spans_within short.first short.second (take cell.axes cell.spans) short.first_short short.second_short (subst (λ whole. Covers whole (spans_of cell)) short.is covers)

All_along : {A : Type 0} (P : A → Type 0) (xs ys : List A) → xs ≡ ys → All P xs → All P ys
All_along P xs ys same all = subst (All P) same all

longer : (pairing : Pairing) (old new : Option NearBest) (boxes : List (List (ℕ × ℕ) × NearWhy)) → IsNoMore (total_of old) (total_of new) → All (IsBox pairing (total_of old)) boxes
    → All (IsBox pairing (total_of new)) boxes
longer pairing old new boxes less all = λ k d below.
    let box = all k d below in
    record { closed = closed_longer pairing (total_of old) (total_of new) _ _ less box.closed; spans = box.spans }

-- a search under way goes on
pub under_way_on : (pairing : Pairing) (old new : Option NearBest) (before after : List Cell) (turns_before turns_after : List (Option NearWhy)) → IsShort pairing → IsSound pairing new
    → IsNoMore (total_of old) (total_of new) → IsUnderWay pairing old before turns_before
    → Advances (IsClosedFor pairing (total_of new)) (λ cell. IsApart pairing cell → ⊥) before after turns_before turns_after → IsUnderWay pairing new after turns_after
under_way_on pairing old new before after turns_before turns_after short sound less way (inl closed) =
    let start = whole_cell pairing ∷ [] in
    let cell = closed.cell in
    let box : List (ℕ × ℕ) × NearWhy = (spans_of cell, closed.why) in
    let front = boxes_from start turns_before in
    let Q : Cell → Type 0 = λ c. Covers (whole_cell pairing) (spans_of c) in
    let parts = All-last Q after cell (All_along Q before (after ++ cell ∷ []) closed.closes.top way.covered) in
    let led = leads_closed start [] cell before after turns_before turns_after (way.left ∙ sym (append-nil (open_cells before))) closed.why closed.closes in
    record {
      sound = sound;
      left = led.left ∙ append-nil (open_cells after);
      boxes_are = All_along (IsBox pairing (total_of new)) (front ++ box ∷ []) (boxes_from start turns_after) (sym led.boxes)
          (All-push (IsBox pairing (total_of new)) front box (longer pairing old new front less way.boxes_are) (record { closed = closed.reason; spans = cell_spans pairing cell short parts.1 }));
      covered = parts.0;
    }
under_way_on pairing old new before after turns_before turns_after short sound less way (inr open_) =
    let start = whole_cell pairing ∷ [] in
    let cell = spans_of open_.cell in
    let cuts = open_.cuts in
    let front = boxes_from start turns_before in
    let Q : Cell → Type 0 = λ c. Covers (whole_cell pairing) (spans_of c) in
    let parts = All-last Q cuts.rest open_.cell (All_along Q before (cuts.rest ++ open_.cell ∷ []) cuts.top way.covered) in
    let low : Q cuts.lower = covers_through (whole_cell pairing) cell (spans_of cuts.lower) parts.1 (covers_lower cell (spans_of cuts.lower) (spans_of cuts.upper) cuts.halves) in
    let high : Q cuts.upper = covers_through (whole_cell pairing) cell (spans_of cuts.upper) parts.1 (covers_upper cell (spans_of cuts.lower) (spans_of cuts.upper) cuts.halves) in
    let led = leads_cut start [] open_.cell before after turns_before turns_after (way.left ∙ sym (append-nil (open_cells before))) cuts in
    record {
      sound = sound;
      left = led.left ∙ append-nil (open_cells after);
      boxes_are = All_along (IsBox pairing (total_of new)) front (boxes_from start turns_after) (sym (led.boxes ∙ append-nil front)) (longer pairing old new front less way.boxes_are);
      covered = All_along Q ((cuts.rest ++ cuts.upper ∷ []) ++ cuts.lower ∷ []) after (sym cuts.cut)
          (All-push Q (cuts.rest ++ cuts.upper ∷ []) cuts.lower (All-push Q cuts.rest cuts.upper parts.0 high) low);
    }

-- a search begins with the whole cell
pub under_way_start : (pairing : Pairing) (best : Option NearBest) (cells : List Cell) (cell : Cell) (turns : List (Option NearWhy)) → IsSound pairing best → turns ≡ [] → cells ≡ cell ∷ []
    → spans_of cell ≡ whole_cell pairing → IsUnderWay pairing best cells turns
under_way_start pairing best cells cell turns sound none one is =
    let whole = whole_cell pairing in
    let start = whole ∷ [] in
    let P = IsBox pairing (total_of best) in
    let Q : Cell → Type 0 = λ c. Covers whole (spans_of c) in
    record {
      sound = sound;
      left = ap (left_open start) none ∙ ap (λ (c : List (ℕ × ℕ)). c ∷ []) (sym is) ∙ ap open_cells (sym one);
      boxes_are = All_along P [] (boxes_from start turns) (sym (ap (boxes_from start) none)) (All-nil P);
      covered = All_along Q (cell ∷ []) cells (sym one) (All-cons Q cell [] (subst (Covers whole) (sym is) (covers_self whole)) (All-nil Q));
    }

-- where no cell is open any more, the boxes of the walk are a certificate
walk_boxes : (pairing : Pairing) (opened : List Cell) (cell : Cell) (turns : List (Option NearWhy)) → opened ≡ cell ∷ [] → spans_of cell ≡ whole_cell pairing
    → boxes_from (whole_cell pairing ∷ []) turns ≡ boxes_from (open_cells opened) turns
walk_boxes pairing opened cell turns one is = ap (λ (cells : List (List (ℕ × ℕ))). boxes_from cells turns) (ap (λ (c : List (ℕ × ℕ)). c ∷ []) (sym is) ∙ ap open_cells (sym one))

pub certified : (pairing : Pairing) (best : Option NearBest) (opened : List Cell) (cell : Cell) (turns : List (Option NearWhy)) → opened ≡ cell ∷ [] → spans_of cell ≡ whole_cell pairing
    → IsUnderWay pairing best [] turns → IsCertificate pairing best (boxes_from (open_cells opened) turns)
certified pairing best opened cell turns one is way =
    subst (IsCertificate pairing best) (walk_boxes pairing opened cell turns one is)
    (record { sound = way.sound; frontier = turns_part (whole_cell pairing) turns way.left; closed = λ k d below. (way.boxes_are k d below).closed })

-- and have two spans each
pub two_spans_each : (pairing : Pairing) (best : Option NearBest) (opened : List Cell) (cell : Cell) (turns : List (Option NearWhy)) → opened ≡ cell ∷ [] → spans_of cell ≡ whole_cell pairing
    → IsUnderWay pairing best [] turns → All (λ (box : List (ℕ × ℕ) × NearWhy). AreTwoSpans box.0) (boxes_from (open_cells opened) turns)
two_spans_each pairing best opened cell turns one is way =
    All_along (λ (box : List (ℕ × ℕ) × NearWhy). AreTwoSpans box.0) _ _ (walk_boxes pairing opened cell turns one is) (λ k d below. (way.boxes_are k d below).spans)

-- nothing was found exactly where no pair fits
pub none_exactly : (pairing : Pairing) (best : Option NearBest) → IsLeast pairing (total_of best) → IsNone best ↔ ((first second : ℕ) → Fits pairing first second → ⊥)
none_exactly pairing None least = (λ none. least, λ no_pair. refl)
none_exactly pairing (Some best) least = (λ none. absurd (cc), λ no_pair. absurd (no_pair least.0.0 least.0.1 (best.total, least.0.2)))

-- candidates in the whole cell, and one more
pub within_some : (pairing : Pairing) (xs ys : List Candidate) (it : Option Candidate) (cell : Cell) → AreWithin pairing xs → Covers (whole_cell pairing) (spans_of cell)
    → IfSome it (λ candidate. candidate.cell ≡ cell) → ys ≡ xs ++ option_to_list it → AreWithin pairing ys
within_some pairing xs ys None cell within covers is more = subst (AreWithin pairing) (sym more) (subst (AreWithin pairing) (sym (append-nil xs)) within)
within_some pairing xs ys (Some candidate) cell within covers is more =
    subst (AreWithin pairing) (sym more) (All-push (λ (c : Candidate). Covers (whole_cell pairing) (spans_of c.cell)) xs candidate within
    (subst (λ (c : Cell). Covers (whole_cell pairing) (spans_of c)) (sym is) covers))

-- candidates in the whole cell, and two more
pub within_both : (pairing : Pairing) (xs ys : List Candidate) (one other : Option Candidate) (first second : Cell) → AreWithin pairing xs → Covers (whole_cell pairing) (spans_of first)
    → Covers (whole_cell pairing) (spans_of second) → IfSome one (λ candidate. candidate.cell ≡ first) → IfSome other (λ candidate. candidate.cell ≡ second)
    → ys ≡ (xs ++ option_to_list one) ++ option_to_list other → AreWithin pairing ys
within_both pairing xs ys one other first second within covers covers_other is other_is more =
    let zs = xs ++ option_to_list one in
    within_some pairing zs ys other second (within_some pairing xs zs one first within covers is refl) covers_other other_is more
