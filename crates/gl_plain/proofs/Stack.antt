-- The open cells of a search: its turns lead from its root to them.
use Rattle.std.proofs.Common.{◌≡◌, ◌∙◌, sym, ap, refl, subst, ℕ, ◌⊎◌, inl, inr, List, [], ◌∷◌, ◌++◌, get_or, map, append_assoc, arith}
use Rattle.std.specs.Prelude.{All, Option, Some, None}
use Rattle.std.proofs.lemmas.List.{append-nil}
use Rattle.std.proofs.lemmas.List.Elements.{All-cons, All-nil, All-push}
use Rattle.gl_box.specs.declared.cell.Cell.{Cell}
use Rattle.gl_box.specs.declared.closed.Why.{Why}
use Rattle.gl_box.specs.declared.closed.Why.TheVariants.{Disordered, Shut, Bound}
use Rattle.gl_box.specs.Along.{Advances, StaysSingle}
use Rattle.gl_box.specs.Cell.{Covers, point, spans_of}
use Rattle.gl_box.specs.Halves.{IsHalf}
use Rattle.gl_box.specs.Frontier.{IsFrontier, IsNode}
use Rattle.gl_box.specs.Frontier.IsNode.{half, whole}
use Rattle.gl_box.specs.Tuple.{places_of}
use Rattle.gl_box.specs.Turns.{boxes_from}
use Rattle.gl_box.specs.Walk.{open_cells}
use Rattle.gl_box.proofs.Nodes.{covers_node, node_through}
use Rattle.gl_box.proofs.Turns.{leads_closed, leads_cut}
use Rattle.gl_goal.specs.Goal.{Goal, IsGoal, IsOpen, IsReached, whole_cell}
use Rattle.gl_goal.proofs.Order.{covered_tuple}
use Rattle.gl_goal.specs.Certificate.{IsCertificate, IsClaimed, IsClosedFor}
use Rattle.gl_goal.specs.declared.best.Best.{Best}
use Rattle.gl_plain.specs.Code.Steps.{GoesOn, IsBoxFrom, IsMetFrom, IsSearched, IsUnderWay}
use Rattle.gl_goal.specs.Best.{IsNoLess, IsSound, fixes_of, total_of}
use Rattle.gl_plain.specs.CellVerdict.{Promises}
use Rattle.gl_text.proofs.Lists.{All-last}
use Rattle.gl_box.proofs.Lows.{single_low}

-- what a search comes to lies in the whole cell
pub cells_covered : (rule : Goal) (root : List (ℕ × ℕ)) (best : Option Best) (cells : List Cell) (boxes : List (List (ℕ × ℕ) × Why)) → IsUnderWay rule root best cells boxes
    → All (λ (c : Cell). Covers (whole_cell rule.axes) (spans_of c)) cells
cells_covered rule root best cells boxes way = λ k d below.
    let cell = spans_of (get_or cells k d) in
    covers_node (whole_cell rule.axes) cell (node_through (whole_cell rule.axes) root cell way.node (way.cells_are k d below).inside)

-- a single tuple whose cell is open is legal, and worth its bound
pub single_reached : (rule : Goal) (total : Option ℕ) (cell left : Cell) (before after : List Cell) (turns same : List (Option Why)) (bound : ℕ) (places : List ℕ) → IsGoal rule
    → Covers (whole_cell rule.axes) (spans_of cell) → Promises rule total (spans_of cell) bound → StaysSingle cell left before after turns same → places ≡ map (λ span. span.0) (spans_of left)
    → IsReached rule bound places
single_reached rule total cell left before after turns same bound places goal covers promises stays low =
    let is : spans_of cell ≡ point places = single_low (spans_of cell) stays.single ∙ ap (λ (c : Cell). point (map (λ (span : ℕ × ℕ). span.0) (spans_of c))) (sym stays.same) ∙ ap point (sym low) in
    let fits = covered_tuple rule.axes places goal.some_fix (subst (Covers (whole_cell rule.axes)) is covers) in
    let legal = goal.single_legal places fits (subst (IsOpen rule) is promises.is_open) in
    record { legal = legal; worth = sym (goal.single_bound places legal) ∙ ap rule.bound (sym is) ∙ sym promises.is_bound }

-- what was closed for a total stays so for a greater one
pub closed_longer : (rule : Goal) (old new : Option ℕ) (cell : List (ℕ × ℕ)) (why : Why) → IsNoLess old new → IsClosedFor rule old cell why → IsClosedFor rule new cell why
closed_longer rule old new cell Disordered more closed = closed
closed_longer rule old new cell Shut more closed = closed
closed_longer rule None new cell Bound more closed = absurd closed
closed_longer rule (Some old) None cell Bound more closed = absurd more
closed_longer rule (Some old) (Some new) cell Bound more closed = omega arith

All_along : {A : Type 0} (P : A → Type 0) (xs ys : List A) → xs ≡ ys → All P xs → All P ys
All_along P xs ys same all = subst (All P) same all

longer : (rule : Goal) (root : List (ℕ × ℕ)) (old new : Option Best) (boxes : List (List (ℕ × ℕ) × Why)) → IsNoLess (total_of old) (total_of new) → All (IsBoxFrom rule root (total_of old)) boxes
    → All (IsBoxFrom rule root (total_of new)) boxes
longer rule root old new boxes more all = λ k d below.
    let box = all k d below in
    record { closed = closed_longer rule (total_of old) (total_of new) _ _ more box.closed; met = box.met }

-- a search begins with one open cell
pub goes_from : (rule : Goal) (best : Option Best) (cells : List Cell) (cell : Cell) (turns : List (Option Why)) → IsSound rule best → cells ≡ cell ∷ []
    → IsNode (whole_cell rule.axes) (spans_of cell) → GoesOn rule (spans_of cell) best cells turns turns
goes_from rule best cells cell turns sound one node = record {
  turns = [];
  boxes = [];
  added = sym (append-nil turns);
  lead = record { left = λ others. ap (λ (cs : List Cell). open_cells cs ++ others) (sym one); closed = λ others. refl };
  way = record {
    sound = sound;
    node = node;
    boxes_are = λ k d below. absurd (omega arith);
    cells_are = All_along (λ (c : Cell). IsMetFrom rule (spans_of cell) (spans_of c)) (cell ∷ []) cells (sym one)
        (All-cons (λ (c : Cell). IsMetFrom rule (spans_of cell) (spans_of c)) cell [] (record { inside = whole (spans_of cell); met = inl refl })
        (All-nil (λ (c : Cell). IsMetFrom rule (spans_of cell) (spans_of c))));
  };
}

pub goes_covered : (rule : Goal) (root : List (ℕ × ℕ)) (best : Option Best) (cells : List Cell) (before after : List (Option Why)) → GoesOn rule root best cells before after
    → All (λ (c : Cell). Covers (whole_cell rule.axes) (spans_of c)) cells
goes_covered rule root best cells before after on = cells_covered rule root best cells on.boxes on.way

pub goes_on : (rule : Goal) (root : List (ℕ × ℕ)) (old new : Option Best) (cells left : List Cell) (before between after : List (Option Why)) → IsSound rule new
    → IsNoLess (total_of old) (total_of new) → GoesOn rule root old cells before between → Advances (IsClosedFor rule (total_of new)) (IsOpen rule) cells left between after
    → GoesOn rule root new left before after
goes_on rule root old new cells left before between after sound more on (inl closed) =
    let cell = closed.cell in
    let turn : Option Why = Some closed.why in
    let box : List (ℕ × ℕ) × Why = (spans_of cell, closed.why) in
    let P : Cell → Type 0 = λ c. IsMetFrom rule root (spans_of c) in
    let parts = All-last P left cell (All_along P cells (left ++ cell ∷ []) closed.closes.top on.way.cells_are) in
    let led = λ (others : List (List (ℕ × ℕ))).
    leads_closed (root ∷ others) others cell cells left on.turns (on.turns ++ turn ∷ []) (on.lead.left others) closed.why (record { top = closed.closes.top; turn = refl }) in
    record {
      turns = on.turns ++ turn ∷ [];
      boxes = on.boxes ++ box ∷ [];
      added = closed.closes.turn ∙ ap (λ (ts : List (Option Why)). ts ++ turn ∷ []) on.added ∙ append_assoc before on.turns (turn ∷ []);
      lead = record { left = λ others. (led others).left; closed = λ others. (led others).boxes ∙ ap (λ (l : List (List (ℕ × ℕ) × Why)). l ++ box ∷ []) (on.lead.closed others) };
      way = record {
        sound = sound;
        node = on.way.node;
        boxes_are = All-push (IsBoxFrom rule root (total_of new)) on.boxes box (longer rule root old new on.boxes more on.way.boxes_are) (record { closed = closed.reason; met = parts.1 });
        cells_are = parts.0;
      };
    }
goes_on rule root old new cells left before between after sound more on (inr open_) =
    let cell = spans_of open_.cell in
    let cuts = open_.cuts in
    let turn : Option Why = None in
    let P : Cell → Type 0 = λ c. IsMetFrom rule root (spans_of c) in
    let parts = All-last P cuts.rest open_.cell (All_along P cells (cuts.rest ++ open_.cell ∷ []) cuts.top on.way.cells_are) in
    let part : (c : Cell) → (spans_of c ≡ spans_of cuts.lower) ⊎ (spans_of c ≡ spans_of cuts.upper) → P c = λ c either.
    let is_half : IsHalf cell (spans_of c) = record { lower = spans_of cuts.lower; upper = spans_of cuts.upper; halves = cuts.halves; either = either } in
    record {
      inside = half root cell (spans_of c) parts.1.inside is_half;
      met = inr (record { node = cell; is_node = node_through (whole_cell rule.axes) root cell on.way.node parts.1.inside; is_open = open_.is_open; is_half = is_half });
    } in
    let led = λ (others : List (List (ℕ × ℕ))).
    leads_cut (root ∷ others) others open_.cell cells left on.turns (on.turns ++ turn ∷ []) (on.lead.left others)
    (record { rest = cuts.rest; lower = cuts.lower; upper = cuts.upper; top = cuts.top; cut = cuts.cut; halves = cuts.halves; turn = refl }) in
    record {
      turns = on.turns ++ turn ∷ [];
      boxes = on.boxes;
      added = cuts.turn ∙ ap (λ (ts : List (Option Why)). ts ++ turn ∷ []) on.added ∙ append_assoc before on.turns (turn ∷ []);
      lead = record { left = λ others. (led others).left; closed = λ others. (led others).boxes ∙ append-nil (boxes_from (root ∷ others) on.turns) ∙ on.lead.closed others };
      way = record {
        sound = sound;
        node = on.way.node;
        boxes_are = longer rule root old new on.boxes more on.way.boxes_are;
        cells_are = All_along P ((cuts.rest ++ cuts.upper ∷ []) ++ cuts.lower ∷ []) left (sym cuts.cut)
            (All-push P (cuts.rest ++ cuts.upper ∷ []) cuts.lower (All-push P cuts.rest cuts.upper parts.0 (part cuts.upper (inr refl))) (part cuts.lower (inl refl)));
      };
    }

-- where no cell is open any more, the search has come to its end
pub gone : (rule : Goal) (root : List (ℕ × ℕ)) (best : Option Best) (cells : List Cell) (before after : List (Option Why)) → cells ≡ [] → GoesOn rule root best cells before after
    → IsSearched rule root best before after
gone rule root best cells before after none on = record {
  turns = on.turns;
  boxes = on.boxes;
  added = on.added;
  left = λ others. on.lead.left others ∙ ap (λ (cs : List Cell). open_cells cs ++ others) none;
  closed = on.lead.closed;
  boxes_are = on.way.boxes_are;
}

pub claimed_best : (rule : Goal) (best : Option Best) → IsSound rule best → IsClaimed rule (total_of best) (fixes_of rule best)
claimed_best rule None sound = refl
claimed_best rule (Some best) sound = (places_of best.tuple, sound, refl)

-- boxes that part all tuples, each closed for the total, are a certificate
pub certificate_made : (rule : Goal) (best : Option Best) (boxes : List (List (ℕ × ℕ) × Why)) → IsSound rule best → IsFrontier (whole_cell rule.axes) (map (λ box. box.0) boxes)
    → All (λ box. IsClosedFor rule (total_of best) box.0 box.1) boxes → IsCertificate rule (total_of best) (fixes_of rule best) boxes
certificate_made rule best boxes sound frontier closed =
    record { claimed = claimed_best rule best sound; frontier = frontier; closed = closed }
