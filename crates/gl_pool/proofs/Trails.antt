-- What becomes of a worker's trail with each step.
use Rattle.std.proofs.Common.{◌≡◌, ◌∙◌, sym, ap, refl, ℕ, List, [], ◌∷◌, ◌++◌, map, append_assoc}
use Rattle.std.specs.Prelude.{Option, None}
use Rattle.std.proofs.lemmas.List.{append-nil}
use Rattle.gl_box.specs.declared.cell.Cell.{Cell}
use Rattle.gl_box.specs.declared.closed.Why.{Why}
use Rattle.gl_box.specs.Along.{Closes, Cuts}
use Rattle.gl_box.specs.Cell.{spans_of}
use Rattle.gl_box.specs.Turns.{boxes_from, left_open, reason_of}
use Rattle.gl_box.specs.Walk.{open_cells}
use Rattle.gl_box.proofs.Frontiers.{open_cells-append}
use Rattle.gl_box.proofs.Turns.{Leads, leads_closed, leads_cut}
use Rattle.gl_order.specs.Runs.{IsPassed, boxes_by, boxes_in_runs}
use Rattle.gl_pool.specs.declared.trail.Trail.{Trail}
use Rattle.gl_pool.specs.Code.Trail.{IsTrail}
use Rattle.gl_pool.specs.Trail.{boxes_in}

-- the cells that are open before the last run, and its turns
abbrev pub begun : Trail → List (List (ℕ × ℕ))
begun trail = open_cells trail.last.before.items

abbrev pub turns_in : Trail → List (Option Why)
turns_in trail = map reason_of trail.last.turns.items

-- turns are added: where they lead, and which boxes join the others
pub record Adds (trail : Trail) (after : List (Option Why)) (cells : List Cell) (closed : List (List (ℕ × ℕ) × Why)) : Type 0 where
  pub leads : left_open (begun trail) after ≡ open_cells (trail.last.after.items ++ cells)
  pub boxes : boxes_in_runs trail.runs.items ++ boxes_from (begun trail) after ≡ boxes_in trail ++ closed

adds : (trail : Trail) (after : List (Option Why)) (cells : List Cell) (closed : List (List (ℕ × ℕ) × Why)) → Leads (begun trail) (turns_in trail) after cells (open_cells trail.last.after.items) closed
    → Adds trail after cells closed
adds trail after cells closed led =
    let runs = boxes_in_runs trail.runs.items in
    record {
      leads = led.left ∙ sym (open_cells-append trail.last.after.items cells);
      boxes = ap (λ (l : List (List (ℕ × ℕ) × Why)). runs ++ l) led.boxes ∙ sym (append_assoc runs (boxes_by trail.last) closed);
    }

-- the last of a worker's cells is closed
pub closed_on : (trail : Trail) (cell : Cell) (cells rest : List Cell) (after : List (Option Why)) (why : Why) → IsTrail trail cells → Closes cell cells rest (turns_in trail) after why
    → Adds trail after rest ((spans_of cell, why) ∷ [])
closed_on trail cell cells rest after why way closes =
    let behind = trail.last.after.items in
    adds trail after rest _ (leads_closed (begun trail) (open_cells behind) cell cells rest (turns_in trail) after (way.leads ∙ open_cells-append behind cells) why closes)

-- the last of a worker's cells is cut
pub cut_on : (trail : Trail) (cell : Cell) (cells halved : List Cell) (after : List (Option Why)) → IsTrail trail cells → Cuts cell cells halved (turns_in trail) after → Adds trail after halved []
cut_on trail cell cells halved after way cuts =
    let behind = trail.last.after.items in
    adds trail after halved [] (leads_cut (begun trail) (open_cells behind) cell cells halved (turns_in trail) after (way.leads ∙ open_cells-append behind cells) cuts)

-- the first of a worker's cells is put behind them
pub put_on : (trail : Trail) (cells rest opened : List Cell) (cell : Cell) → IsTrail trail cells → cells ≡ cell ∷ rest → opened ≡ trail.last.after.items ++ cell ∷ []
    → left_open (begun trail) (turns_in trail) ≡ open_cells (opened ++ rest)
put_on trail cells rest opened cell way first put =
    let after = trail.last.after.items in
    way.leads ∙ ap open_cells (ap (λ (l : List Cell). after ++ l) first ∙ sym (append_assoc after (cell ∷ []) rest) ∙ ap (λ (l : List Cell). l ++ rest) (sym put))

-- a worker has no cell any more
pub run_done : (trail : Trail) → IsTrail trail [] → IsPassed trail.last
run_done trail way = way.leads ∙ ap open_cells (append-nil trail.last.after.items)
