-- What a worker does with the cell in its hand, and what it can't.
use Rattle.std.proofs.Common.{◌≡◌, ◌∙◌, sym, ap, refl, subst, inr, ℕ, ◌<◌, Bool, true, false, List, map, arith}
use Rattle.std.specs.Prelude.{IfSome, IsNone, Option, Some, None, option_map}
use Rattle.std.specs.Option.{is_some}
use Rattle.std.proofs.lemmas.Bool.{false≢true}
use Rattle.std.proofs.lemmas.List.Elements.{All-map}
use Rattle.gl_box.specs.declared.cell.Cell.{Cell}
use Rattle.gl_box.specs.declared.closed.Why.{Why}
use Rattle.gl_box.specs.declared.closed.Why.TheVariants.{Bound, Disordered, Shut}
use Rattle.gl_box.specs.declared.tuple.Tuple.{Tuple}
use Rattle.gl_box.specs.Cell.{point, spans_of}
use Rattle.gl_box.specs.Halves.{IsSingle}
use Rattle.gl_box.specs.Tuple.{places_of}
use Rattle.gl_goal.specs.Goal.{Goal, IsDisordered, IsLegal, IsOpen, value}
use Rattle.gl_goal.specs.declared.best.Best.{Best}
use Rattle.gl_replay.specs.declared.worker.Worker as code
use Rattle.gl_replay.specs.Machine.{Closes, IsFirstReason, Keeps, Tries, Worker, greater}
use Rattle.gl_replay.specs.Code.Workers.{kept_of, worker_of}
use Rattle.gl_box.proofs.Lows.{single_low, point_low}

held_spans : (worker : code.Worker) (cell : Cell) (spans : List (ℕ × ℕ)) → worker.hand ≡ Some cell → (worker_of worker).hand ≡ Some spans → spans_of cell ≡ spans
held_spans worker cell spans is held =
    let both : Some (spans_of cell) ≡ Some spans = sym (ap (option_map spans_of) is) ∙ held in cc

-- a cell is open if both tests say no
pub open_by : (rule : Goal) (cell : List (ℕ × ℕ)) (disordered shut : Bool) → (IsDisordered rule.axes cell → disordered ≡ true) → (rule.shut cell ≡ true → shut ≡ true)
    → disordered ≡ false → shut ≡ false → IsOpen rule cell
open_by rule cell disordered shut told told_shut in_order not_shut = record {
  ordered = λ is. false≢true (sym in_order ∙ told is);
  not_shut = λ is. false≢true (sym not_shut ∙ told_shut is);
}

-- an open cell whose bound is above the total, if there is one, is closed by no reason
pub open_above : (rule : Goal) (most : ℕ) (cell : List (ℕ × ℕ)) → IsOpen rule cell → most < rule.bound cell → (why : Why) → IsFirstReason rule (Some most) cell why → ⊥
open_above rule most cell open_ above Disordered reason = open_.ordered reason
open_above rule most cell open_ above Shut reason = open_.not_shut reason.1
open_above rule most cell open_ above Bound reason = absurd (omega (arith, above, reason.1))

pub open_alone : (rule : Goal) (cell : List (ℕ × ℕ)) → IsOpen rule cell → (why : Why) → IsFirstReason rule None cell why → ⊥
open_alone rule cell open_ Disordered reason = open_.ordered reason
open_alone rule cell open_ Shut reason = open_.not_shut reason.1
open_alone rule cell open_ Bound reason = absurd reason.1

-- where no reason closes the cell
pub not_closed : (rule : Goal) (worker : code.Worker) (cell : Cell) → worker.hand ≡ Some cell → ((why : Why) → IsFirstReason rule worker.seen (spans_of cell) why → ⊥)
    → Tries (Closes rule) (worker_of worker) (worker_of worker)
not_closed rule worker cell is none = inr (
  λ other closes. none closes.why (subst (λ (c : List (ℕ × ℕ)). IsFirstReason rule worker.seen c closes.why) (sym (held_spans worker cell closes.cell is closes.held)) closes.reason),
  refl,
)

-- the cell of a tuple
point_single : (tuple : List ℕ) → IsSingle (point tuple)
point_single tuple = All-map (λ (span : ℕ × ℕ). span.0 ≡ span.1) (λ (place : ℕ). (place, place)) tuple (λ k d below. refl)

-- what is kept is the tuple in the hand
kept_tuple : (rule : Goal) (total : ℕ) (worker : code.Worker) (other : Worker) (cell : Cell) (tuple : Tuple) → worker.hand ≡ Some cell → places_of tuple ≡ map (λ span. span.0) (spans_of cell)
    → (keeps : Keeps rule total (worker_of worker) other) → keeps.tuple ≡ places_of tuple
kept_tuple rule total worker other cell tuple is low keeps =
    let spans = held_spans worker cell (point keeps.tuple) is keeps.held in
    sym (point_low keeps.tuple) ∙ ap (map (λ (span : ℕ × ℕ). span.0)) (sym spans) ∙ sym low

-- a cell of several tuples
pub several_not_kept : (rule : Goal) (worker : code.Worker) (cell : Cell) {X : Type 0} (halves : Option X) → worker.hand ≡ Some cell → (IsSingle (spans_of cell) → IsNone halves)
    → is_some halves ≡ true → (total : ℕ) (other : Worker) → Keeps rule total (worker_of worker) other → ⊥
several_not_kept rule worker cell halves is single some total other keeps =
    let spans = held_spans worker cell (point keeps.tuple) is keeps.held in
    let none = single (subst IsSingle (sym spans) (point_single keeps.tuple)) in
    false≢true (sym none ∙ some)

-- a tuple that isn't legal
pub illegal_not_kept : (rule : Goal) (worker : code.Worker) (cell : Cell) (tuple : Tuple) → worker.hand ≡ Some cell → places_of tuple ≡ map (λ span. span.0) (spans_of cell)
    → (IsLegal rule (places_of tuple) → ⊥) → (total : ℕ) (other : Worker) → Keeps rule total (worker_of worker) other → ⊥
illegal_not_kept rule worker cell tuple is low illegal total other keeps =
    illegal (subst (IsLegal rule) (kept_tuple rule total worker other cell tuple is low keeps) keeps.reached.legal)

kept_above : (kept : Option Best) (total : ℕ) → IfSome (kept_of kept) (λ k. k.0 < total) → IfSome kept (λ best. best.total < total)
kept_above None total above = tt
kept_above (Some best) total above = above

pub above_kept : (kept : Option Best) (total : ℕ) → IfSome kept (λ best. best.total < total) → IfSome (kept_of kept) (λ k. k.0 < total)
above_kept None total above = tt
above_kept (Some best) total above = above

-- a tuple that is worth no more than what was kept
pub less_not_kept : (rule : Goal) (worker : code.Worker) (cell : Cell) (tuple : Tuple) (worth : ℕ) → worker.hand ≡ Some cell → places_of tuple ≡ map (λ span. span.0) (spans_of cell)
    → worth ≡ value rule (places_of tuple) → (IfSome worker.kept (λ best. best.total < worth) → ⊥) → (total : ℕ) (other : Worker) → Keeps rule total (worker_of worker) other → ⊥
less_not_kept rule worker cell tuple worth is low value_is less total other keeps =
    let same : total ≡ worth = sym keeps.reached.worth ∙ ap (value rule) (kept_tuple rule total worker other cell tuple is low keeps) ∙ sym value_is in
    less (kept_above worker.kept worth (subst (λ (n : ℕ). IfSome (kept_of worker.kept) (λ k. k.0 < n)) same keeps.above))

-- the worker keeps the tuple
pub keeps_made : (rule : Goal) (worker : code.Worker) (changed : Worker) (cell : Cell) (tuple : Tuple) (total : ℕ) {X : Type 0} (halves : Option X) → worker.hand ≡ Some cell
    → (IsNone halves → IsSingle (spans_of cell)) → is_some halves ≡ false → places_of tuple ≡ map (λ span. span.0) (spans_of cell) → IsLegal rule (places_of tuple)
    → total ≡ value rule (places_of tuple) → IfSome worker.kept (λ best. best.total < total)
    → changed ≡ record (worker_of worker) { seen = greater worker.seen total; kept = Some (total, places_of tuple) } → Keeps rule total (worker_of worker) changed
keeps_made rule worker changed cell tuple total halves is single none low legal worth above changed_is = record {
  tuple = places_of tuple;
  held = ap (option_map spans_of) is ∙ ap Some (single_low (spans_of cell) (single none) ∙ ap point (sym low));
  reached = record { legal = legal; worth = sym worth };
  above = above_kept worker.kept total above;
  is = changed_is;
}
