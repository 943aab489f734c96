use Rattle.std.proofs.Common.{◌∙◌, sym, ap, refl, subst, take, Option, ℕ, Some}
use Rattle.std.specs.Prelude.{IfSome}
use Rattle.std.proofs.lemmas.Bool.{false≢true}
use Rattle.gl_box.specs.declared.cell.Cell.{Cell}
use Rattle.gl_box.specs.Cell.{Covers, spans_of}
use Rattle.gl_box.specs.Tuple.{places_of}
use Rattle.gl_goal.specs.Goal.{whole_cell}
use Rattle.gl_replay.specs.Code.Workers.{worker_of}
use Rattle.gl_replay.proofs.Kept.{illegal_not_kept, keeps_made, less_not_kept, several_not_kept}
use Rattle.gl_plain.proofs.Places.{lowest_tuple, tuple_along}
use Rattle.gl_replay.proofs.worker.Worker.keep.Goals as goal

pub returns-then-is_some : goal.returns-then-is_some
returns-then-is_some g c =
    (several_not_kept (g.G.Goal.rule c.args.goal.now) c.args.self.now c.in_ok-cell.cell c.split.result c.in_ok-cell.was c.split.ensures.single.1 (sym c.if-is_some.ensures), refl)

pub legal-requires : goal.legal-requires
legal-requires g c =
    let rule = g.G.Goal.rule c.args.goal.now in
    let cell = c.in_ok-cell.cell in
    let covers : Covers (whole_cell rule.axes) (spans_of cell) = subst (λ (hand : Option Cell). IfSome hand (λ held. Covers (whole_cell rule.axes) (spans_of held))) c.in_ok-cell.was c.requires in
    tuple_along rule.axes _ _ c.lowest-tuple.ensures (lowest_tuple rule.axes (take cell.axes cell.spans) (g.met.G.Goal.laws c.args.goal.now).some_fix covers)

pub returns-then-not-legal : goal.returns-then-not-legal
returns-then-not-legal g c = (
  illegal_not_kept (g.G.Goal.rule c.args.goal.now) c.args.self.now c.in_ok-cell.cell c.lowest-tuple.result c.in_ok-cell.was c.lowest-tuple.ensures
      (λ legal. false≢true (sym c.if-not-legal.true ∙ c.legal.ensures.1 legal)),
  refl,
)

pub returns-then-not-beats : goal.returns-then-not-beats
returns-then-not-beats g c = (
  less_not_kept (g.G.Goal.rule c.args.goal.now) c.args.self.now c.in_ok-cell.cell c.lowest-tuple.result c.value-total.result c.in_ok-cell.was c.lowest-tuple.ensures c.value-total.ensures
      (λ more. false≢true (sym c.if-not-beats.true ∙ c.beats.ensures.1 more)),
  refl,
)

pub returns : goal.returns
returns g c =
    let worker = worker_of c.args.self.now in
    let total = c.value-total.result in
    let places = places_of c.lowest-tuple.result in
    keeps_made (g.G.Goal.rule c.args.goal.now) c.args.self.now _ c.in_ok-cell.cell c.lowest-tuple.result total c.split.result c.in_ok-cell.was c.split.ensures.single.0
    (sym c.if-is_some.ensures) c.lowest-tuple.ensures
    (c.legal.ensures.0 c.if-not-legal.false) c.value-total.ensures (c.beats.ensures.0 c.if-not-beats.false)
    (ap (λ (seen : Option ℕ). record worker { seen = seen; kept = Some (total, places) }) c.greater-self.ensures)
