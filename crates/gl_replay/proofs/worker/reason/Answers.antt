use Rattle.std.proofs.Common.{◌∙◌, sym, subst, ℕ, ◌≤◌, Option, arith}
use Rattle.std.specs.Prelude.{IsSomeAnd}
use Rattle.std.proofs.lemmas.Bool.{false≢true}
use Rattle.gl_box.specs.declared.closed.Why.{Why}
use Rattle.gl_box.specs.Cell.{spans_of}
use Rattle.gl_replay.specs.Machine.{IsFirstReason}
use Rattle.gl_replay.proofs.Kept.{open_above, open_alone, open_by}
use Rattle.gl_replay.proofs.worker.reason.Goals as goal

pub returns-then-disordered : goal.returns-then-disordered
returns-then-disordered g c = c.disordered.ensures.0 c.if-disordered.true

pub returns-then-shut : goal.returns-then-shut
returns-then-shut g c = (λ disordered. false≢true (sym c.if-disordered.false ∙ c.disordered.ensures.1 disordered), c.shut.ensures.0 c.if-shut.true)

pub returns-in-Some : goal.returns-in-Some
returns-in-Some g c =
    let rule = g.G.Goal.rule c.args.goal.now in
    let cell = spans_of c.args.cell.now in (
      open_by rule cell c.disordered.result c.shut.result c.disordered.ensures.1 c.shut.ensures.1 c.if-disordered.false c.if-shut.false,
      subst (λ (total : Option ℕ). IsSomeAnd total (λ greatest. rule.bound cell ≤ greatest)) (sym c.in-Some.is)
          (subst (λ (least : ℕ). least ≤ c.in-Some.total) c.bound.ensures c.if-bound-total.true),
    )

pub returns-in_default : goal.returns-in_default
returns-in_default g c =
    let rule = g.G.Goal.rule c.args.goal.now in
    let cell = spans_of c.args.cell.now in
    subst (λ (total : Option ℕ). (why : Why) → IsFirstReason rule total cell why → ⊥) (sym c.in-Some.is)
    (open_above rule c.in-Some.total cell (open_by rule cell c.disordered.result c.shut.result c.disordered.ensures.1 c.shut.ensures.1 c.if-disordered.false c.if-shut.false) (omega (arith, c.if-bound-total.false, c.bound.ensures)))

pub returns-in_default-2 : goal.returns-in_default-2
returns-in_default-2 g c =
    let rule = g.G.Goal.rule c.args.goal.now in
    let cell = spans_of c.args.cell.now in
    subst (λ (total : Option ℕ). (why : Why) → IsFirstReason rule total cell why → ⊥) (sym c.in_default.is)
    (open_alone rule cell (open_by rule cell c.disordered.result c.shut.result c.disordered.ensures.1 c.shut.ensures.1 c.if-disordered.false c.if-shut.false))
