use Rattle.std.proofs.Common.{◌∙◌, sym, ap, refl, ℕ, ◌<◌, List, length, get_or, arith}
use Rattle.gl_box.specs.Tuple.{places_of}
use Rattle.gl_box.proofs.Spans.{length-places_of}
use Rattle.gl_goal.specs.Lemmas.Points.{get_or-chosen, length-chosen, place_within}
use Rattle.gl_goal.specs.Goal.{IsTuple}
use Rattle.gl_check.proofs.Choices.{chosen_from, tuple_from}
use Rattle.gl_check.proofs.choice.tuple_of.Goals as goal

pub returns-then-fixes-axes-clause-none : goal.returns-then-fixes-axes-clause-none
returns-then-fixes-axes-clause-none g c = λ none tuple fits same.
    let axes = (g.G.Goal.rule c.args.goal.now).axes in
    c.if-fixes-axes.true (ap length same ∙ length-chosen axes tuple fits ∙ sym c.axes-axes.ensures)

pub returns-in_err-place-clause-none : goal.returns-in_err-place-clause-none
returns-in_err-place-clause-none g c = λ none tuple fits same.
    let axes = (g.G.Goal.rule c.args.goal.now).axes in
    let axis = c.loop-axis.axis in
    let inside : axis < length axes = omega (arith, c.axes-axes.ensures, c.loop-axis-test.true) in
    c.in_err-place.ensures.none refl (get_or tuple axis 0) (place_within axes tuple axis fits inside)
    (sym (get_or-chosen axes tuple axis fits inside) ∙ ap (λ (l : List ℕ). get_or l axis 0) (sym same))

fits : (g : _) (c : goal.After-loop-axis g) → IsTuple (g.G.Goal.rule c.args.goal.now).axes (places_of c.loop-axis.tuple)
fits g c =
    let axes = (g.G.Goal.rule c.args.goal.now).axes in
    tuple_from axes (places_of c.loop-axis.tuple) (length-places_of c.loop-axis.tuple ∙ c.loop-axis.invariant.axes)
    (λ k below. c.loop-axis.invariant.within k (omega (arith, below, c.axes-axes.ensures, c.loop-axis-test.false)))

pub returns-clause-fits : goal.returns-clause-fits
returns-clause-fits g c = fits g c

pub returns-clause-chosen : goal.returns-clause-chosen
returns-clause-chosen g c =
    let axes = (g.G.Goal.rule c.args.goal.now).axes in
    chosen_from axes (places_of c.loop-axis.tuple) c.args.fixes.now (fits g c) (c.if-fixes-axes.false ∙ c.axes-axes.ensures)
    (λ k below. c.loop-axis.invariant.there k (omega (arith, below, c.axes-axes.ensures, c.loop-axis-test.false)))
