use Rattle.std.proofs.Common.{◌≡◌, ◌≢◌, ◌∙◌, sym, ap, ℕ, ◌+◌, ◌<◌, List, [], length, get_or, slice_set, ◌-◌, arith, below_more}
use Rattle.std.proofs.lemmas.List.{get_or-set_other, get_or-set_same, get_or_default, same_lists}
use Rattle.gl_box.specs.Cell.{spans_of}
use Rattle.gl_box.specs.Halves.{span_at}
use Rattle.gl_box.proofs.Spans.{length-spans_of}
use Rattle.gl_goal.specs.Goal.{whole_cell}
use Rattle.gl_goal.proofs.Order.{length-whole, span_at-whole}
use Rattle.gl_goal.proofs.opening.whole.Goals as goal

pub first-requires-clause-some : goal.first-requires-clause-some
first-requires-clause-some g c = let goal = g.met.G.Goal.laws c.args.goal.now in omega (arith, goal.some_axis, c.axes-axes.ensures)

pub first-requires-clause-most : goal.first-requires-clause-most
first-requires-clause-most g c = let goal = g.met.G.Goal.laws c.args.goal.now in omega (arith, goal.ten_axes, c.axes-axes.ensures)

pub loop-axis-init : goal.loop-axis-init
loop-axis-init g c = record {
  axes = c.point-cell.ensures.axes ∙ c.first.ensures.axes ∙ c.axes-axes.ensures;
  so_far = λ k below. absurd (omega arith);
}

pub set-requires : goal.set-requires
set-requires g c = omega (arith, c.loop-axis.invariant.axes, c.axes-axes.ensures, c.loop-axis-test.true)

set_more : (xs ys : List (ℕ × ℕ)) (f : ℕ → ℕ × ℕ) (axis : ℕ) → ys ≡ slice_set xs axis (f axis) → axis < length xs → ((k : ℕ) → k < axis → span_at xs k ≡ f k) → (k : ℕ) → k < axis + 1
    → span_at ys k ≡ f k
set_more xs ys f axis is inside before =
    below_more _ axis
    (λ k less. let other : k ≢ axis = omega arith in ap (λ (zs : List (ℕ × ℕ)). span_at zs k) is ∙ get_or-set_other xs axis k (f axis) (0, 0) other ∙ before k less)
    (ap (λ (zs : List (ℕ × ℕ)). span_at zs axis) is ∙ get_or-set_same xs axis (f axis) (0, 0) inside)

pub loop-axis-preserved : goal.loop-axis-preserved
loop-axis-preserved g c =
    let axes = (g.G.Goal.rule c.args.goal.now).axes in
    let cell = c.loop-axis.cell in
    let axis = c.loop-axis.axis in
    let inside : axis < length (spans_of cell) = omega (arith, length-spans_of cell, c.loop-axis.invariant.axes, c.axes-axes.ensures, c.loop-axis-test.true) in
    record {
      axes = c.set.ensures.axes ∙ c.loop-axis.invariant.axes;
      so_far = set_more (spans_of cell) (spans_of c.set.new.self) (λ k. (0, length (get_or axes k []) - 1)) axis (c.set.ensures.spans
          ∙ ap (λ (n : ℕ). slice_set (spans_of cell) axis (0, n - 1)) c.len.ensures) inside c.loop-axis.invariant.so_far;
    }

pub returns : goal.returns
returns g c =
    let axes = (g.G.Goal.rule c.args.goal.now).axes in
    let cell = c.loop-axis.cell in
    let long : length (spans_of cell) ≡ length axes = length-spans_of cell ∙ c.loop-axis.invariant.axes in
    same_lists (spans_of cell) (whole_cell axes) (long ∙ sym (length-whole axes))
    (λ k d below.
    let inside : k < length axes = omega (arith, long) in
    get_or_default (spans_of cell) k d (0, 0) below
    ∙ c.loop-axis.invariant.so_far k (omega (arith, c.axes-axes.ensures, c.loop-axis-test.false))
    ∙ sym (span_at-whole axes k inside)
    ∙ get_or_default (whole_cell axes) k (0, 0) d (omega (arith, length-whole axes)))
