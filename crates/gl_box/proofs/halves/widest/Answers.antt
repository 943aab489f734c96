use Rattle.std.proofs.Common.{◌≡◌, ◌∙◌, sym, ap, ℕ, ◌<◌, ◌≤◌, arith}
use Rattle.gl_box.specs.Cell.{spans_of}
use Rattle.gl_box.specs.Halves.{span_at, width}
use Rattle.gl_box.proofs.Spans.{span_at-read, widest-more, widest-next, widest-next_or_same}
use Rattle.gl_box.proofs.halves.widest.Goals as goal
use Rattle.gl_box.proofs.halves.widest.Goals.{then-width-most, else-width-most}

wider_along : (a b m n : ℕ) → a ≡ m → b ≡ n → m < n → a < b
wider_along a b m n am bn less = omega arith

narrow_along : (a b m n : ℕ) → a ≡ m → b ≡ n → m ≤ n → a ≤ b
narrow_along a b m n am bn less = omega arith

pub loop-axis-preserved : goal.loop-axis-preserved
loop-axis-preserved c =
    let cell = c.args.cell.now in
    let all : cell.axes ≤ 10 = cell.ten_axes in
    let f = λ (axis : ℕ). width (span_at (spans_of cell) axis) in
    let here : f c.loop-axis.axis ≡ c.width-width.result = ap width (span_at-read cell.axes cell.spans c.loop-axis.axis c.index-cell-axis.result (omega arith) (omega arith))
    ∙ sym c.width-width.ensures in
    let best : f c.loop-axis.widest ≡ c.loop-axis.most = sym c.loop-axis.invariant.most in
    elim c.if-width-most.branch [
      | then-width-most w ↦
          let wider : f c.loop-axis.widest < f c.loop-axis.axis = wider_along _ _ _ _ best here w.if-width-most.true in
          record {
            most = w.most-is ∙ sym here ∙ ap f (sym w.widest-is);
            before = omega (arith, w.widest-is);
            inside = omega (arith, w.widest-is);
            widest = rw w.widest-is (widest-next_or_same f c.loop-axis.widest c.loop-axis.axis wider c.loop-axis.invariant.widest);
            lowest = rw w.widest-is (widest-next f c.loop-axis.widest c.loop-axis.axis wider c.loop-axis.invariant.widest);
          }
      | else-width-most w ↦
          let narrow : f c.loop-axis.axis ≤ f c.loop-axis.widest = narrow_along _ _ _ _ here best w.if-width-most.false in
          record {
            most = w.most-is ∙ c.loop-axis.invariant.most ∙ ap f (sym w.widest-is);
            before = omega (arith, w.widest-is);
            inside = omega (arith, w.widest-is);
            widest = rw w.widest-is (widest-more f c.loop-axis.widest c.loop-axis.axis narrow c.loop-axis.invariant.widest);
            lowest = rw w.widest-is c.loop-axis.invariant.lowest;
          }
    ]

pub loop-axis-init : goal.loop-axis-init
loop-axis-init c =
    let cell = c.args.cell.now in
    let f = λ (axis : ℕ). width (span_at (spans_of cell) axis) in
    let first : f 0 ≡ c.width-most.result = ap width (span_at-read cell.axes cell.spans 0 c.index-cell-0.result (omega (arith, cell.some_axis)) (omega (arith, cell.ten_axes, cell.ten_spans)))
    ∙ sym c.width-most.ensures in
    record {
      most = sym first;
      before = omega arith;
      inside = omega (arith, cell.some_axis);
      widest = λ other below. let zero : other ≡ 0 = omega arith in omega (arith, ap f zero);
      lowest = λ other below. absurd (omega arith);
    }
