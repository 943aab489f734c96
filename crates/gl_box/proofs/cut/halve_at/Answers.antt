use Rattle.std.proofs.Common.{◌≡◌, ◌∙◌, ap, refl, ℕ, ◌<◌, ◌≤◌, get_or, arith}
use Rattle.gl_box.specs.Halves.{width}
use Rattle.gl_box.proofs.Spans.{halves_made, length-spans, single-from_widest, span_at-read}
use Rattle.gl_box.proofs.cut.halve_at.Goals as goal

no_width : (span : ℕ × ℕ) (lo hi : ℕ) → span ≡ (lo, hi) → lo ≡ hi → width span ≡ 0
no_width span lo hi is same = ap width is ∙ omega arith

below : (a b : ℕ) → a ≤ b → (a ≡ b → ⊥) → a < b
below a b order other = omega arith

pub returns-then-span-clause-single : goal.returns-then-span-clause-single
returns-then-span-clause-single c =
    let cell = c.args.cell.now in
    let axis = c.args.axis in
    let inside : axis < cell.axes = omega (arith, c.requires.inside, length-spans cell.axes cell.spans, cell.ten_axes, cell.ten_spans) in
    let read = span_at-read cell.axes cell.spans axis c.index-cell-axis.result inside (omega (arith, cell.ten_axes, cell.ten_spans)) in
    single-from_widest cell.axes cell.spans axis c.index-cell-axis.result (no_width _ _ _ read c.if-span.true) c.requires

pub returns-clause-halves : goal.returns-clause-halves
returns-clause-halves c =
    let cell = c.args.cell.now in
    let axis = c.args.axis in
    let span = get_or cell.spans axis c.index-cell-axis.result in
    let inside : axis < cell.axes = omega (arith, c.requires.inside, length-spans cell.axes cell.spans, cell.ten_axes, cell.ten_spans) in
    let read = span_at-read cell.axes cell.spans axis c.index-cell-axis.result inside (omega (arith, cell.ten_axes, cell.ten_spans)) in
    halves_made _ _ _ axis (span.lo, span.hi) _ c.requires read (below span.lo span.hi span.ordered c.if-span.false) refl c.set-2.ensures.spans c.set.ensures.spans
