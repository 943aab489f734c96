use Rattle.std.proofs.Common.{◌≡◌, ◌∙◌, ap, refl, ℕ, ◌<◌, arith}
use Rattle.gl_box.specs.Halves.{width}
use Rattle.gl_box.proofs.Spans.{length-spans, single-from_widest, span_at-read}
use Rattle.gl_box.proofs.Ways.{is_fork}
use Rattle.gl_box.proofs.way.lower.Goals as goal

no_width : (span : ℕ × ℕ) (lo hi : ℕ) → span ≡ (lo, hi) → lo ≡ hi → width span ≡ 0
no_width span lo hi is same = ap width is ∙ omega arith

pub returns-then-span : goal.returns-then-span
returns-then-span c =
    let cell = c.args.cell.now in
    let axis = c.widest-axis.result in
    let inside : axis < cell.axes = omega (arith, c.widest-axis.ensures.inside, length-spans cell.axes cell.spans, cell.ten_axes, cell.ten_spans) in
    let read = span_at-read cell.axes cell.spans axis c.index-cell-axis.result inside (omega (arith, cell.ten_axes, cell.ten_spans)) in
    (single-from_widest cell.axes cell.spans axis c.index-cell-axis.result (no_width _ _ _ read c.if-span.true) c.widest-axis.ensures, refl)

pub returns : goal.returns
returns c =
    let cell = c.args.cell.now in
    let axis = c.widest-axis.result in
    let inside : axis < cell.axes = omega (arith, c.widest-axis.ensures.inside, length-spans cell.axes cell.spans, cell.ten_axes, cell.ten_spans) in
    let read = span_at-read cell.axes cell.spans axis c.index-cell-axis.result inside (omega (arith, cell.ten_axes, cell.ten_spans)) in
    is_fork _ _ _ _ c.widest-axis.ensures read refl refl c.set.ensures.spans
