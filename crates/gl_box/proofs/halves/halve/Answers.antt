use Rattle.std.proofs.Common.{◌≡◌, ◌∙◌, sym, ap, refl, ℕ, ◌<◌, ◌≤◌, get_or, arith}
use Rattle.gl_box.specs.Cell.{spans_of}
use Rattle.gl_box.specs.Halves.{width}
use Rattle.gl_box.proofs.Spans.{halves_made, length-spans, single-from_widest, single-narrow, span_at-read}
use Rattle.gl_box.proofs.halves.halve.Goals as goal

no_width : (span : ℕ × ℕ) (lo hi : ℕ) → span ≡ (lo, hi) → lo ≡ hi → width span ≡ 0
no_width span lo hi is same = ap width is ∙ omega arith

pub returns-then-span-clause-single : goal.returns-then-span-clause-single
returns-then-span-clause-single c =
    let cell = c.args.cell.now in
    let axis = c.widest-axis.result in
    let inside : axis < cell.axes = omega (arith, c.widest-axis.ensures.inside, length-spans cell.axes cell.spans, cell.ten_axes, cell.ten_spans) in
    let read = span_at-read cell.axes cell.spans axis c.index-cell-axis.result inside (omega (arith, cell.ten_axes, cell.ten_spans)) in
    (λ none. single-from_widest cell.axes cell.spans axis c.index-cell-axis.result (no_width _ _ _ read c.if-span.true) c.widest-axis.ensures, λ single. refl)

pub returns-clause-single : goal.returns-clause-single
returns-clause-single c =
    let cell = c.args.cell.now in
    let axis = c.widest-axis.result in
    let inside : axis < cell.axes = omega (arith, c.widest-axis.ensures.inside, length-spans cell.axes cell.spans, cell.ten_axes, cell.ten_spans) in
    let read = span_at-read cell.axes cell.spans axis c.index-cell-axis.result inside (omega (arith, cell.ten_axes, cell.ten_spans)) in
    let low = ap (λ (s : ℕ × ℕ). s.0) read in
    let high = ap (λ (s : ℕ × ℕ). s.1) read in
    (λ some. absurd (cc), λ single. absurd (c.if-span.false (sym low ∙ single-narrow (spans_of cell) axis single c.widest-axis.ensures.inside ∙ high)))

below : (a b : ℕ) → a ≤ b → (a ≡ b → ⊥) → a < b
below a b order other = omega arith

pub returns-clause-halves : goal.returns-clause-halves
returns-clause-halves c =
    let cell = c.args.cell.now in
    let axis = c.widest-axis.result in
    let span = get_or cell.spans axis c.index-cell-axis.result in
    let inside : axis < cell.axes = omega (arith, c.widest-axis.ensures.inside, length-spans cell.axes cell.spans, cell.ten_axes, cell.ten_spans) in
    let read = span_at-read cell.axes cell.spans axis c.index-cell-axis.result inside (omega (arith, cell.ten_axes, cell.ten_spans)) in
    halves_made _ _ _ axis (span.lo, span.hi) _ c.widest-axis.ensures read (below span.lo span.hi span.ordered c.if-span.false) refl c.set.ensures.spans c.set-2.ensures.spans
