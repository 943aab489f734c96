use Rattle.std.proofs.Common.{◌≡◌, ◌∙◌, sym, ap, refl, ℕ, arith, below_more}
use Rattle.gl_box.specs.Cell.{spans_of}
use Rattle.gl_box.specs.Tuple.{places_of}
use Rattle.gl_box.proofs.Spans.{against, get_or-places_of, length-places_of, length-spans_of, order_along, span_at-spans_of}
use Rattle.gl_box.proofs.Held.{holds_at, holds_from, length-holds}
use Rattle.gl_box.proofs.holding.has.Goals as goal
use Rattle.gl_box.proofs.holding.has.Goals.{then-place-span-via-then-place-span, then-place-span-via-else-place-span+then-span-place}

low : {s t : ℕ × ℕ} → s ≡ t → s.0 ≡ t.0
low same = ap (λ (s : ℕ × ℕ). s.0) same

high : {s t : ℕ × ℕ} → s ≡ t → s.1 ≡ t.1
high same = ap (λ (s : ℕ × ℕ). s.1) same

pub returns-then-cell-tuple : goal.returns-then-cell-tuple
returns-then-cell-tuple c =
    let cell = c.args.cell.now in
    let tuple = c.args.tuple.now in
    (λ yes. absurd (cc), λ held. absurd (c.if-cell-tuple.true (sym (length-spans_of cell) ∙ length-holds _ _ held ∙ length-places_of tuple)))

pub returns-then-place-span : goal.returns-then-place-span
returns-then-place-span c =
    let cell = c.args.cell.now in
    let tuple = c.args.tuple.now in
    let axis = c.loop-axis.axis in
    let s = span_at-spans_of cell axis c.index-cell-axis.result c.loop-axis-test.true in
    let p = get_or-places_of tuple axis (omega arith) in (
      λ yes. absurd (cc),
      λ held.
          let at = holds_at (spans_of cell) (places_of tuple) axis held (omega (arith, length-spans_of cell)) in
          elim c.then-place-span.branch [
            | then-place-span-via-then-place-span w ↦ absurd (against _ _ _ _ (low s) p at.0 w.if-place-span.true)
            | then-place-span-via-else-place-span+then-span-place w ↦ absurd (against _ _ _ _ p (high s) at.1 w.if-span-place.true)
          ],
    )

pub loop-axis-preserved : goal.loop-axis-preserved
loop-axis-preserved c =
    let cell = c.args.cell.now in
    let tuple = c.args.tuple.now in
    let axis = c.loop-axis.axis in
    let s = span_at-spans_of cell axis c.index-cell-axis.result c.loop-axis-test.true in
    let p = get_or-places_of tuple axis (omega arith) in
    below_more _ axis c.loop-axis.invariant
    (order_along _ _ _ _ (low s) p c.if-place-span.false, order_along _ _ _ _ p (high s) c.if-span-place.false)

pub returns : goal.returns
returns c =
    let cell = c.args.cell.now in
    let tuple = c.args.tuple.now in
    let same : cell.axes ≡ tuple.axes = omega arith in (
      λ yes. holds_from _ _ (length-spans_of cell ∙ same ∙ sym (length-places_of tuple)) (λ k below. c.loop-axis.invariant k (omega (arith, length-spans_of cell, c.loop-axis-test.false))),
      λ held. refl,
    )
