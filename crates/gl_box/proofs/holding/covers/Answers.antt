use Rattle.std.proofs.Common.{◌≡◌, ◌∙◌, sym, ap, refl, ℕ, arith, below_more}
use Rattle.gl_box.specs.Cell.{spans_of}
use Rattle.gl_box.proofs.Spans.{against, length-spans_of, order_along, span_at-spans_of}
use Rattle.gl_box.proofs.Held.{covers_at, covers_from, length-covers}
use Rattle.gl_box.proofs.holding.covers.Goals as goal
use Rattle.gl_box.proofs.holding.covers.Goals.{then-span-around-via-then-span-around, then-span-around-via-else-span-around+then-around-span}

low : {s t : ℕ × ℕ} → s ≡ t → s.0 ≡ t.0
low same = ap (λ (s : ℕ × ℕ). s.0) same

high : {s t : ℕ × ℕ} → s ≡ t → s.1 ≡ t.1
high same = ap (λ (s : ℕ × ℕ). s.1) same

pub returns-then-outer-inner : goal.returns-then-outer-inner
returns-then-outer-inner c =
    let outer = c.args.outer.now in
    let inner = c.args.inner.now in
    (λ yes. absurd (cc), λ covers. absurd (c.if-outer-inner.true (sym (length-spans_of outer) ∙ length-covers _ _ covers ∙ length-spans_of inner)))

pub returns-then-span-around : goal.returns-then-span-around
returns-then-span-around c =
    let outer = c.args.outer.now in
    let inner = c.args.inner.now in
    let axis = c.loop-axis.axis in
    let o = span_at-spans_of outer axis c.index-outer-axis.result c.loop-axis-test.true in
    let i = span_at-spans_of inner axis c.index-inner-axis.result (omega arith) in (
      λ yes. absurd (cc),
      λ covers.
          let at = covers_at (spans_of outer) (spans_of inner) axis covers (omega (arith, length-spans_of outer)) in
          elim c.then-span-around.branch [
            | then-span-around-via-then-span-around w ↦ absurd (against _ _ _ _ (low o) (low i) at.0 w.if-span-around.true)
            | then-span-around-via-else-span-around+then-around-span w ↦ absurd (against _ _ _ _ (high i) (high o) at.1 w.if-around-span.true)
          ],
    )

pub loop-axis-preserved : goal.loop-axis-preserved
loop-axis-preserved c =
    let outer = c.args.outer.now in
    let inner = c.args.inner.now in
    let axis = c.loop-axis.axis in
    let o = span_at-spans_of outer axis c.index-outer-axis.result c.loop-axis-test.true in
    let i = span_at-spans_of inner axis c.index-inner-axis.result (omega arith) in
    below_more _ axis c.loop-axis.invariant
    (order_along _ _ _ _ (low o) (low i) c.if-span-around.false, order_along _ _ _ _ (high i) (high o) c.if-around-span.false)

pub returns : goal.returns
returns c =
    let outer = c.args.outer.now in
    let inner = c.args.inner.now in
    let same : outer.axes ≡ inner.axes = omega arith in (
      λ yes. covers_from _ _ (length-spans_of outer ∙ same ∙ sym (length-spans_of inner)) (λ k below. c.loop-axis.invariant k (omega (arith, length-spans_of outer, c.loop-axis-test.false))),
      λ covers. refl,
    )
