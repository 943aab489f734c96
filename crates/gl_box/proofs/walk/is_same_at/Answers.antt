use Rattle.std.proofs.Common.{◌≡◌, ◌∙◌, sym, ap, ℕ, ◌<◌, get_or}
use Rattle.std.proofs.lemmas.Bool.{eq-eqb, eqb-true}
use Rattle.gl_box.specs.declared.cell.Cell.{Cell}
use Rattle.gl_box.specs.declared.span.Span.{Span}
use Rattle.gl_box.specs.Cell.{ends, spans_of}
use Rattle.gl_box.specs.Halves.{span_at}
use Rattle.gl_box.proofs.Spans.{span_at-spans_of}
use Rattle.gl_box.proofs.walk.is_same_at.Goals as goal

together : (one other : Cell) (axis : ℕ) (a b : Span) → axis < one.axes → axis < other.axes → (get_or one.spans axis a).lo ≡ (get_or other.spans axis b).lo
    → (get_or one.spans axis a).hi ≡ (get_or other.spans axis b).hi → span_at (spans_of one) axis ≡ span_at (spans_of other) axis
together one other axis a b inside also low high =
    span_at-spans_of one axis a inside ∙ (λ i. (low i, high i)) ∙ sym (span_at-spans_of other axis b also)

apart : (one other : Cell) (axis : ℕ) (a b : Span) → axis < one.axes → axis < other.axes → span_at (spans_of one) axis ≡ span_at (spans_of other) axis
    → ends (get_or one.spans axis a) ≡ ends (get_or other.spans axis b)
apart one other axis a b inside also same =
    sym (span_at-spans_of one axis a inside) ∙ same ∙ span_at-spans_of other axis b also

pub returns-then-span-next : goal.returns-then-span-next
returns-then-span-next c =
    let one = c.args.cell.now in
    let other = c.args.other.now in
    let a = c.index-cell-axis.result in
    let b = c.index-other-axis.result in (
      λ yes. together one other c.args.axis a b c.requires.one c.requires.two (eqb-true _ _ yes) c.if-span-next.true,
      λ same. eq-eqb _ _ (ap (λ (s : ℕ × ℕ). s.0) (apart one other c.args.axis a b c.requires.one c.requires.two same)),
    )

pub returns-else-span-next : goal.returns-else-span-next
returns-else-span-next c =
    let one = c.args.cell.now in
    let other = c.args.other.now in
    let a = c.index-cell-axis.result in
    let b = c.index-other-axis.result in (
      λ yes. absurd (c.if-span-next.false (eqb-true _ _ yes)),
      λ same. absurd (c.if-span-next.false (ap (λ (s : ℕ × ℕ). s.1) (apart one other c.args.axis a b c.requires.one c.requires.two same))),
    )
