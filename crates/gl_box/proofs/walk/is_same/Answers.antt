use Rattle.std.proofs.Common.{◌≡◌, ◌∙◌, sym, ap, refl, ℕ, List, length, below_more, arith}
use Rattle.std.proofs.lemmas.Bool.{false≢true}
use Rattle.std.proofs.lemmas.List.{get_or_default, same_lists}
use Rattle.gl_box.specs.Cell.{spans_of}
use Rattle.gl_box.specs.Halves.{span_at}
use Rattle.gl_box.proofs.Spans.{length-spans_of}
use Rattle.gl_box.proofs.walk.is_same.Goals as goal

pub returns-then-cell-other : goal.returns-then-cell-other
returns-then-cell-other c = (
  λ yes. absurd (false≢true yes),
  λ same. absurd (c.if-cell-other.true (sym (length-spans_of c.args.cell.now) ∙ ap length same ∙ length-spans_of c.args.other.now)),
)

pub returns-then-not-is_same_at : goal.returns-then-not-is_same_at
returns-then-not-is_same_at c = (
  λ yes. absurd (false≢true yes),
  λ same. absurd (false≢true (sym c.if-not-is_same_at.true ∙ c.is_same_at.ensures.1 (ap (λ (spans : List (ℕ × ℕ)). span_at spans c.loop-axis.axis) same))),
)

pub loop-axis-preserved : goal.loop-axis-preserved
loop-axis-preserved c =
    let one = spans_of c.args.cell.now in
    let other = spans_of c.args.other.now in
    below_more (λ k. span_at one k ≡ span_at other k) c.loop-axis.axis c.loop-axis.invariant (c.is_same_at.ensures.0 c.if-not-is_same_at.false)

pub returns : goal.returns
returns c =
    let one = c.args.cell.now in
    let other = c.args.other.now in (
      λ yes. same_lists (spans_of one) (spans_of other) (omega (arith, length-spans_of one, length-spans_of other))
          (λ k d below. get_or_default (spans_of one) k d (0, 0) below ∙ c.loop-axis.invariant k (omega (arith, length-spans_of one))
          ∙ sym (get_or_default (spans_of other) k d (0, 0) (omega (arith, length-spans_of one, length-spans_of other)))),
      λ same. refl,
    )
