use Rattle.std.proofs.Common.{◌≡◌, ◌∙◌, sym, ap, subst, ℕ, ◌+◌, ◌<◌, List, ◌∷◌, ◌++◌, length, map, slice_set, take, arith}
use Rattle.std.specs.Prelude.{All}
use Rattle.std.proofs.lemmas.List.{drop-set-lt, drop_more, length-drop, length-set}
use Rattle.std.proofs.lemmas.List.Elements.{All-push, All-rest}
use Rattle.gl_box.specs.declared.span.Span.{Span}
use Rattle.gl_box.specs.Cell.{ends}
use Rattle.gl_proof.specs.Words.{IsSpan, spaced, span_word}
use Rattle.gl_proof.proofs.Words.{next_word, no_word, span_next_stops, word_taken}
use Rattle.gl_proof.proofs.Lines.{ends_more, length-read, spans_on}
use Rattle.gl_proof.proofs.line.spans_into.Goals as goal

pub returns-then-axes-eq-MOST_AXES : goal.returns-then-axes-eq-MOST_AXES
returns-then-axes-eq-MOST_AXES c =
    λ spans more at.
    let l = c.axes in
    let i = l.invariant in
    let xs = map ends (take l.axes l.cell.spans) in
    let next = next_word span_word IsSpan xs spans l.rest.now c.in-Some.word.now more c.in-Some.ensures
    (spans_on l.axes l.cell.spans c.args.text.now l.rest.now spans more i.few i.ten i.is i.each i.stops at) in
    absurd (omega (arith, next.0, length-read l.axes l.cell.spans i.few i.ten, c.if-axes-eq-MOST_AXES.true, at.are_spans.most))

pub returns-in_default-common_span_at : goal.returns-in_default-common_span_at
returns-in_default-common_span_at c =
    λ spans more at.
    let l = c.axes in
    let i = l.invariant in
    let xs = map ends (take l.axes l.cell.spans) in
    let next = next_word span_word IsSpan xs spans l.rest.now c.in-Some.word.now more c.in-Some.ensures
    (spans_on l.axes l.cell.spans c.args.text.now l.rest.now spans more i.few i.ten i.is i.each i.stops at) in
    c.in_default-common_span_at.ensures next.1.next (spaced (map span_word next.1.others) ++ 10 ∷ more)
    (record { is_span = next.1.is_next; is = next.1.text; stops = span_next_stops next.1.others more })

pub invariant_of-cell-in-Some : goal.invariant_of-cell-in-Some
invariant_of-cell-in-Some c =
    let l = c.axes in
    let i = l.invariant in
    let long = length-set l.cell.spans l.axes c.in-Some-common_span_at.span in
    record {
      some_axis = omega (arith, i.wide);
      ten_axes = omega (arith, i.wide);
      ten_spans = long ∙ i.ten;
      unused = λ k d below. absurd (omega (arith, below, i.wide, i.ten, long, length-drop l.cell.axes (slice_set l.cell.spans l.axes c.in-Some-common_span_at.span)));
    }

pub axes-preserved : goal.axes-preserved
axes-preserved c =
    let l = c.axes in
    let i = l.invariant in
    let below : l.axes < length l.cell.spans = omega arith in
    let more = ends_more l.axes l.cell.spans c.in-Some-common_span_at.span below in
    record {
      few = omega arith;
      wide = i.wide;
      ten = length-set l.cell.spans l.axes c.in-Some-common_span_at.span ∙ i.ten;
      is = subst (λ (xs : List (ℕ × ℕ)). c.args.text.now ≡ spaced (map span_word xs) ++ c.in-Some-common_span_at.after.now) (sym more)
          (word_taken span_word (map ends (take l.axes l.cell.spans)) (ends c.in-Some-common_span_at.span) c.args.text.now l.rest.now c.in-Some.word.now c.in-Some-common_span_at.after.now i.is c.in-Some.ensures
          c.in-Some-common_span_at.ensures.is);
      each = subst (All IsSpan) (sym more) (All-push IsSpan (map ends (take l.axes l.cell.spans)) (ends c.in-Some-common_span_at.span) i.each c.in-Some-common_span_at.ensures.is_span);
      stops = λ some. c.in-Some-common_span_at.ensures.stops;
      unused = subst (All (λ (span : Span). span.hi ≡ 0)) (sym (drop-set-lt (l.axes + 1) l.cell.spans l.axes c.in-Some-common_span_at.span (omega arith)))
          (All-rest (λ (span : Span). span.hi ≡ 0) _ _ _ (drop_more l.cell.spans l.axes c.in-Some-common_span_at.span below) i.unused);
    }

pub returns-in_default-behind : goal.returns-in_default-behind
returns-in_default-behind c =
    λ spans more at.
    let l = c.axes in
    let i = l.invariant in
    let last = no_word span_word IsSpan (map ends (take l.axes l.cell.spans)) spans l.rest.now more c.in_default.ensures
    (spans_on l.axes l.cell.spans c.args.text.now l.rest.now spans more i.few i.ten i.is i.each i.stops at) in
    c.in_default-behind.ensures more last.1

pub returns-then-axes-eq0 : goal.returns-then-axes-eq0
returns-then-axes-eq0 c =
    λ spans more at.
    let l = c.axes in
    let i = l.invariant in
    let last = no_word span_word IsSpan (map ends (take l.axes l.cell.spans)) spans l.rest.now more c.in_default.ensures
    (spans_on l.axes l.cell.spans c.args.text.now l.rest.now spans more i.few i.ten i.is i.each i.stops at) in
    absurd (omega (arith, ap length last.0, length-read l.axes l.cell.spans i.few i.ten, c.if-axes-eq0.true, at.are_spans.some))

pub returns : goal.returns
returns c = record {
  are_spans = record {
    some = omega (arith, length-read c.axes.axes c.axes.cell.spans c.axes.invariant.few c.axes.invariant.ten, c.if-axes-eq0.false);
    most =
        omega (arith, length-read c.axes.axes c.axes.cell.spans c.axes.invariant.few c.axes.invariant.ten, c.axes.invariant.few);
    each = c.axes.invariant.each;
  };
  is = c.axes.invariant.is
      ∙ ap (λ (l : List ℕ). spaced (map span_word (map ends (take c.axes.axes c.axes.cell.spans))) ++ l) c.in-Some-behind.ensures;
}
