use Rattle.std.proofs.Common.{arith}
use Rattle.gl_text.proofs.LineLemmas.{IsEnd, IsNext, lines_of-end, next_of_lines}
use Rattle.gl_text.proofs.lines.next_line.Goals as goal
use Rattle.gl_text.proofs.lines.next_line.Goals.{then-end-text, else-end-text}

pub returns-then-at-text-clause-over : goal.returns-then-at-text-clause-over
returns-then-at-text-clause-over c = lines_of-end c.args.text.now c.args.at c.if-at-text.true

pub returns-clause-line : goal.returns-clause-line
returns-clause-line c =
    let end = c.line_end-end.ensures in
    let is_end : IsEnd c.args.text.now c.args.at c.line_end-end.result =
    record { after = end.after; within = end.within; inside = end.inside } in
    let is_next : IsNext c.args.text.now c.line_end-end.result c.if-end-text.next =
    record {
      feed = end.ended;
      past = λ below. elim c.if-end-text.branch [ then-end-text w ↦ omega arith | else-end-text w ↦ omega arith ];
      last = λ over. elim c.if-end-text.branch [ then-end-text w ↦ omega arith | else-end-text w ↦ omega arith ];
    } in
    next_of_lines c.args.text.now c.args.at c.line_end-end.result c.if-end-text.next c.without_return-to.result is_end is_next (omega arith) c.without_return-to.ensures.line
