use Rattle.std.proofs.Common.{◌<◌, length, arith}
use Rattle.gl_text.proofs.LineLemmas.{IsEnd, ended_of_lines}
use Rattle.gl_text.proofs.lines.next_ended_line.Goals as goal

pub returns-clause-line : goal.returns-clause-line
returns-clause-line c = λ more.
    let end = c.line_end-end.ensures in
    let is_end : IsEnd c.args.text.now c.args.at c.line_end-end.result =
    record { after = end.after; within = end.within; inside = end.inside } in
    let inside : c.line_end-end.result < length c.args.text.now = omega arith in
    ended_of_lines c.args.text.now more c.args.at c.line_end-end.result c.without_return-to.result is_end inside (end.ended inside) c.without_return-to.ensures.line
