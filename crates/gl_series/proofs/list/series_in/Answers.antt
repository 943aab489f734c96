use Rattle.std.proofs.Common.{drop, arith, rules}
use Rattle.gl_text.specs.Lines.{lines_of}
use Rattle.gl_series.proofs.Lines.{says_more, stops_here}
use Rattle.gl_series.proofs.list.series_in.Goals as goal

pub lines-preserved : goal.lines-preserved
lines-preserved c =
    let text = c.args.text.now in
    record {
      kept = c.in_ok-put.ensures.kept;
      within = search rules;
      says = says_more (lines_of (drop c.args.start text)) (lines_of (drop c.lines.at text))
          (lines_of (drop c.in-Some.line.next text)) _ c.lines.days.items c.lines.teams.items c.in-Some-read.entry _ c.lines.invariant.says c.in-Some.ensures.line
          (search rules) c.in_ok-put.ensures.put;
    }

pub returns-in_default-read-clause-refused : goal.returns-in_default-read-clause-refused
returns-in_default-read-clause-refused c =
    let text = c.args.text.now in
    let none = rw (c.in_default-read.is, c.deref.ensures.value, c.deref-in-Some.ensures.value) at c.in_ok-read.ensures in
    stops_here (lines_of (drop c.args.start text)) (lines_of (drop c.lines.at text))
    (lines_of (drop c.in-Some.line.next text)) _ c.lines.days.items c.lines.teams.items _ c.lines.invariant.says c.in-Some.ensures.line none
    (omega (arith, c.len.ensures, c.len-in_default-read.ensures))
