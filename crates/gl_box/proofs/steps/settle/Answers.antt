use Rattle.std.proofs.Common.{None}
use Rattle.gl_box.proofs.Turns.{turn_added}
use Rattle.gl_box.proofs.steps.settle.Goals as goal

pub returns : goal.returns
returns g c = λ rest cell top.
    let cut = rw c.if-not-branch.false at (c.in_ok-cut_last.ensures rest cell top) in
    rw c.in_default.is (record {
      rest = rest;
      lower = cut.lower;
      upper = cut.upper;
      top = top;
      cut = cut.cut;
      halves = cut.halves;
      turn = turn_added g.T.Turn.reason c.args.turns.now.items c.append-2.new.list.items c.cut.result None c.in_ok-append-2.ensures c.cut.ensures;
    })
