use Rattle.std.proofs.Common.{arith}
use Rattle.std.specs.Prelude.{slice_range}
use Rattle.gl_igc.proofs.PieceLemmas.{takes_line, takes_nothing}
use Rattle.gl_igc.proofs.igc_reader.take_lines.Goals as goal

pub loop-line-init : goal.loop-line-init
loop-line-init c = record { within = omega arith; takes = takes_nothing c.args.text.now c.args.progress.now }

pub loop-line-preserved : goal.loop-line-preserved
loop-line-preserved c = record {
  within = omega (arith, c.in-Some.ensures.bounds);
  takes = takes_line c.args.text.now c.loop-line.at c.in-Some.line.next
      (slice_range c.args.text.now c.in-Some.line.from c.in-Some.line.to) c.args.progress.now c.loop-line.progress c.take_line.new.progress c.loop-line.invariant.takes c.in-Some.ensures.line
      c.in_ok-take_line.ensures;
}
