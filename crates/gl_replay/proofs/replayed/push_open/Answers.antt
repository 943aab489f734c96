use Rattle.gl_plain.specs.declared.part.Part.TheVariants.{Open}
use Rattle.gl_replay.proofs.Gathered.{mapped_all, mapped_more}
use Rattle.gl_replay.proofs.replayed.push_open.Goals as goal

pub loop-cell-preserved : goal.loop-cell-preserved
loop-cell-preserved c =
    mapped_more Open c.args.cells.now c.loop-cell.cell-index c.cell-item.result c.args.parts.now.items _ _ c.loop-cell-test.true c.cell-item.is c.loop-cell.invariant c.in_ok-push.ensures.items

pub returns : goal.returns
returns c = mapped_all Open c.args.cells.now c.loop-cell.cell-index c.args.parts.now.items _ c.loop-cell-test.false c.loop-cell.invariant
