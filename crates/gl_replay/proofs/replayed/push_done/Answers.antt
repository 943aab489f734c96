use Rattle.gl_plain.specs.declared.part.Part.TheVariants.{Done}
use Rattle.gl_replay.proofs.Gathered.{mapped_all, mapped_more}
use Rattle.gl_replay.proofs.replayed.push_done.Goals as goal

pub loop-closed-preserved : goal.loop-closed-preserved
loop-closed-preserved c =
    mapped_more Done c.args.boxes.now c.loop-closed.closed-index c.closed-item.result c.args.parts.now.items _ _ c.loop-closed-test.true c.closed-item.is c.loop-closed.invariant c.in_ok-push.ensures.items

pub returns : goal.returns
returns c = mapped_all Done c.args.boxes.now c.loop-closed.closed-index c.args.parts.now.items _ c.loop-closed-test.false c.loop-closed.invariant
