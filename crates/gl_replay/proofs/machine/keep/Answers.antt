use Rattle.std.proofs.Common.{arith}
use Rattle.gl_replay.specs.Machine.{Keeps}
use Rattle.gl_replay.proofs.Turns.{acts_raises, covered_at, raises_none}
use Rattle.gl_replay.proofs.machine.keep.Goals as goal

pub keep-requires : goal.keep-requires
keep-requires g c = covered_at (g.G.Goal.rule c.args.goal.now) c.args.workers.now c.args.number c.index-workers-place.result c.requires (omega (arith, c.if-place-workers.false))

pub returns : goal.returns
returns g c = acts_raises (Keeps (g.G.Goal.rule c.args.goal.now)) c.args.workers.now c.args.number c.index-workers-place.result c.keep.new.self c.keep.result
    (omega (arith, c.if-place-workers.false)) c.keep.ensures

pub returns-then-place-workers : goal.returns-then-place-workers
returns-then-place-workers g c = raises_none (Keeps (g.G.Goal.rule c.args.goal.now)) c.args.workers.now c.args.number c.if-place-workers.true
