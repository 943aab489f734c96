use Rattle.std.proofs.Common.{sym, subst}
use Rattle.gl_replay.specs.Machine.{Runs, State}
use Rattle.gl_replay.specs.Safe.{IsSafe}
use Rattle.gl_replay.specs.Code.Workers.{state_of}
use Rattle.gl_replay.proofs.Machines.{start_safe}
use Rattle.gl_replay.proofs.Replays.{left_by}
use Rattle.gl_replay.proofs.replayed.work.Goals as goal

pub run-requires : goal.run-requires
run-requires g c =
    let rule = g.G.Goal.rule c.args.goal.now in
    subst (IsSafe rule) (sym c.in_ok-machine.ensures) (start_safe rule c.args.workers)

pub returns : goal.returns
returns g c =
    let rule = g.G.Goal.rule c.args.goal.now in
    let after = subst (λ (state : State). Runs rule state c.args.steps.now (state_of c.run.new.self)) c.in_ok-machine.ensures c.in_ok-run.ensures in
    left_by rule c.args.workers c.args.steps.now c.run.new.self _ c.as_slice-workers.result.now after c.as_slice-workers.ensures.value c.in_ok-parts.ensures
    c.best_kept-known.ensures.kept c.best_kept-known.ensures.no_less
