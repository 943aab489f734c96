use Rattle.std.proofs.Common.{drop}
use Rattle.gl_replay.specs.Machine.{Runs, State}
use Rattle.gl_replay.specs.Safe.{IsSafe}
use Rattle.gl_replay.specs.Code.Workers.{state_of}
use Rattle.gl_replay.proofs.machine.Machine.run.Given as goal

-- the machine is safe, and where the other steps lead from here, all steps lead from the beginning
abbrev pub invariant-loop-step : goal.invariant-loop-step
invariant-loop-step g l =
    let rule = g.G.Goal.rule l.goal in
    record {
      safe : IsSafe rule (state_of l.self);
      on : (after : State) → Runs rule (state_of l.self) (drop l.step-index l.steps) after → Runs rule (state_of l.initial.self) l.steps after;
    }
