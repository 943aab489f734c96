use Rattle.std.proofs.Common.{sym, subst, List}
use Rattle.std.proofs.lemmas.List.{drop_more}
use Rattle.gl_replay.specs.declared.schedule.Step.{Step}
use Rattle.gl_replay.specs.Machine.{Runs}
use Rattle.gl_replay.specs.Code.Workers.{state_of}
use Rattle.gl_replay.proofs.Machines.{moves_safe}
use Rattle.gl_replay.proofs.machine.Machine.run.Goals as goal

pub loop-step-preserved : goal.loop-step-preserved
loop-step-preserved g c =
    let rule = g.G.Goal.rule c.args.goal.now in
    record {
      safe = moves_safe rule _ (state_of c.loop-step.self) (state_of c.make.new.self) c.in_ok-make.ensures c.loop-step.invariant.safe;
      on = λ after runs. c.loop-step.invariant.on after
          (subst (λ (steps : List Step). Runs rule (state_of c.loop-step.self) steps after) (sym (drop_more c.args.steps.now c.loop-step.step-index _ c.loop-step-test.true))
          (state_of c.make.new.self, c.in_ok-make.ensures, runs));
    }
