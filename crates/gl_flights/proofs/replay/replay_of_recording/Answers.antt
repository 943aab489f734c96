use Rattle.std.proofs.Common.{[], ◌∷◌}
use Rattle.gl_goal.specs.FreeGoal.{rule_of}
use Rattle.gl_flights.specs.Free.{whole_free_goal}
use Rattle.gl_flights.proofs.Replays.{replay_text, some_best}
use Rattle.gl_flights.proofs.replay.replay_of_recording.Goals as goal

pub unreachable-requires : goal.unreachable-requires
unreachable-requires c =
    some_best (rule_of c.in_ok-goal.goal) c.in_ok-replayed.replayed.found.best (0 ∷ 0 ∷ 0 ∷ 0 ∷ 0 ∷ []) c.in_ok-replayed.ensures.none c.in_ok-goal.ensures.legal c.in_default.is

pub returns : goal.returns
returns c =
    replay_text (rule_of c.in_ok-goal.goal) (whole_free_goal c.args.recording.now.fixes) c.args.workers.count c.args.steps.now c.in_ok-replayed.replayed c.in_ok-text.text.items _
    c.in_ok-goal.ensures.rule c.in_ok-text.ensures c.in_ok-replayed.ensures.steps c.in_ok-push_closed.ensures
