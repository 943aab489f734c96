use Rattle.std.proofs.Common.{codes}
use Rattle.std.proofs.lemmas.Result.{IfOk-weaker}
use Rattle.gl_goal.specs.FreeGoal.{rule_of}
use Rattle.gl_flights.specs.Free.{whole_free_goal}
use Rattle.gl_flights.proofs.Bests.{best_of_goal}
use Rattle.gl_flights.proofs.free.free_of_recording.Goals as goal

pub returns : goal.returns
returns c =
    let fixes = c.args.recording.now.fixes in
    let same = c.in_ok-goal.ensures.rule in
    IfOk-weaker c.best_lines.result _ _ (λ text best. best_of_goal (rule_of c.in_ok-goal.goal) (whole_free_goal fixes) (codes "FREE") _ same best) c.best_lines.ensures
