use Rattle.gl_day.proofs.Fines.{fined, rules_kept}
use Rattle.gl_day.proofs.finish.penalty_in.Goals as goal

pub returns-clause-penalty : goal.returns-clause-penalty
returns-clause-penalty g c =
    fined _ _ _ c.args.stewards.now.items c.args.task.now.rules _ _ _ c.fine.ensures.penalty c.window_fixes.ensures

pub returns-clause-kept : goal.returns-clause-kept
returns-clause-kept g c =
    rules_kept _ _ _ c.args.stewards.now.items c.fine.new.stewards.items c.fine.ensures.rules
