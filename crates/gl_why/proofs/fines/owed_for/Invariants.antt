use Rattle.std.proofs.Common.{◌≡◌, fold, take}
use Rattle.gl_task.specs.Penalty.{KeepsRules}
use Rattle.gl_why.proofs.fines.owed_for.Given as goal

-- the fixes so far are fed
abbrev pub invariant-loop-fix : goal.invariant-loop-fix
invariant-loop-fix g l =
    let its = g.S.Steward in
    let entry = l.fn.steward in
    record {
      held : its.held l.steward ≡ fold (its.fed entry) (its.opening entry l.rules) (take l.fix-index l.fixes);
      rules : KeepsRules (its.opening entry) (its.opening l.steward) (its.fed entry) (its.fed l.steward) (its.owed entry) (its.owed l.steward);
    }
