use Rattle.std.proofs.Common.{◌≡◌, ◌<◌, ℕ, fold, take}
use Rattle.gl_day.specs.Flight.{steward_rules}
use Rattle.gl_task.specs.Penalty.{KeepsRules}
use Rattle.gl_why.specs.Code.Fines.{OwesAt}
use Rattle.gl_why.proofs.fines.first_owing.Given as goal

-- the fixes so far are fed, and after none of them so many points are owed
abbrev pub invariant-loop-k : goal.invariant-loop-k
invariant-loop-k g l =
    let its = g.S.Steward in
    let entry = l.fn.steward in
    record {
      held : its.held l.steward ≡ fold (its.fed entry) (its.opening entry l.rules) (take l.k l.fixes);
      rules : KeepsRules (its.opening entry) (its.opening l.steward) (its.fed entry) (its.fed l.steward) (its.owed entry) (its.owed l.steward);
      none_yet : (i : ℕ) → i < l.k → OwesAt (steward_rules (its.opening entry) (its.fed entry) (its.owed entry)) l.rules l.fixes l.points i → ⊥;
    }
