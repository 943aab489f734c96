use Rattle.std.proofs.Common.{◌≡◌, fold, take}
use Rattle.gl_task.specs.Penalty.{KeepsRules}
use Rattle.gl_task.proofs.penalty.charge.Given as goal

abbrev pub invariant-loop-fix : goal.invariant-loop-fix
invariant-loop-fix g l =
    let here = l.steward in
    let entry = l.fn.steward in
    let ours = goal.Steward-dyn g (here.vtable, here.value) in
    let theirs = goal.Steward-dyn g (entry.vtable, entry.value) in
    record {
      held : ours.held here.value ≡ fold (theirs.fed entry.value) (theirs.opening entry.value l.rules) (take l.fix-index l.fixes);
      rules : KeepsRules (theirs.opening entry.value) (ours.opening here.value) (theirs.fed entry.value) (ours.fed here.value) (theirs.owed entry.value) (ours.owed here.value);
    }
