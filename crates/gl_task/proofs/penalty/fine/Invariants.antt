use Rattle.std.proofs.Common.{◌≡◌, map, take, drop}
use Rattle.std.specs.List.{AllZip}
use Rattle.gl_task.specs.Penalty.{KeepsRules, held_after, penalty}
use Rattle.gl_task.proofs.penalty.fine.Given as goal

abbrev pub invariant-loop-steward : goal.invariant-loop-steward
invariant-loop-steward g l =
    let before = l.fn.stewards.items in
    record {
      total : l.total ≡ penalty (map (λ s. (goal.Steward-dyn g (s.vtable, s.value)).owed s.value
          (held_after ((goal.Steward-dyn g (s.vtable, s.value)).opening s.value l.rules) ((goal.Steward-dyn g (s.vtable, s.value)).fed s.value) l.fixes)) (take l.steward-index before));
      held : AllZip (λ s t. (goal.Steward-dyn g (t.vtable, t.value)).held t.value
          ≡ held_after ((goal.Steward-dyn g (s.vtable, s.value)).opening s.value l.rules) ((goal.Steward-dyn g (s.vtable, s.value)).fed s.value) l.fixes) (take l.steward-index before)
          (take l.steward-index l.steward-items);
      rules : AllZip (λ s t. KeepsRules ((goal.Steward-dyn g (s.vtable, s.value)).opening s.value) ((goal.Steward-dyn g (t.vtable, t.value)).opening t.value)
          ((goal.Steward-dyn g (s.vtable, s.value)).fed s.value) ((goal.Steward-dyn g (t.vtable, t.value)).fed t.value) ((goal.Steward-dyn g (s.vtable, s.value)).owed s.value)
          ((goal.Steward-dyn g (t.vtable, t.value)).owed t.value)) (take l.steward-index before) (take l.steward-index l.steward-items);
      rest : drop l.steward-index l.steward-items ≡ drop l.steward-index before;
    }
