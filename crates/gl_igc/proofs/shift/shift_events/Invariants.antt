use Rattle.std.proofs.Common.{◌≡◌, map, take, drop, ◌+ℤ◌}
use Rattle.gl_igc.proofs.shift.shift_events.Given as goal

-- the seconds so far are moved, and the others are as they were
abbrev pub invariant-loop-second : goal.invariant-loop-second
invariant-loop-second l = record {
  moved : take l.second-index l.second-items ≡ map (λ second. second +ℤ l.fn.shift) (take l.second-index l.fn.seconds.items);
  left : drop l.second-index l.second-items ≡ drop l.second-index l.fn.seconds.items;
}
