use Rattle.std.proofs.Common.{◌≡◌, ◌≤◌, length, take}
use Rattle.gl_replay.specs.Code.Parts.{done_in}
use Rattle.gl_replay.proofs.replayed.count_done.Given as goal

-- those so far
abbrev pub invariant-loop-part : goal.invariant-loop-part
invariant-loop-part l = record {
  within : l.count ≤ l.part-index;
  are : l.count ≡ length (done_in (take l.part-index l.parts));
}
