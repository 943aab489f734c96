use Rattle.std.proofs.Common.{◌≡◌, take}
use Rattle.std.specs.List.{flat_map}
use Rattle.gl_replay.specs.Code.Parts.{parts_left}
use Rattle.gl_replay.proofs.replayed.parts_of.Given as goal

-- those of the workers so far
abbrev pub invariant-loop-worker : goal.invariant-loop-worker
invariant-loop-worker l = l.parts.items ≡ flat_map parts_left (take l.worker-index l.workers)
