use Rattle.std.proofs.Common.{◌≡◌, map, take}
use Rattle.gl_near.specs.Certificate.{box_of}
use Rattle.gl_near.specs.Testing.{HasTaken}
use Rattle.gl_near.proofs.boxes.said_of.Given as goal

-- the check has taken the boxes so far
abbrev pub invariant-loop-next : goal.invariant-loop-next
invariant-loop-next l = record {
  pairs : l.check.test.pairs.now ≡ l.pairs;
  best : l.check.test.best ≡ l.fn.best;
  taken : HasTaken (map box_of (take l.next-index l.cells)) l.check;
}
