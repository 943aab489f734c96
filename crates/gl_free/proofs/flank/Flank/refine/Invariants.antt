use Rattle.std.proofs.Common.{take}
use Rattle.gl_box.specs.Cell.{ends}
use Rattle.gl_free.specs.Code.Candidates.{IsAmong, IsFlank, Sifts}
use Rattle.gl_free.proofs.flank.Flank.refine.Given as goal

abbrev pub invariant-loop-at : goal.invariant-loop-at
invariant-loop-at l = record {
  flank : IsFlank l.hulls l.self;
  sifts : Sifts l.hulls l.allowed (ends l.middle.span) l.need (IsAmong (take l.at l.fn.self.candidates.items) l.fn.part.from)
      (take l.fn.part.to l.fn.self.candidates.items) l.self.candidates.items 0 l.arm;
}
