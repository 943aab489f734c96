use Rattle.std.proofs.Common.{◌≡◌, map, take, drop}
use Rattle.gl_igc.specs.Code.Parts.{shifted}
use Rattle.gl_igc.specs.Recording.{sighting_of}
use Rattle.gl_igc.proofs.shift.shift_fixes.Given as goal

-- the fixes so far are moved, and the others are as they were
abbrev pub invariant-loop-fix : goal.invariant-loop-fix
invariant-loop-fix l = record {
  moved : map sighting_of (take l.fix-index l.fix-items) ≡ map (shifted l.fn.shift) (map sighting_of (take l.fix-index l.fn.fixes.items));
  left : drop l.fix-index l.fix-items ≡ drop l.fix-index l.fn.fixes.items;
}
