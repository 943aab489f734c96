use Rattle.std.proofs.Common.{arith, length-drop}
use Rattle.std.proofs.lemmas.List.{take_rest}
use Rattle.gl_desk.proofs.Pieces.{written_part_grows}
use Rattle.gl_desk.proofs.system.write_whole.Goals as goal

pub parts-preserved : goal.parts-preserved
parts-preserved g c = record {
  within = omega (arith, simp (take_rest, length-drop) at c.in_ok-taken.ensures.bound);
  written =
      written_part_grows _ _ _ _ _ _ c.parts.invariant.written (rw take_rest at c.in_ok-taken.ensures.bytes);
}
