use Rattle.std.proofs.Common.{length}
use Rattle.gl_proof.specs.Code.Standing.{AreInOrder, StandFrom}
use Rattle.gl_proof.proofs.box_writer.write_words.Given as goal

-- the words of the axes from one on stand
abbrev pub invariant-loop-k : goal.invariant-loop-k
invariant-loop-k l = record {
  order : AreInOrder l.starts l.k (length l.spans);
  standing : StandFrom l.buffer l.starts l.spans l.k;
}
