-- Calls that only read.
use Rattle.std.proofs.Common.{◌∙◌, None}
use Rattle.gl_desk.specs.Answers.{OnlyReads}
use Rattle.gl_desk.specs.Desk.{Told}

-- calls that only read, one after the other
pub reads_twice : (x y z : Told) → OnlyReads None x y → OnlyReads None y z → OnlyReads None x z
reads_twice x y z one two = record {
  folder = two.folder ∙ one.folder;
  said = two.said ∙ one.said;
  outputs = two.outputs ∙ one.outputs;
  faults = two.faults ∙ one.faults;
}
