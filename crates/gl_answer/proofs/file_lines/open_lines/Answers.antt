use Rattle.std.proofs.Common.{refl, arith}
use Rattle.gl_answer.proofs.FileParts.{none_read}
use Rattle.gl_answer.proofs.file_lines.open_lines.Goals as goal

pub returns : goal.returns
returns g c = λ folder name most. record {
  read = c.begin_lines.ensures;
  counted = refl;
  fits = omega arith;
  so_far = none_read folder name;
}
