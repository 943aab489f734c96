use Rattle.std.proofs.Common.{◌≤◌, length}
use Rattle.gl_examples.proofs.texts.push_lines.Given as goal

abbrev pub invariant-lines : goal.invariant-lines
invariant-lines l = l.at ≤ length l.text
