use Rattle.std.proofs.Common.{◌≡◌}
use Rattle.gl_draft.proofs.remarks.note_passed.Given as goal

abbrev pub invariant-passed : goal.invariant-passed
invariant-passed l = l.lines ≡ l.initial.lines
