use Rattle.std.proofs.Common.{◌≡◌, ◌++◌, take}
use Rattle.gl_answer.specs.Texts.{spaced}
use Rattle.gl_answer.proofs.texts.push_spaced.Given as goal

-- the numbers so far
abbrev pub invariant-loop-number : goal.invariant-loop-number
invariant-loop-number l = l.text.items ≡ l.fn.text.items ++ spaced (take l.number-index l.numbers)
