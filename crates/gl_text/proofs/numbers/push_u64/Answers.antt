use Rattle.std.proofs.Common.{arith}
use Rattle.gl_text.proofs.NumberLemmas.{length_decimal}
use Rattle.gl_text.proofs.numbers.push_u64.Goals as goal

pub write_digits-start-requires-clause-room : goal.write_digits-start-requires-clause-room
write_digits-start-requires-clause-room c = length_decimal c.args.n (omega arith)
