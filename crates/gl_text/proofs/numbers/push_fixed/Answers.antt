use Rattle.std.proofs.Common.{ℕ, rules, arith, length-set}
use Rattle.gl_text.proofs.NumberLemmas.{length_whole, fixed_written}
use Rattle.gl_text.proofs.numbers.push_fixed.Goals as goal

pub write_digits-start-requires-clause-room : goal.write_digits-start-requires-clause-room
write_digits-start-requires-clause-room c =
    let whole = length_whole c.args.places c.args.n (omega arith) (omega arith) in
    rw c.write_last_digits-whole.ensures.rest whole

pub returns-clause-ok : goal.returns-clause-ok
returns-clause-ok c =
    let whole = c.write_last_digits-whole in
    let digits = c.write_digits-start in
    let written = fixed_written c.args.places c.args.n digits.result whole.result whole.new.buffer digits.new.buffer c.requires.most
    (omega arith) whole.ensures.rest whole.auto.buffer whole.ensures.written (omega (arith, length-set {A = ℕ})) digits.ensures.written in
    let items = c.extend_from_slice.ensures.items in
    search rules
