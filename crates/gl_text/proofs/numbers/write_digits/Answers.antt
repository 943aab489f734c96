use Rattle.std.proofs.Common.{◌%◌, ◌-◌, ◌+◌, ◌∙◌, arith}
use Rattle.std.proofs.lemmas.List.{length-set}
use Rattle.gl_text.proofs.NumberLemmas.{put_two_digits, two_longer}
use Rattle.gl_text.proofs.numbers.write_digits.Goals as goal

pub overflow_sub-buffer : goal.overflow_sub-buffer
overflow_sub-buffer c = omega (arith, two_longer c.loop-rest.rest c.loop-rest-test.true (omega arith))

pub bounds-buffer-at : goal.bounds-buffer-at
bounds-buffer-at c = omega (arith, two_longer c.loop-rest.rest c.loop-rest-test.true (omega arith))

pub overflow_sub-buffer-in-loop-rest : goal.overflow_sub-buffer-in-loop-rest
overflow_sub-buffer-in-loop-rest c = omega (arith, two_longer c.loop-rest.rest c.loop-rest-test.true (omega arith))

pub bounds-buffer-at-in-loop-rest : goal.bounds-buffer-at-in-loop-rest
bounds-buffer-at-in-loop-rest c =
    let l = c.loop-rest in
    omega (arith, two_longer l.rest c.loop-rest-test.true (omega arith), length-set l.buffer (l.at - 1) (48 + l.rest % 100 % 10))

pub overflow_sub-at : goal.overflow_sub-at
overflow_sub-at c = omega (arith, two_longer c.loop-rest.rest c.loop-rest-test.true (omega arith))

pub loop-rest-preserved : goal.loop-rest-preserved
loop-rest-preserved c =
    let l = c.loop-rest in
    let longer = two_longer l.rest c.loop-rest-test.true (omega arith) in
    record {
      room = omega arith;
      within = omega arith;
      placed = omega arith;
      written = put_two_digits l.rest l.at l.buffer c.loop-rest-test.true (omega arith) (omega arith) (omega arith) ∙ l.invariant.written;
    }
