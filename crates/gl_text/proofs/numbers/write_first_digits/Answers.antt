use Rattle.std.proofs.Common.{◌%◌, ◌-◌, ◌+◌, arith}
use Rattle.std.proofs.lemmas.List.{length-set}
use Rattle.gl_text.proofs.NumberLemmas.{length_one, length_two, put_both_digits, put_first_digit}
use Rattle.gl_text.proofs.numbers.write_first_digits.Goals as goal

pub overflow_sub-buffer : goal.overflow_sub-buffer
overflow_sub-buffer c = omega (arith, length_one c.args.n c.if-n-lt10.true)

pub bounds-buffer-end : goal.bounds-buffer-end
bounds-buffer-end c = omega (arith, length_one c.args.n c.if-n-lt10.true)

pub overflow_sub-result : goal.overflow_sub-result
overflow_sub-result c = omega (arith, length_one c.args.n c.if-n-lt10.true)

pub returns-then-n-lt10-clause-start : goal.returns-then-n-lt10-clause-start
returns-then-n-lt10-clause-start c = omega (arith, length_one c.args.n c.if-n-lt10.true)

pub returns-then-n-lt10-clause-written : goal.returns-then-n-lt10-clause-written
returns-then-n-lt10-clause-written c =
    put_first_digit c.args.n c.args.end c.args.buffer.now c.if-n-lt10.true (omega (arith, length_one c.args.n c.if-n-lt10.true)) (omega arith)

pub overflow_sub-buffer-2 : goal.overflow_sub-buffer-2
overflow_sub-buffer-2 c = omega (arith, length_two c.args.n (omega (arith, c.if-n-lt10.false)) (omega arith))

pub bounds-buffer-end-2 : goal.bounds-buffer-end-2
bounds-buffer-end-2 c = omega (arith, length_two c.args.n (omega (arith, c.if-n-lt10.false)) (omega arith))

pub overflow_sub-buffer-3 : goal.overflow_sub-buffer-3
overflow_sub-buffer-3 c = omega (arith, length_two c.args.n (omega (arith, c.if-n-lt10.false)) (omega arith))

pub bounds-buffer-end-3 : goal.bounds-buffer-end-3
bounds-buffer-end-3 c =
    omega (arith, length_two c.args.n (omega (arith, c.if-n-lt10.false)) (omega arith), length-set c.args.buffer.now (c.args.end - 1) (48 + c.args.n % 10))

pub overflow_sub-result-2 : goal.overflow_sub-result-2
overflow_sub-result-2 c = omega (arith, length_two c.args.n (omega (arith, c.if-n-lt10.false)) (omega arith))

pub returns-clause-start : goal.returns-clause-start
returns-clause-start c = omega (arith, length_two c.args.n (omega (arith, c.if-n-lt10.false)) (omega arith))

pub returns-clause-written : goal.returns-clause-written
returns-clause-written c =
    let long = length_two c.args.n (omega (arith, c.if-n-lt10.false)) (omega arith) in
    put_both_digits c.args.n c.args.end c.args.buffer.now (omega (arith, c.if-n-lt10.false)) (omega arith) (omega arith) (omega arith)
