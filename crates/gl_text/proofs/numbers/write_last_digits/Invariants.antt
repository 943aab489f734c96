use Rattle.std.proofs.Common.{◌≡◌, ◌-◌, ◌/◌, ◌^◌, length, drop}
use Rattle.gl_text.specs.Numbers.{last_digits}
use Rattle.gl_text.proofs.numbers.write_last_digits.Given as goal

abbrev pub invariant-loop-written : goal.invariant-loop-written
invariant-loop-written l = record {
  rest : l.rest ≡ l.n / 10 ^ l.written;
  digits : drop (length l.buffer - l.written) l.buffer ≡ last_digits l.written l.n;
}
