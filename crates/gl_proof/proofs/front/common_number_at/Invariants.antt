use Rattle.std.proofs.Common.{◌≡◌, ◌<◌, ◌++◌, ◌^◌, drop}
use Rattle.std.specs.Fmt.{decimal}
use Rattle.gl_proof.proofs.front.common_number_at.Given as goal

-- the number is what was read
abbrev pub invariant-digits : goal.invariant-digits
invariant-digits l = record {
  small : l.number < 2 ^ 32;
  is : l.text ≡ decimal l.number ++ drop l.bytes l.text;
}
