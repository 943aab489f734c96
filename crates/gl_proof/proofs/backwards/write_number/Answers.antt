use Rattle.std.proofs.Common.{arith}
use Rattle.std.proofs.lemmas.Fmt.{length-decimal-le}
use Rattle.gl_proof.proofs.backwards.write_number.Goals as goal

pub write_digits-requires-clause-room : goal.write_digits-requires-clause-room
write_digits-requires-clause-room c =
    omega (arith, length-decimal-le 10 c.from.result (omega arith) (omega (arith, c.from.ensures, c.ranges.number.fits)) (omega (arith, c.from.ensures, c.ranges.number.fits)))

pub returns-clause-most : goal.returns-clause-most
returns-clause-most c =
    omega (
      arith,
      c.write_digits.ensures.start,
      length-decimal-le 10 c.from.result (omega arith) (omega (arith, c.from.ensures, c.ranges.number.fits))
          (omega (arith, c.from.ensures, c.ranges.number.fits)),
    )
