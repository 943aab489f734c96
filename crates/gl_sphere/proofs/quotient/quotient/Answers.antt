use Rattle.std.proofs.Math.Nat.{mod-eq_of_lt}
use Rattle.gl_sphere.proofs.LongDivision.{long_division-over, digit-fits, rest-fits}
use Rattle.gl_sphere.proofs.quotient.quotient.Goals as goal

pub returns : goal.returns
returns c =
    let whole = mod-eq_of_lt (digit-fits c.args.n c.args.first c.requires.first_positive c.requires.fits) in
    let rest = mod-eq_of_lt (rest-fits c.args.n c.args.first c.requires.first_positive c.requires.first_in_range) in
    rw (whole, rest) (long_division-over c.args.n 4294967296 c.args.first c.args.second c.requires.first_positive)
