-- What the program's fraction is worth.
use Rattle.gl_points.specs.declared.frac.Frac.{Frac}
use Rattle.gl_points.specs.Fraction.{Fraction, ◌÷◌}

abbrev pub worth : Frac → Fraction
worth fraction = fraction.num ÷ fraction.den
