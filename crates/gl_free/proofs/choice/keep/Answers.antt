use Rattle.std.proofs.Common.{sym, arith}
use Rattle.gl_box.specs.Tuple.{places_of}
use Rattle.gl_free.proofs.ChoiceLemmas.{value-limited}
use Rattle.gl_free.proofs.choice.keep.Goals as goal

pub returns-then-total-best-clause-valid : goal.returns-then-total-best-clause-valid
returns-then-total-best-clause-valid c = record {
  reached = record { legal = c.legal.ensures.0 (grind arith); worth = sym c.value-total.ensures };
  limited = omega (arith, c.value-total.ensures, value-limited c.args.goal.now (places_of c.args.tuple.now) c.requires.fits);
}
