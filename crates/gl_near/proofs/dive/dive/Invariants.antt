use Rattle.gl_near.specs.Pairs.{pairing_of}
use Rattle.gl_near.specs.Certificate.{IsSound}
use Rattle.gl_near.specs.Code.Search.{AreWithin}
use Rattle.gl_near.proofs.dive.dive.Given as goal

abbrev pub invariant-loop : goal.invariant-loop
invariant-loop l = record {
  sound : IsSound (pairing_of l.pairs) l.best;
  within : AreWithin (pairing_of l.pairs) l.candidates.items;
}
