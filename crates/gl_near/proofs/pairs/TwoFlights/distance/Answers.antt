use Rattle.std.proofs.Common.{◌∙◌, sym}
use Rattle.std.proofs.lemmas.Bool.{false≢true}
use Rattle.gl_near.proofs.PairsLemmas.{together_near}
use Rattle.gl_near.proofs.pairs.TwoFlights.distance.Goals as goal

pub returns : goal.returns
returns c =
    let pairs = c.args.self.now in
    record {
      fix = c.fix.result.now;
      other_fix = c.fix-2.result.now;
      there = c.fix.ensures;
      other_there = c.fix-2.ensures;
      near_in_time = together_near pairs.one pairs.other pairs.apart c.args.first c.args.second c.fix.result.now c.fix-2.result.now c.fix.ensures c.fix-2.ensures
          (λ after. false≢true (sym c.if-is_one_after.false ∙ c.is_one_after.ensures.1 after))
          (λ after. false≢true (sym c.if-is_other_after.false ∙ c.is_other_after.ensures.1 after));
      is = sym c.distance_of.ensures;
    }
