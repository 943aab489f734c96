use Rattle.std.proofs.Common.{arith, rules, FitsSigned, w32}
use Rattle.std.proofs.lemmas.Int.{ints}
use Rattle.gl_near.proofs.PairsLemmas.{after_seconds}
use Rattle.gl_near.proofs.pairs.TwoFlights.is_one_after.Goals as goal

pub returns : goal.returns
returns c =
    let pairs = c.args.self.now in
    let a = c.fix.result.now in
    let b = c.fix-2.result.now in
    let f : FitsSigned w32 a.second = search rules in
    let g : FitsSigned w32 b.second = search rules in (
      λ after. record { fix = a; other_fix = b; there = c.fix.ensures; other_there = c.fix-2.ensures; after = omega (arith, ints, c.is_after.ensures.0 after) },
      λ after. c.is_after.ensures.1 (omega (arith, ints, after_seconds pairs.one pairs.other pairs.apart _ _ a b c.fix.ensures c.fix-2.ensures after)),
    )
