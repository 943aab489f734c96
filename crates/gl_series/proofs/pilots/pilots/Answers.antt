use Rattle.std.proofs.Common.{List, subst}
use Rattle.std.proofs.lemmas.Result.{IfOk-weaker}
use Rattle.gl_series.specs.declared.pilots.Tally.{Tally}
use Rattle.gl_series.specs.Code.Tallies.{AreRanked}
use Rattle.gl_series.proofs.Tallied.{pilots_low, pilots_of}
use Rattle.gl_series.proofs.pilots.pilots.Goals as goal

pub returns-clause-pilots : goal.returns-clause-pilots
returns-clause-pilots c =
    IfOk-weaker c.in_order.result _ _ (λ pilots ranked.
    pilots_of c.args.days.now c.args.drop c.in_ok-tallies.tallies.items pilots.items c.requires c.in_ok-tallies.ensures
    (subst (λ (l : List Tally). AreRanked l pilots.items) c.deref.ensures.value ranked)) c.in_order.ensures

pub returns-clause-low : goal.returns-clause-low
returns-clause-low c =
    IfOk-weaker c.in_order.result _ _ (λ pilots ranked.
    pilots_low c.args.days.now c.args.drop c.in_ok-tallies.tallies.items pilots.items c.in_ok-tallies.ensures
    (subst (λ (l : List Tally). AreRanked l pilots.items) c.deref.ensures.value ranked)) c.in_order.ensures
