use Rattle.std.proofs.Common.{◌≢◌, sym, subst}
use Rattle.std.specs.Prelude.{AllPairs}
use Rattle.gl_series.specs.declared.standing.Total.{Total}
use Rattle.gl_series.proofs.OneStanding.{pilots_apart}
use Rattle.gl_series.proofs.championship.totals.Goals as goal

pub teams-requires-clause-apart : goal.teams-requires-clause-apart
teams-requires-clause-apart c =
    subst (AllPairs (λ (one other : Total). one.number ≢ other.number)) (sym c.deref.ensures.value) (pilots_apart c.args.days.now c.args.drop c.in_ok-pilots.pilots.items c.in_ok-pilots.ensures.pilots)
