use Rattle.std.proofs.Common.{take}
use Rattle.gl_series.specs.Code.Tallies.{AreSharesOf}
use Rattle.gl_series.proofs.shares.shares_of.Given as goal

abbrev pub invariant-loop-member : goal.invariant-loop-member
invariant-loop-member l =
    AreSharesOf (take l.member-index l.members) l.pilots.pilots.now l.shares.items
