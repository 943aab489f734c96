use Rattle.std.proofs.Common.{◌≡◌, map, take}
use Rattle.gl_badge.proofs.prove.totals_of.Given as goal

abbrev pub invariant-loop-claim : goal.invariant-loop-claim
invariant-loop-claim l = l.totals.items ≡ map (λ claim. claim.total) (take l.claim-index l.claims)
