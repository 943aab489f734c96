use Rattle.std.proofs.Common.{map, take}
use Rattle.std.specs.List.{AllZip}
use Rattle.gl_day.specs.Expected.{Proves}
use Rattle.gl_proof.specs.Claim.{statement_of}
use Rattle.gl_badge.specs.Claims.{rules_of_claims}
use Rattle.gl_badge.specs.Named.{expected_of}
use Rattle.gl_badge.proofs.prove.prove_claims.Given as goal

-- the claims so far are proved
abbrev pub invariant-loop-claim : goal.invariant-loop-claim
invariant-loop-claim l =
    AllZip Proves (expected_of (rules_of_claims (take l.claim-index l.claims))) (map statement_of l.proved.items)
