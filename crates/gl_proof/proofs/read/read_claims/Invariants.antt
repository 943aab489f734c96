use Rattle.std.proofs.Common.{◌<◌, ℕ, List, length, map}
use Rattle.gl_proof.specs.Claim.{statement_of}
use Rattle.gl_proof.specs.Code.Passage.{NoBox}
use Rattle.gl_proof.specs.Reading.{AreClaimsAt}
use Rattle.gl_proof.proofs.read.read_claims.Given as goal

-- the claims so far are read, and no box follows them
abbrev pub invariant-claims : goal.invariant-claims
invariant-claims l = record {
  at : (whole : List ℕ) → AreClaimsAt l.version whole (map statement_of l.initial.claims.items) l.text l.initial.line → AreClaimsAt l.version whole (map statement_of l.claims.items) l.rest l.line;
  last : 0 < length l.claims.items → NoBox l.rest;
}

abbrev pub decreases-claims : goal.decreases-claims
decreases-claims l = length l.rest
