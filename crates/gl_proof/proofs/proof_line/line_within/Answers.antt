use Rattle.gl_proof.proofs.Places.{within_on}
use Rattle.gl_proof.proofs.proof_line.line_within.Goals as goal

pub returns : goal.returns
returns c = within_on c.args.text.now c.claim_or_end.result c.in_default.ensures c.claim_or_end.ensures
