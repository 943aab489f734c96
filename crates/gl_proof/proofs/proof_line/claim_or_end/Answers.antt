use Rattle.gl_proof.proofs.Places.{headed_none}
use Rattle.gl_proof.proofs.proof_line.claim_or_end.Goals as goal

pub returns-in_default-claim_line_at : goal.returns-in_default-claim_line_at
returns-in_default-claim_line_at c = headed_none c.args.text.now c.in_default.ensures c.in_default-claim_line_at.ensures
