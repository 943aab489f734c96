use Rattle.gl_proof.proofs.Words.{total_front}
use Rattle.gl_proof.proofs.front.total_at.Goals as goal

pub returns-in_err-rest : goal.returns-in_err-rest
returns-in_err-rest c = rw c.from_residual-in_err-rest.ensures (λ total more at.
    c.in_err-rest.ensures more (total_front c.args.text.now c.in_ok-total.total c.in_ok-total.rest.now total more c.in_ok-total.ensures c.in_default.ensures at))
