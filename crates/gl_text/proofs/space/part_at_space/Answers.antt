use Rattle.gl_text.proofs.space.part_at_space.Goals as goal
use Rattle.gl_text.proofs.Characters.{no_space}

pub returns-in_err-space : goal.returns-in_err-space
returns-in_err-space c = rw c.from_residual.ensures (λ front back. no_space c.args.text.now front back c.in_err-space.ensures)
