use Rattle.std.proofs.Common.{ap, Err}
use Rattle.gl_answer.proofs.Pourings.{unread_proof}
use Rattle.gl_answer.proofs.file_lines.next_file_line.Goals as goal

pub returns-in-Err-clause-halted : goal.returns-in-Err-clause-halted
returns-in-Err-clause-halted g c = λ text said has.
    unread_proof (g.D.Desk.told c.args.desk.now).folder c.args.file.now c.args.most c.in-Err.error c.unread.result (λ large. c.in-Err.ensures.too_large (ap Err large) text said has) c.unread.ensures
