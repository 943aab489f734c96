use Rattle.gl_judge.proofs.Bounds.{none_then, none_when}
use Rattle.gl_judge.proofs.Finishing.{last-complete}
use Rattle.gl_judge.proofs.judging.last_complete_start.Goals as goal

pub returns-in_err-ready-clause-none : goal.returns-in_err-ready-clause-none
returns-in_err-ready-clause-none c =
    none_when c.from_residual.result _ (λ b h. c.in_err-ready.ensures.none b h.completed)

pub returns-clause-last : goal.returns-clause-last
returns-clause-last c =
    last-complete c.args.task.now c.args.rec.now c.args.judged c.in_ok-ready.ready c.last_start.result c.in_ok-ready.ensures.last c.last_start.ensures.legal c.last_start.ensures.within
    c.last_start.ensures.last

pub returns-clause-none : goal.returns-clause-none
returns-clause-none c =
    none_then c.last_start.result _ _ (λ none b h. none b h.start (c.in_ok-ready.ensures.last.greatest b h.completed)) c.last_start.ensures.none
