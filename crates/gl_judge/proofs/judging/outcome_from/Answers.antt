use Rattle.std.proofs.lemmas.Bool.{false≢true}
use Rattle.gl_judge.proofs.Finishing.{none-complete}
use Rattle.gl_judge.proofs.judging.outcome_from.Goals as goal

pub outlanded-requires-clause-incomplete : goal.outlanded-requires-clause-incomplete
outlanded-requires-clause-incomplete c =
    none-complete c.args.task.now c.args.rec.now c.args.judged c.args.first.fix c.requires.first (λ h. false≢true (c.if-can_finish.ensures.1 h))
