use Rattle.gl_day_claims.proofs.scoring.score_recorded.Goals as goal

pub returns-clause-scored : goal.returns-clause-scored
returns-clause-scored g c = c.score_judged.ensures.scored

pub returns-clause-stopped : goal.returns-clause-stopped
returns-clause-stopped g c = c.score_judged.ensures.stopped

pub returns-clause-kept : goal.returns-clause-kept
returns-clause-kept g c = c.score_judged.ensures.kept
