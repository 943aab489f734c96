use Rattle.gl_judge.proofs.judging.finished_from_last.Goals as goal

pub unreachable-requires : goal.unreachable-requires
unreachable-requires c = c.in-None.ensures.none c.args.first c.requires.complete
