use Rattle.std.proofs.lemmas.Result.{err_from_is_err_and}
use Rattle.gl_words.specs.ReplayWords.{replay_seen}
use Rattle.gl_flights.proofs.ReplayTests.{file_missing}
use Rattle.gl_flights.proofs.replay_files.test_replay_files.Goals as goal

pub returns-in_err-need_both-clause-tested : goal.returns-in_err-need_both-clause-tested
returns-in_err-need_both-clause-tested g c =
    let p = err_from_is_err_and c.from_residual.result c.from_residual.ensures.1 in
    rw (p.1, p.2) (file_missing (g.D.Desk.told c.args.desk.now).folder c.args.names.now (replay_seen c.args.words) c.in_err-need_both.field-0.0 c.requires c.in_err-need_both.ensures.needed)
