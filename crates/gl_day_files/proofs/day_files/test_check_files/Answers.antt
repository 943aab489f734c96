use Rattle.std.proofs.Common.{Result, Ok, Err}
use Rattle.std.specs.Prelude.{IfOk}
use Rattle.std.proofs.lemmas.Result.{err_from_is_err_and}
use Rattle.gl_words.specs.DayNames.{names_seen}
use Rattle.gl_day_files.proofs.DayTests.{check_proof_missing, check_task_missing, day_tested}
use Rattle.gl_day_files.proofs.day_files.test_check_files.Goals as goal
use Rattle.gl_desk.proofs.DeskLemmas.{HasFile-from_names}

pub returns-in_err-need-clause-tested : goal.returns-in_err-need-clause-tested
returns-in_err-need-clause-tested g c = λ most.
    let p = err_from_is_err_and c.from_residual.result c.from_residual.ensures.1 in
    rw (p.1, p.2) (check_task_missing most (g.D.Desk.told c.args.desk.now).folder c.args.names.now (names_seen c.args.day) c.in_err-need.field-0.0 c.requires c.in_err-need.ensures.needed)

pub returns-in_err-need-2-clause-tested : goal.returns-in_err-need-2-clause-tested
returns-in_err-need-2-clause-tested g c = λ most.
    let folder = (g.D.Desk.told c.args.desk.now).folder in
    let task = HasFile-from_names folder c.args.names.now c.args.day.task.now c.requires c.in_ok-need.ensures.needed in
    let p = err_from_is_err_and c.from_residual-in_err-need-2.result c.from_residual-in_err-need-2.ensures.1 in
    rw (p.1, p.2) (check_proof_missing most folder c.args.names.now (names_seen c.args.day) c.in_err-need-2.field-0.0 c.requires task c.in_err-need-2.ensures.needed)

pub returns-clause-tested : goal.returns-clause-tested
returns-clause-tested g c = λ most.
    let folder = (g.D.Desk.told c.args.desk.now).folder in
    let proof = HasFile-from_names folder c.args.names.now c.args.day.proof.now c.requires c.in_ok-need-2.ensures.needed in
    day_tested most folder (names_seen c.args.day) c.read_day.result proof c.read_day.ensures.tested

-- what holds at all holds where a call answered
holds_there : {X E : Type 0} (result : Result X E) (P : Type 0) → P → IfOk result (λ _. P)
holds_there (Ok x) P holds = holds
holds_there (Err e) P holds = tt

pub returns-clause-listed : goal.returns-clause-listed
returns-clause-listed g c =
    holds_there c.read_day.result _ (HasFile-from_names (g.D.Desk.told c.args.desk.now).folder c.args.names.now c.args.day.proof.now c.requires c.in_ok-need-2.ensures.needed)
