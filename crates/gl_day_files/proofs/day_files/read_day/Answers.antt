use Rattle.std.proofs.Common.{subst, Option, Ok, Err}
use Rattle.std.proofs.lemmas.Result.{err_from_is_err_and}
use Rattle.gl_airspace.specs.declared.volume.Airspace.{Airspace}
use Rattle.gl_desk.specs.Desk.{FilesByName}
use Rattle.gl_day_files.specs.DayFiles.{IsAirspaceRead, IsAirspaceSeen, airspace_tests}
use Rattle.gl_answer.specs.FileTests.{HasTested}
use Rattle.gl_day_files.proofs.DayTests.{day_read, day_refused, task_refused}
use Rattle.gl_day_files.proofs.day_files.read_day.Goals as goal

pub returns-in_err-task-clause-tested : goal.returns-in_err-task-clause-tested
returns-in_err-task-clause-tested g c =
    let p = err_from_is_err_and c.from_residual.result c.from_residual.ensures.1 in
    rw (p.1, p.2) (task_refused (g.D.Desk.told c.args.desk.now).folder c.args.file.now c.in_err-task.field-0.0 c.in_err-task.ensures.read)

pub returns-in_err-airspace-clause-tested : goal.returns-in_err-airspace-clause-tested
returns-in_err-airspace-clause-tested g c =
    let task = c.in_ok-task.task in
    let halt = c.in_err-airspace.field-0.0 in
    let refused = subst (λ (f : Option FilesByName). HasTested {X = Airspace} (IsAirspaceSeen f task.airspace) (airspace_tests task.airspace) IsAirspaceRead (Err halt))
    c.in_ok-task.ensures.reads.folder c.in_err-airspace.ensures.tested in
    let p = err_from_is_err_and c.from_residual-in_err-airspace.result c.from_residual-in_err-airspace.ensures.1 in
    rw (p.1, p.2) (day_refused (g.D.Desk.told c.args.desk.now).folder c.args.file.now task halt c.in_ok-task.ensures.read refused)

pub returns-clause-tested : goal.returns-clause-tested
returns-clause-tested g c =
    let task = c.in_ok-task.task in
    let air = c.in_ok-airspace.airspace in
    let read = subst (λ (f : Option FilesByName). HasTested (IsAirspaceSeen f task.airspace) (airspace_tests task.airspace) IsAirspaceRead (Ok air)) c.in_ok-task.ensures.reads.folder
    c.in_ok-airspace.ensures.tested in
    day_read (g.D.Desk.told c.args.desk.now).folder c.args.file.now task air c.in_ok-task.ensures.read read
