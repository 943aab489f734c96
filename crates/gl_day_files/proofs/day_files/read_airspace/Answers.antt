use Rattle.std.proofs.Common.{List, Option, Err, sym, subst, ℕ}
use Rattle.std.proofs.lemmas.Result.{err_from_is_err_and}
use Rattle.gl_airspace.specs.declared.volume.Airspace.{Airspace}
use Rattle.gl_day_files.specs.DayFiles.{IsAirspaceRead, IsAirspaceSeen, airspace_tests}
use Rattle.gl_answer.specs.FileTests.{HasTested}
use Rattle.gl_day_files.proofs.DayTests.{airspace_missing, airspace_tested}
use Rattle.gl_day_files.proofs.day_files.read_airspace.Goals as goal

pub returns-in_err-need-clause-tested : goal.returns-in_err-need-clause-tested
returns-in_err-need-clause-tested g c =
    let folder = (g.D.Desk.told c.args.desk.now).folder in
    let halt = c.in_err-need.field-0.0 in
    let p = err_from_is_err_and c.from_residual.result c.from_residual.ensures.1 in
    rw (p.1, p.2) (subst (λ (o : Option (List ℕ)). HasTested {X = Airspace} (IsAirspaceSeen folder o) (airspace_tests o) IsAirspaceRead (Err halt)) (sym c.in-Some.is)
    (airspace_missing folder c.args.names.now c.in-Some.file halt c.requires c.in_err-need.ensures.needed))

pub returns-clause-tested : goal.returns-clause-tested
returns-clause-tested g c =
    let folder = (g.D.Desk.told c.args.desk.now).folder in
    subst (λ (o : Option (List ℕ)). HasTested (IsAirspaceSeen folder o) (airspace_tests o) IsAirspaceRead c.read_airspace_file.result) (sym c.in-Some.is)
    (airspace_tested folder c.in-Some.file c.read_airspace_file.result c.read_airspace_file.ensures.read)
