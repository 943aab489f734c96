use Rattle.std.proofs.Common.{Option, subst, arith}
use Rattle.gl_check.proofs.FileLines.{handed_on}
use Rattle.gl_day.specs.Expected.{Expected}
use Rattle.gl_day.specs.FileChecked.{HaltsAhead, IsFoundAhead}
use Rattle.gl_day.specs.declared.fault.Fault.{Fault}
use Rattle.gl_day.proofs.FileWalked.{right_ahead, wrong_ahead}
use Rattle.gl_day.proofs.file_check.check_ahead.Goals as goal

pub returns-in_err-fault-clause-halted : goal.returns-in_err-fault-clause-halted
returns-in_err-fault-clause-halted g c =
    handed_on (HaltsAhead (g.D.Desk.told c.args.desk.now).folder c.args.claims.now) c.from_residual.result c.in_err-fault.field-0.0 c.from_residual.ensures.1
    (λ file most before proved. c.in_err-fault.ensures.halted file most proved.said proved.has)

pub returns-in-Some-clause-goes_on : goal.returns-in-Some-clause-goes_on
returns-in-Some-clause-goes_on g c = λ file most before counted proved.
    let folder = (g.D.Desk.told c.args.desk.now).folder in
    let e : Expected = record { number = c.args.number.now; kind = c.args.kind; rule = g.G.Goal.rule c.args.goal.now } in
    let found = subst (λ (o : Option Fault). IsFoundAhead folder file most proved.said e c.fault_ahead.new.claims o) c.in-Some.is
    (c.in_ok-fault.ensures.found file most proved.said proved.has) in
    wrong_ahead folder file most before e c.args.claims.now c.fault_ahead.new.claims proved (record { claim = c.saturating_add.result; fault = c.in-Some.fault }) found
    (omega (arith, counted, c.saturating_add.ensures))

pub returns-in-None-clause-goes_on : goal.returns-in-None-clause-goes_on
returns-in-None-clause-goes_on g c = λ file most before counted proved.
    let folder = (g.D.Desk.told c.args.desk.now).folder in
    let e : Expected = record { number = c.args.number.now; kind = c.args.kind; rule = g.G.Goal.rule c.args.goal.now } in
    let found = subst (λ (o : Option Fault). IsFoundAhead folder file most proved.said e c.fault_ahead.new.claims o) c.in-None.is
    (c.in_ok-fault.ensures.found file most proved.said proved.has) in
    right_ahead folder file most before e c.args.claims.now c.fault_ahead.new.claims proved found
