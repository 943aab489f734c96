use Rattle.gl_day.specs.Expected.{Expected}
use Rattle.gl_day.proofs.FileWalked.{claim_found, none_found}
use Rattle.gl_day.proofs.file_check.fault_ahead.Goals as goal

pub returns-in-Some-clause-found : goal.returns-in-Some-clause-found
returns-in-Some-clause-found g c = λ file most said has.
    let folder = (g.D.Desk.told c.args.desk.now).folder in
    let e : Expected = record { number = c.args.number.now; kind = c.args.kind; rule = g.G.Goal.rule c.args.goal.now } in
    let next = rw c.in-Some.is at (c.in_ok-said.ensures.next file most said has) in
    claim_found folder file most said e c.check_next.new.self next.0 c.fault_of_said.result (c.fault_of_said.ensures next.0 next.1) next.2

pub returns-in-None-clause-found : goal.returns-in-None-clause-found
returns-in-None-clause-found g c = λ file most said has.
    let folder = (g.D.Desk.told c.args.desk.now).folder in
    let e : Expected = record { number = c.args.number.now; kind = c.args.kind; rule = g.G.Goal.rule c.args.goal.now } in
    let next = rw c.in-None.is at (c.in_ok-said.ensures.next file most said has) in
    none_found folder file most said e c.check_next.new.self next.0 next.1
