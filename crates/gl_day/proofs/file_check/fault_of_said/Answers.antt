use Rattle.std.proofs.Common.{◌≡◌, rules}
use Rattle.gl_day.specs.Expected.{Expected}
use Rattle.gl_day.proofs.file_check.fault_of_said.Goals as goal

pub returns : goal.returns
returns g c = λ statement is.
    let e : Expected = record { number = c.args.number.now; kind = c.args.kind; rule = g.G.Goal.rule c.args.goal.now } in
    let number : c.args.said.now.number ≡ c.args.number.now = search rules in
    let kind : c.args.said.now.kind ≡ c.args.kind = search rules in
    c.fault_of_verdict.ensures e statement ((cc, cc), is.verdict) is.optimum
