use Rattle.std.proofs.Common.{◌≡◌, rules, false, not}
use Rattle.std.specs.Prelude.{◌==◌, ◌||◌}
use Rattle.std.proofs.lemmas.Result.{on_ok_weaker}
use Rattle.gl_why.proofs.ResultLemmas.{earning_told}
use Rattle.gl_why.proofs.results.tell_earning.Goals as goal

pub returns : goal.returns
returns c =
    let counts : (not c.args.performance.now.launched || (c.args.day.now.far == 0)) ≡ false = search rules in
    on_ok_weaker c.tell_earned.result
    (λ told. earning_told c.args.day.now c.args.number.now c.args.performance.now c.earning_of-earning.result _ _ counts c.earning_of-earning.ensures told) c.tell_earned.ensures
