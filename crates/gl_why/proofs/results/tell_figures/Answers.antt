use Rattle.std.proofs.Common.{◌≡◌, rules, false}
use Rattle.std.specs.Prelude.{◌==◌}
use Rattle.std.proofs.lemmas.Result.{on_ok_weaker}
use Rattle.gl_why.proofs.ResultLemmas.{figures_told}
use Rattle.gl_why.proofs.results.tell_figures.Goals as goal

pub returns : goal.returns
returns c =
    let far : (c.args.day.now.far == 0) ≡ false = search rules in
    on_ok_weaker c.push-2.result (λ told. figures_told c.args.day.now c.most_of-most.result _ _ _ far c.most_of-most.ensures c.in_ok-push.ensures told) c.push-2.ensures
