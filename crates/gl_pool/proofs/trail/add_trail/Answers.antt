use Rattle.std.proofs.Common.{sym, subst}
use Rattle.std.proofs.lemmas.List.Elements.{All-append}
use Rattle.std.proofs.lemmas.Result.{on_ok_weaker}
use Rattle.gl_order.specs.Runs.{ArePassed, IsPassed}
use Rattle.gl_pool.proofs.Trails.{run_done}
use Rattle.gl_pool.proofs.trail.add_trail.Goals as goal

pub returns-clause-passed : goal.returns-clause-passed
returns-clause-passed c =
    let trail = c.args.trail in
    on_ok_weaker c.add_run.result
    (λ passed before. passed (run_done trail c.requires) (subst ArePassed (sym c.in_ok-append.ensures.items) (All-append IsPassed c.args.runs.now.items trail.runs.items before c.requires.passed)))
    c.add_run.ensures.passed
