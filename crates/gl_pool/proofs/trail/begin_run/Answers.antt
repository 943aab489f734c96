use Rattle.std.proofs.Common.{◌≡◌, ◌∙◌, sym, ap, subst, [], ◌∷◌, ◌++◌, map}
use Rattle.std.proofs.lemmas.Result.{on_ok_weaker}
use Rattle.gl_box.specs.Turns.{left_open, reason_of}
use Rattle.gl_box.specs.Walk.{open_cells}
use Rattle.gl_order.specs.declared.run.Run.{Run}
use Rattle.gl_order.specs.Runs.{IsPassed}
use Rattle.gl_pool.proofs.Trails.{run_done}
use Rattle.gl_pool.proofs.trail.begin_run.Goals as goal

pub returns-clause-trail : goal.returns-clause-trail
returns-clause-trail c =
    let cell = c.args.cell.now in
    let next = c.in_ok-next.next in
    let leads : left_open (open_cells next.before.items) (map reason_of next.turns.items) ≡ open_cells (next.after.items ++ cell ∷ []) =
    ap (λ turns. left_open (open_cells next.before.items) (map reason_of turns)) c.in_ok-next.ensures.turns ∙ ap open_cells c.in_ok-next.ensures.next in
    let done : IsPassed c.replace-done.result = subst IsPassed (sym c.replace-done.ensures.value) (run_done c.args.trail.now c.requires) in
    on_ok_weaker c.add_run.result (λ passed. record {
      passed = passed done c.requires.passed;
      leads = subst (λ (run : Run). left_open (open_cells run.before.items) (map reason_of run.turns.items) ≡ open_cells (run.after.items ++ cell ∷ [])) (sym c.replace-done.ensures.after) leads;
    }) c.add_run.ensures.passed
