use Rattle.std.proofs.lemmas.Result.{on_ok_weaker}
use Rattle.gl_why.specs.Fines.{IsFineTold}
use Rattle.gl_why.proofs.FoundLemmas.{both_found}
use Rattle.gl_why.proofs.fines.tell_window_fines.Goals as goal

pub returns : goal.returns
returns c =
    on_ok_weaker c.tell_fine-2.result (λ second. both_found (IsFineTold c.args.task.now.rules c.args.rec.now.fixes c.args.window) _ _ _ _ _ c.in_ok-tell_fine.ensures second)
    c.tell_fine-2.ensures
