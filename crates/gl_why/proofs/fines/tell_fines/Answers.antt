use Rattle.std.proofs.Common.{subst, sym}
use Rattle.std.specs.Prelude.{OnOk}
use Rattle.gl_day.specs.Code.Found.{IsWindowOf, OnWindow}
use Rattle.gl_day.proofs.Windows.{window_in}
use Rattle.gl_judge.specs.declared.outcome.Judged.{Judged}
use Rattle.gl_why.specs.Facts.{AddsFacts}
use Rattle.gl_why.specs.Fines.{AreFinesTold}
use Rattle.gl_why.proofs.fines.tell_fines.Goals as goal

pub tell_window_fines-requires : goal.tell_window_fines-requires
tell_window_fines-requires c =
    subst (λ (o : Judged). OnWindow o (IsWindowOf c.args.rec.now.fixes)) c.in-Finished.is
    (window_in c.args.task.now c.requires.0 c.args.rec.now c.args.judged.now c.requires.1)

pub returns-in-Finished : goal.returns-in-Finished
returns-in-Finished c =
    subst (λ (o : Judged). OnOk c.tell_window_fines.result (AddsFacts (AreFinesTold c.args.task.now.rules c.args.rec.now.fixes o) c.args.lines.now c.tell_window_fines.new.lines)) (sym c.in-Finished.is)
    c.tell_window_fines.ensures

pub returns-in-Outlanded : goal.returns-in-Outlanded
returns-in-Outlanded c =
    subst
    (λ (o : Judged). OnOk c.tell_window_fines-in-Outlanded.result
    (AddsFacts (AreFinesTold c.args.task.now.rules c.args.rec.now.fixes o) c.args.lines.now c.tell_window_fines-in-Outlanded.new.lines)) (sym c.in-Outlanded.is) c.tell_window_fines-in-Outlanded.ensures
