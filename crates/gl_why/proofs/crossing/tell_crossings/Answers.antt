use Rattle.std.proofs.Common.{◌≡◌, ◌≤◌, ◌-◌, ap, arith}
use Rattle.gl_goal.specs.Free.{numbers_from}
use Rattle.gl_judge.specs.Choices.{numbers_before}
use Rattle.gl_why.specs.Crossings.{IsCrossingTold}
use Rattle.gl_why.proofs.FoundLemmas.{next_found, none_found, numbers-more}
use Rattle.gl_why.proofs.crossing.tell_crossings.Goals as goal

pub fixes-init : goal.fixes-init
fixes-init c =
    let none : c.args.judged.from - c.args.judged.from ≡ 0 = omega arith in
    none_found (IsCrossingTold c.args.start.now c.args.rec.now c.args.judged) (numbers_before c.args.judged.from c.args.judged.from) c.args.lines.now (ap (numbers_from c.args.judged.from) none)

pub fixes-preserved : goal.fixes-preserved
fixes-preserved c =
    let low : c.args.judged.from ≤ c.fixes.b = omega arith in
    next_found (IsCrossingTold c.args.start.now c.args.rec.now c.args.judged) (numbers_before c.args.judged.from c.fixes.b) _ c.fixes.b _ _ _ (numbers-more c.args.judged.from c.fixes.b low) c.fixes.invariant
    c.in_ok-tell_crossing.ensures
