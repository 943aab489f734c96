use Rattle.std.proofs.Common.{◌≡◌, refl, None, Some, rules, arith, pos, ◌<ℤ◌, ◌≤ℤ◌, ℤ, subst, FitsSigned, w32, to_z, of_z}
use Rattle.std.specs.Prelude.{position, slice_get}
use Rattle.std.proofs.lemmas.Int.{ints, to_z-of_z}
use Rattle.gl_airspace.specs.Inside.{is_inside}
use Rattle.gl_airspace.specs.declared.volume.Volume.{Volume}
use Rattle.gl_judge.proofs.Bounds.{none_when}
use Rattle.gl_judge.proofs.Lines.{read}
use Rattle.gl_why.proofs.CutLemmas.{after_end, at_least, before_day, entered, outside, past_end}
use Rattle.gl_why.proofs.cut.cut_of.Goals as goal

pub returns-then-next-fixes-clause-none : goal.returns-then-next-fixes-clause-none
returns-then-next-fixes-clause-none c = past_end c.args.task.now.closes c.args.air.now.volumes c.args.fixes.now c.args.judged.to (omega arith)

pub returns-then-fix-lt0-clause-none : goal.returns-then-fix-lt0-clause-none
returns-then-fix-lt0-clause-none c =
    let is : slice_get c.args.fixes.now c.args.judged.to ≡ Some c.index-fixes-next.result = read c.args.fixes.now c.args.fixes.now c.args.judged.to c.index-fixes-next.result refl (omega arith) c.index-fixes-next.is in
    let early : c.index-fixes-next.result.second <ℤ pos 0 = grind (arith, ints) in
    before_day _ _ _ _ c.index-fixes-next.result is early

pub returns-then-task-fix-clause-none : goal.returns-then-task-fix-clause-none
returns-then-task-fix-clause-none c =
    let is : slice_get c.args.fixes.now c.args.judged.to ≡ Some c.index-fixes-next.result = read c.args.fixes.now c.args.fixes.now c.args.judged.to c.index-fixes-next.result refl (omega arith) c.index-fixes-next.is in
    let late : c.args.task.now.closes <ℤ c.index-fixes-next.result.second = grind (arith, ints) in
    after_end _ _ _ _ c.index-fixes-next.result is late

pub returns-in_err-volume-clause-none : goal.returns-in_err-volume-clause-none
returns-in_err-volume-clause-none c =
    let is : slice_get c.args.fixes.now c.args.judged.to ≡ Some c.index-fixes-next.result = read c.args.fixes.now c.args.fixes.now c.args.judged.to c.index-fixes-next.result refl (omega arith) c.index-fixes-next.is in
    let none : position (λ (volume : Volume). is_inside volume c.index-fixes-next.result) c.args.air.now.volumes ≡ None = search rules in
    none_when _ _ (outside _ c.args.air.now.volumes c.args.fixes.now c.args.judged.to c.index-fixes-next.result is none)

pub returns-clause-some : goal.returns-clause-some
returns-clause-some c =
    let is : slice_get c.args.fixes.now c.args.judged.to ≡ Some c.index-fixes-next.result = read c.args.fixes.now c.args.fixes.now c.args.judged.to c.index-fixes-next.result refl (omega arith) c.index-fixes-next.is in
    let found : position (λ (volume : Volume). is_inside volume c.index-fixes-next.result) c.args.air.now.volumes ≡ Some c.in_ok-volume.volume = search rules in
    let fits : FitsSigned w32 c.index-fixes-next.result.second = search rules in
    let closes_fits : FitsSigned w32 c.args.task.now.closes = search rules in
    let of_day : pos 0 ≤ℤ c.index-fixes-next.result.second = subst (λ (z : ℤ). pos 0 ≤ℤ z) (to_z-of_z w32 c.index-fixes-next.result.second fits) (at_least _ _ c.if-fix-lt0.false) in
    let in_time : c.index-fixes-next.result.second ≤ℤ c.args.task.now.closes = subst (λ (z : ℤ). z ≤ℤ c.args.task.now.closes) (to_z-of_z w32 c.index-fixes-next.result.second fits)
    (subst (λ (z : ℤ). to_z w32 (of_z w32 c.index-fixes-next.result.second) ≤ℤ z) (to_z-of_z w32 c.args.task.now.closes closes_fits) (at_least _ _ c.if-task-fix.false)) in
    record {
      number = refl;
      spot = is;
      entry = record {
        fix = c.index-fixes-next.result;
        is = is;
        of_day = of_day;
        in_time = in_time;
        inside = entered c.args.air.now.volumes c.index-fixes-next.result c.in_ok-volume.volume found;
      };
      volume_is = found;
    }
