use Rattle.std.proofs.Common.{◌≡◌, ◌-◌, Some, arith}
use Rattle.std.specs.Prelude.{slice_get}
use Rattle.gl_judge.proofs.Bounds.{some_then, none_then}
use Rattle.gl_judge.proofs.Lines.{crosses-is, crosses-forwards, read}
use Rattle.gl_judge.proofs.crossings.crossing_at.Goals as goal
use Rattle.gl_judge.proofs.crossings.crossing_at.Goals.{After-crossing}

before-is : (c : After-crossing) → slice_get c.args.rec.now.fixes (c.args.i - 1) ≡ Some c.index-fixes-i.result
before-is c = read c.args.rec.now.fixes c.as_slice-fixes.result.now (c.args.i - 1) c.index-fixes-i.result c.as_slice-fixes.ensures (omega arith) c.index-fixes-i.is

behind-is : (c : After-crossing) → slice_get c.args.rec.now.fixes c.args.i ≡ Some c.index-fixes-i-2.result
behind-is c = read c.args.rec.now.fixes c.as_slice-fixes.result.now c.args.i c.index-fixes-i-2.result c.as_slice-fixes.ensures (omega arith) c.index-fixes-i-2.is

pub returns-clause-some : goal.returns-clause-some
returns-clause-some c =
    some_then c.crossing.result _ _ (λ t h. crosses-is c.args.line.now c.args.rec.now.fixes c.args.judged c.args.i c.index-fixes-i.result c.index-fixes-i-2.result t (omega arith) (omega arith)
    (before-is c) (behind-is c) h) c.crossing.ensures.some

pub returns-clause-none : goal.returns-clause-none
returns-clause-none c =
    none_then c.crossing.result _ _ (λ none t h. none t (crosses-forwards c.args.line.now c.args.rec.now.fixes c.args.judged c.args.i c.index-fixes-i.result c.index-fixes-i-2.result t (before-is c)
    (behind-is c) h)) c.crossing.ensures.none
