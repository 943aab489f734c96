use Rattle.std.proofs.Common.{◌≡◌, subst, ℕ, ◌<◌, ◌≤◌, ◌-◌, arith, drop, length, List}
use Rattle.gl_zone.specs.declared.zone.Zone.{Zone}
use Rattle.gl_igc.specs.declared.fix.Fix.{Fix}
use Rattle.gl_judge.specs.Greatest.{IsGreatest}
use Rattle.gl_judge.specs.Visits.{CanFinish, IsInZone}
use Rattle.gl_judge.proofs.Bounds.{none_when}
use Rattle.gl_judge.proofs.Readiness.{ready-before, unfinishable, unready-before}
use Rattle.gl_judge.proofs.visits.last_ready.Goals as goal

one_before : (k n : ℕ) → 0 < k → k ≤ n → k - 1 < n
one_before k n some most = omega arith

no_more : (k : ℕ) → k ≤ 0 → k ≡ 0
no_more k none = omega arith

pub returns-in_err-limit-clause-none : goal.returns-in_err-limit-clause-none
returns-in_err-limit-clause-none c =
    none_when c.from_residual.result _ (unfinishable c.args.task.now.finish c.args.rec.now.fixes c.args.judged c.args.task.now.zones c.in_err-limit.ensures.none)

pub returns-in_err-limit-2-clause-none : goal.returns-in_err-limit-2-clause-none
returns-in_err-limit-2-clause-none c =
    let none : (i : ℕ) → i ≤ c.loop-k.limit → IsInZone c.args.rec.now.fixes c.args.judged c.index-zones-k.result i → ⊥ =
    subst (λ (fixes : List Fix). (i : ℕ) → i ≤ c.loop-k.limit → IsInZone fixes c.args.judged c.index-zones-k.result i → ⊥) c.as_slice-fixes.ensures c.in_err-limit-2.ensures.none in
    none_when c.from_residual-in_err-limit-2.result _
    (subst (λ (zones : List Zone). (b : ℕ) → CanFinish c.args.task.now.finish c.args.rec.now.fixes c.args.judged zones b → ⊥) c.as_slice-zones.ensures
    (unready-before c.args.task.now.finish c.args.rec.now.fixes c.args.judged c.as_slice-zones.result.now c.loop-k.k c.loop-k.limit c.index-zones-k.result c.loop-k-test.true
    (one_before c.loop-k.k (length c.as_slice-zones.result.now) c.loop-k-test.true c.loop-k.auto.k) c.index-zones-k.is c.loop-k.invariant.last none))

pub loop-k-preserved : goal.loop-k-preserved
loop-k-preserved c =
    let found : IsInZone c.args.rec.now.fixes c.args.judged c.index-zones-k.result c.in_ok-limit-2.limit =
    subst (λ (fixes : List Fix). IsInZone fixes c.args.judged c.index-zones-k.result c.in_ok-limit-2.limit) c.as_slice-fixes.ensures c.in_ok-limit-2.ensures.found in
    let last : (i : ℕ) → i ≤ c.loop-k.limit → IsInZone c.args.rec.now.fixes c.args.judged c.index-zones-k.result i → i ≤ c.in_ok-limit-2.limit =
    subst (λ (fixes : List Fix). (i : ℕ) → i ≤ c.loop-k.limit → IsInZone fixes c.args.judged c.index-zones-k.result i
    → i ≤ c.in_ok-limit-2.limit) c.as_slice-fixes.ensures c.in_ok-limit-2.ensures.last in
    record {
      is_judged = found.is_judged;
      last = ready-before c.args.task.now.finish c.args.rec.now.fixes c.args.judged c.as_slice-zones.result.now c.loop-k.k c.loop-k.limit c.in_ok-limit-2.limit c.index-zones-k.result c.loop-k-test.true
          (one_before c.loop-k.k (length c.as_slice-zones.result.now) c.loop-k-test.true c.loop-k.auto.k) c.index-zones-k.is c.loop-k.invariant.last found c.in_ok-limit-2.ensures.before last;
    }

pub returns-clause-last : goal.returns-clause-last
returns-clause-last c =
    let none_left = no_more c.loop-k.k c.loop-k-test.false in
    let whole : IsGreatest (CanFinish c.args.task.now.finish c.args.rec.now.fixes c.args.judged c.as_slice-zones.result.now) c.loop-k.limit =
    subst (λ (k : ℕ). IsGreatest (CanFinish c.args.task.now.finish c.args.rec.now.fixes c.args.judged (drop k c.as_slice-zones.result.now)) c.loop-k.limit) none_left c.loop-k.invariant.last in
    subst (λ (zones : List Zone). IsGreatest (CanFinish c.args.task.now.finish c.args.rec.now.fixes c.args.judged zones) c.loop-k.limit) c.as_slice-zones.ensures whole
