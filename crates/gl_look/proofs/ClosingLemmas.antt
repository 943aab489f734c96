-- How a flight is judged by its task, whatever the airspace, and when it comes within the finish.
use Rattle.std.proofs.Common.{◌≡◌, ◌∙◌, ap, arith, refl, subst, sym, ℕ, ◌+◌, ℤ, List, [], length, Option, None, Some, slice_get}
use Rattle.std.specs.Prelude.{IfNone, IfSome}
use Rattle.gl_airspace.specs.declared.volume.Airspace.{Airspace}
use Rattle.gl_airspace.specs.declared.volume.Volume.{Volume}
use Rattle.gl_igc.specs.declared.fix.Fix.{Fix}
use Rattle.gl_igc.specs.declared.recording.Recording.{Recording}
use Rattle.gl_judge.proofs.OneOutcome.{one_judged}
use Rattle.gl_judge.specs.Crossings.{Crosses}
use Rattle.gl_judge.specs.Finishes.{IsAtFinish}
use Rattle.gl_judge.specs.JudgedFixes.{IsJudgedRange}
use Rattle.gl_judge.specs.Outcome.{IsJudged}
use Rattle.gl_judge.specs.declared.outcome.Judged.{Judged}
use Rattle.gl_judge.specs.declared.outcome.Judged.TheVariants.{Finished, Outlanded, NoStart}
use Rattle.gl_judge.specs.declared.outcome.Window.{Window}
use Rattle.gl_judge.specs.declared.stretch.Stretch.{Stretch}
use Rattle.gl_task.specs.declared.day_type.Finish.{Finish}
use Rattle.gl_task.specs.declared.day_type.Finish.TheVariants.{Gate, Ring}
use Rattle.gl_task.specs.declared.task.Task.{Task}
use Rattle.gl_zone.specs.Crossing.{at_crossing}
use Rattle.gl_zone.specs.declared.line.Line.{Line}
use Rattle.gl_look.specs.Closings.{IsFirstLate, IsJudgedByTask, IsLate, IsLateFinish, IsOutAfterZones}

-- the fix of a number is one
one_fix : (fixes : List Fix) (i j : ℕ) (x y : Fix) → i ≡ j → slice_get fixes i ≡ Some x → slice_get fixes j ≡ Some y → x ≡ y
one_fix fixes i j x y same first second =
    let e : Some x ≡ Some y = sym first ∙ ap (slice_get fixes) same ∙ second in
    cc

-- a line is crossed with a fix at one time
one_crossing : (line : Line) (fixes : List Fix) (judged : Stretch) (i : ℕ) (s t : ℤ) → Crosses line fixes judged i s → Crosses line fixes judged i t → s ≡ t
one_crossing line fixes judged i s t first second =
    let next : first.before + 1 ≡ i = first.next in
    let also : second.before + 1 ≡ i = second.next in
    let x : first.x ≡ second.x = one_fix fixes first.before second.before first.x second.x (omega arith) first.x_is second.x_is in
    let y : first.y ≡ second.y = one_fix fixes i i first.y second.y refl first.y_is second.y_is in
    first.crossed.time
    ∙ ap (λ (fix : Fix). at_crossing line fix first.y fix.second first.y.second) x
    ∙ ap (λ (fix : Fix). at_crossing line second.x fix second.x.second fix.second) y
    ∙ sym second.crossed.time

-- the finish is reached with a fix at one time
pub one_time : (finish : Finish) (fixes : List Fix) (judged : Stretch) (f : ℕ) (s t : ℤ) → IsAtFinish finish fixes judged f s → IsAtFinish finish fixes judged f t → s ≡ t
one_time (Ring at radius) fixes judged f s t first second =
    first.time_is ∙ ap (λ (fix : Fix). fix.second) (one_fix fixes f f first.fix second.fix refl first.fix_is second.fix_is) ∙ sym second.time_is
one_time (Gate line) fixes judged f s t first second = one_crossing line fixes judged f s t first second

-- that is how it is judged by an airspace without a volume
by_task : (task : Task) (air : Airspace) (rec : Recording) (outcome : Judged) → air.volumes ≡ [] → IsJudged task air rec outcome → IsJudgedByTask task rec outcome
by_task task air rec outcome none is = record {
  judged = is.judged;
  range = subst (λ (volumes : List Volume). IsJudgedRange task.closes volumes rec.fixes is.judged) none is.range;
  is = is.is;
}

-- in one way
one_by_task : (task : Task) (air : Airspace) (rec : Recording) (one other : Judged) → air.volumes ≡ [] → IsJudged task air rec one → IsJudgedByTask task rec other → one ≡ other
one_by_task task air rec one other none is also =
    one_judged task air rec one other is
    (record { judged = also.judged; range = subst (λ (volumes : List Volume). IsJudgedRange task.closes volumes rec.fixes also.judged) (sym none) also.range; is = also.is })

-- the last fix of an outlanding
abbrev last_fix : Judged → ℕ
last_fix (Finished window seconds) = 0
last_fix (Outlanded window zones) = window.last
last_fix NoStart = 0

-- a flight that is judged otherwise didn't land out after all zones
pub none_out : (task : Task) (air : Airspace) (rec : Recording) (judged : Judged) → air.volumes ≡ [] → IsJudged task air rec judged
    → ((window : Window) → judged ≡ Outlanded window (length task.zones) → ⊥) → (last f : ℕ) (time : ℤ) → IsOutAfterZones task rec last → IsLateFinish task rec.fixes last f time → ⊥
none_out task air rec judged none is never last f time out late = never out.window (one_by_task task air rec judged _ none is out.is)

-- one that did comes within the finish too late, or it doesn't
pub out_late : (task : Task) (air : Airspace) (rec : Recording) (judged : Judged) (window : Window) (last : ℕ) (late : Option ℤ) → air.volumes ≡ [] → IsJudged task air rec judged
    → judged ≡ Outlanded window (length task.zones) → window.last ≡ last → IfSome late (IsFirstLate task rec.fixes last)
    → IfNone late ((f : ℕ) (time : ℤ) → IsLateFinish task rec.fixes last f time → ⊥) → IsLate task rec late
out_late task air rec judged window last (Some time) none is out at some never =
    let here = by_task task air rec judged none is in
    (last, record { window = window; is = subst (λ (o : Judged). IsJudgedByTask task rec o) out here; last_is = at }, some)
out_late task air rec judged window last None none is out at some never = λ other f time also late.
    let same : window.last ≡ also.window.last = ap last_fix (sym out ∙ one_by_task task air rec judged _ none is also.is) in
    let lasts : other ≡ last = sym also.last_is ∙ sym same ∙ at in
    never f time (subst (λ (n : ℕ). IsLateFinish task rec.fixes n f time) lasts late)
