-- A flight is judged in one way.
use Rattle.std.proofs.Common.{◌≡◌, refl, sym, ap, subst, ◌∙◌, ℕ, ◌+◌, ◌-◌, ◌<◌, ◌≤◌, List, Some, slice_get, ℤ, pos, ◌-ℤ◌, arith, inl, inr}
use Rattle.std.proofs.lemmas.Bool.{cases_lt}
use Rattle.std.proofs.lemmas.Int.{ints}
use Rattle.gl_airspace.specs.declared.volume.Airspace.{Airspace}
use Rattle.gl_airspace.specs.declared.volume.Volume.{Volume}
use Rattle.gl_igc.specs.declared.fix.Fix.{Fix}
use Rattle.gl_igc.specs.declared.recording.Recording.{Recording}
use Rattle.gl_task.specs.declared.day_type.Finish.{Finish}
use Rattle.gl_task.specs.declared.day_type.Finish.TheVariants.{Ring, Gate}
use Rattle.gl_task.specs.declared.task.Start.{Start}
use Rattle.gl_task.specs.declared.task.Task.{Task}
use Rattle.gl_zone.specs.declared.line.Line.{Line}
use Rattle.gl_zone.specs.Crossing.{at_crossing}
use Rattle.gl_judge.specs.declared.outcome.Judged.{Judged}
use Rattle.gl_judge.specs.declared.outcome.Judged.TheVariants.{Finished, Outlanded, NoStart}
use Rattle.gl_judge.specs.declared.outcome.Window.{Window}
use Rattle.gl_judge.specs.declared.stretch.Stretch.{Stretch}
use Rattle.gl_judge.specs.Crossings.{Crosses}
use Rattle.gl_judge.specs.Finishes.{IsAtFinish}
use Rattle.gl_judge.specs.Greatest.{IsGreatest, IsLeast}
use Rattle.gl_judge.specs.JudgedFixes.{IsInRange, IsJudgedRange}
use Rattle.gl_judge.specs.Outcome.{Completes, IsFinished, IsJudged, IsOutcome, IsOutlanded}
use Rattle.gl_judge.specs.Starts.{IsLegalStart}
use Rattle.gl_judge.specs.Visits.{VisitsFirst}
use Rattle.gl_judge.proofs.OneList.{greatest_alone, least_alone}

-- the fix of a number is one
one_fix : (fixes : List Fix) (i j : ℕ) (x y : Fix) → i ≡ j → slice_get fixes i ≡ Some x → slice_get fixes j ≡ Some y → x ≡ y
one_fix fixes i j x y same first second =
    let e : Some x ≡ Some y = sym first ∙ ap (slice_get fixes) same ∙ second in
    cc

-- a line is crossed with a fix at one time
one_crossing : (line : Line) (fixes : List Fix) (judged : Stretch) (i : ℕ) (s t : ℤ) → Crosses line fixes judged i s → Crosses line fixes judged i t → s ≡ t
one_crossing line fixes judged i s t first second =
    let next : first.before + 1 ≡ i = first.next in
    let also : second.before + 1 ≡ i = second.next in
    let x : first.x ≡ second.x = one_fix fixes first.before second.before first.x second.x (omega arith) first.x_is second.x_is in
    let y : first.y ≡ second.y = one_fix fixes i i first.y second.y refl first.y_is second.y_is in
    first.crossed.time
    ∙ ap (λ (fix : Fix). at_crossing line fix first.y fix.second first.y.second) x
    ∙ ap (λ (fix : Fix). at_crossing line second.x fix second.x.second fix.second) y
    ∙ sym second.crossed.time

one_finish_time : (finish : Finish) (fixes : List Fix) (judged : Stretch) (f g : ℕ) (s t : ℤ) → f ≡ g → IsAtFinish finish fixes judged f s → IsAtFinish finish fixes judged g t → s ≡ t
one_finish_time (Ring at radius) fixes judged f g s t same first second =
    first.time_is
    ∙ ap (λ (fix : Fix). fix.second) (one_fix fixes f g first.fix second.fix same first.fix_is second.fix_is)
    ∙ sym second.time_is
one_finish_time (Gate line) fixes judged f g s t same first second =
    one_crossing line fixes judged g s t (subst (λ (i : ℕ). Crosses line fixes judged i s) same first) second

one_start_time : (start : Start) (recording : Recording) (judged : Stretch) (a b : ℕ) (s t : ℤ) → a ≡ b → IsLegalStart start recording judged a s → IsLegalStart start recording judged b t → s ≡ t
one_start_time start recording judged a b s t same first second =
    one_crossing start.line recording.fixes judged b s t (subst (λ (i : ℕ). Crosses start.line recording.fixes judged i s) same first.crossed) second.crossed

one_window : (v w : Window) → v.first ≡ w.first → v.last ≡ w.last → v.start ≡ w.start → v ≡ w
one_window v w first last start = λ i. record { first = first i; last = last i; start = start i }

one_finished : (task : Task) (recording : Recording) (judged : Stretch) (v w : Window) (m n : ℕ) → IsFinished task recording judged v m → IsFinished task recording judged w n
    → Finished v m ≡ Finished w n
one_finished task recording judged v w m n one other =
    let first : v.first ≡ w.first = greatest_alone _ v.first w.first one.first other.first in
    let start : v.start ≡ w.start = one_start_time task.start recording judged v.first w.first v.start w.start first one.start other.start in
    let last : v.last ≡ w.last = least_alone _ v.last w.last one.last (subst (λ (b : ℕ). IsLeast (Completes task recording judged b) w.last) (sym first) other.last) in
    let time : one.time ≡ other.time = one_finish_time task.finish recording.fixes judged v.last w.last one.time other.time last one.finish.finished.at_finish other.finish.finished.at_finish in
    let flown : pos m ≡ pos n = one.flown ∙ ap (λ (t : ℤ). t -ℤ v.start) time ∙ ap (λ (s : ℤ). other.time -ℤ s) start ∙ sym other.flown in
    let seconds : m ≡ n = omega (arith, ints) in
    ap (λ (window : Window). Finished window m) (one_window v w first last start) ∙ ap (λ (k : ℕ). Finished w k) seconds

one_outlanded : (task : Task) (recording : Recording) (judged : Stretch) (v w : Window) (m n : ℕ) → IsOutlanded task recording judged v m → IsOutlanded task recording judged w n
    → Outlanded v m ≡ Outlanded w n
one_outlanded task recording judged v w m n one other =
    let first : v.first ≡ w.first = least_alone _ v.first w.first one.first other.first in
    let start : v.start ≡ w.start = one_start_time task.start recording judged v.first w.first v.start w.start first one.start other.start in
    let v_last : v.last + 1 ≡ judged.to = one.last in
    let w_last : w.last + 1 ≡ judged.to = other.last in
    let last : v.last ≡ w.last = omega arith in
    let zones : m ≡ n = greatest_alone _ m n one.visited (subst (λ (b : ℕ). IsGreatest (VisitsFirst recording.fixes judged task.zones b) n) (sym first) other.visited) in
    ap (λ (window : Window). Outlanded window m) (one_window v w first last start) ∙ ap (λ (k : ℕ). Outlanded w k) zones

-- one range of judged fixes gives one outcome
one_in_range : (task : Task) (recording : Recording) (judged : Stretch) (one other : Judged) → IsOutcome task recording judged one → IsOutcome task recording judged other → one ≡ other
one_in_range task recording judged (Finished v m) (Finished w n) first second = one_finished task recording judged v w m n first second
one_in_range task recording judged (Finished v m) (Outlanded w n) first second = absurd (second.incomplete v.first first.first.is)
one_in_range task recording judged (Finished v m) NoStart first second = absurd (second v.first first.first.is.start)
one_in_range task recording judged (Outlanded v m) (Finished w n) first second = absurd (first.incomplete w.first second.first.is)
one_in_range task recording judged (Outlanded v m) (Outlanded w n) first second = one_outlanded task recording judged v w m n first second
one_in_range task recording judged (Outlanded v m) NoStart first second = absurd (second v.first first.first.is)
one_in_range task recording judged NoStart (Finished w n) first second = absurd (first w.first second.first.is.start)
one_in_range task recording judged NoStart (Outlanded w n) first second = absurd (first w.first second.first.is)
one_in_range task recording judged NoStart NoStart first second = refl

-- without a judged fix there is no start
none_judged : (task : Task) (recording : Recording) (judged : Stretch) (outcome : Judged) → judged.to ≤ judged.from → IsOutcome task recording judged outcome → outcome ≡ NoStart
none_judged task recording judged (Finished w n) none is =
    let at : IsInRange judged w.first = is.start.crossed.behind_judged in
    absurd (omega (arith, at.0, at.1))
none_judged task recording judged (Outlanded w n) none is =
    let at : IsInRange judged w.first = is.start.crossed.behind_judged in
    absurd (omega (arith, at.0, at.1))
none_judged task recording judged NoStart none is = refl

within : (closes : ℤ) (volumes : List Volume) (fixes : List Fix) (p q : Stretch) → IsJudgedRange closes volumes fixes p → IsJudgedRange closes volumes fixes q → (i : ℕ) → IsInRange p i → IsInRange q i
within closes volumes fixes p q first second i at = second.all i (first.each i at)

-- where a fix is judged, the judged range is one
one_range : (closes : ℤ) (volumes : List Volume) (fixes : List Fix) (p q : Stretch) → p.from < p.to → IsJudgedRange closes volumes fixes p → IsJudgedRange closes volumes fixes q → p ≡ q
one_range closes volumes fixes p q some first second =
    let low : IsInRange q p.from = within closes volumes fixes p q first second p.from (omega arith, some) in
    let high : IsInRange q (p.to - 1) = within closes volumes fixes p q first second (p.to - 1) (omega arith, omega arith) in
    let back_low : IsInRange p q.from = within closes volumes fixes q p second first q.from (omega arith, omega (arith, low.0, low.1)) in
    let back_high : IsInRange p (q.to - 1) = within closes volumes fixes q p second first (q.to - 1) (omega (arith, low.0, low.1), omega (arith, low.0, low.1)) in
    let from : p.from ≡ q.from = omega (arith, low.0, back_low.0) in
    let to : p.to ≡ q.to = omega (arith, low.0, low.1, high.1, back_high.1) in
    λ i. record { from = from i; to = to i }

pub one_judged : (task : Task) (air : Airspace) (recording : Recording) (one other : Judged) → IsJudged task air recording one → IsJudged task air recording other → one ≡ other
one_judged task air recording one other first second =
    elim (cases_lt first.judged.from first.judged.to) as (λ _. one ≡ other) [
      | inl some ↦ (let range = one_range task.closes air.volumes recording.fixes first.judged second.judged some first.range second.range in
          one_in_range task recording second.judged one other (subst (λ (judged : Stretch). IsOutcome task recording judged one) range first.is) second.is)
      | inr none ↦ (elim (cases_lt second.judged.from second.judged.to) as (λ _. one ≡ other) [
        | inl some ↦ (let range = one_range task.closes air.volumes recording.fixes second.judged first.judged some second.range first.range in
            one_in_range task recording first.judged one other first.is (subst (λ (judged : Stretch). IsOutcome task recording judged other) range second.is))
        | inr empty ↦ none_judged task recording first.judged one none first.is ∙ sym (none_judged task recording second.judged other empty second.is)
      ])
    ]
