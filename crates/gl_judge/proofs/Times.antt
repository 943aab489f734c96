-- When a line is crossed, and that a finish isn't before its start.
use Rattle.std.proofs.Common.{◌≡◌, sym, subst, refl, ℕ, ◌+◌, ◌*◌, ◌/◌, ◌≤◌, List, Some, ℤ, pos, ◌≤ℤ◌, ◌-ℤ◌, map, arith, inl, inr}
use Rattle.std.specs.Prelude.{IsTrue, slice_get, unsigned_abs}
use Rattle.std.proofs.lemmas.Bool.{cases_lt}
use Rattle.std.proofs.lemmas.Int.{ints}
use Rattle.gl_igc.specs.declared.fix.Fix.{Fix}
use Rattle.gl_igc.specs.declared.recording.Recording.{Recording}
use Rattle.gl_igc.specs.Seconds.{is_rising}
use Rattle.gl_task.specs.declared.day_type.Finish.{Finish}
use Rattle.gl_task.specs.declared.day_type.Finish.TheVariants.{Ring, Gate}
use Rattle.gl_task.specs.declared.task.Start.{Start}
use Rattle.gl_zone.specs.declared.line.Line.{Line}
use Rattle.gl_zone.specs.Crossing.{CrossesForwards, on_the_way, depth_of}
use Rattle.gl_zone.proofs.Ways.{share_at_most, on_the_way-none, on_the_way-rising}
use Rattle.gl_airspace.specs.declared.volume.Volume.{Volume}
use Rattle.gl_task.specs.declared.task.Task.{Task}
use Rattle.gl_judge.specs.declared.outcome.Judged.{Judged}
use Rattle.gl_judge.specs.declared.outcome.Judged.TheVariants.{Finished, Outlanded, NoStart}
use Rattle.gl_judge.specs.declared.stretch.Stretch.{Stretch}
use Rattle.gl_judge.specs.Crossings.{Crosses}
use Rattle.gl_judge.specs.JudgedFixes.{IsInRange, IsJudgedRange}
use Rattle.gl_judge.specs.Outcome.{IsOutcome, OnFinished}
use Rattle.gl_judge.specs.Finishes.{IsAtFinish, IsFinish, lead_of}
use Rattle.gl_judge.specs.Starts.{IsLegalStart}
use Rattle.gl_judge.proofs.Order.{not_earlier}

-- from p to a number that isn't below it there is nothing outside of both
pub between : (a b : ℕ) (p q : ℤ) → p ≤ℤ q → (p ≤ℤ on_the_way a b p q) × (on_the_way a b p q ≤ℤ q)
between a b p q le =
    elim (cases_lt 0 (a + b)) as (λ _. (p ≤ℤ on_the_way a b p q) × (on_the_way a b p q ≤ℤ q)) [
      | inl some ↦ (let e = on_the_way-rising a b (unsigned_abs (p -ℤ q)) (unsigned_abs (p -ℤ q) * a / (a + b)) p q some le refl refl in
          let s : unsigned_abs (p -ℤ q) * a / (a + b) ≤ unsigned_abs (p -ℤ q) = share_at_most (unsigned_abs (p -ℤ q)) a b in
          (omega (arith, ints), omega (arith, ints)))
      | inr none ↦ (let e : on_the_way a b p q ≡ q = on_the_way-none a b p q (omega arith) in (omega (arith, ints), omega (arith, ints)))
    ]

pub crossed-between : (line : Line) (x y : Fix) (t : ℤ) → x.second ≤ℤ y.second → CrossesForwards line x y t → (x.second ≤ℤ t) × (t ≤ℤ y.second)
crossed-between line x y t le h =
    let w = between (depth_of line x.at) (depth_of line y.at) x.second y.second le in
    (subst (λ (s : ℤ). x.second ≤ℤ s) (sym h.time) w.0, subst (λ (s : ℤ). s ≤ℤ y.second) (sym h.time) w.1)

-- a crossing is not before the fix before it, nor after its own
pub record HasTime (fixes : List Fix) (i : ℕ) (time : ℤ) : Type 0 where
  pub fix : Fix
  pub fix_is : slice_get fixes i ≡ Some fix
  pub not_after : time ≤ℤ fix.second

pub crosses-time : (line : Line) (fixes : List Fix) (judged : Stretch) (i : ℕ) (time : ℤ) → IsTrue (is_rising (map (λ fix. fix.second) fixes)) → (c : Crosses line fixes judged i time)
    → (c.x.second ≤ℤ time) × (time ≤ℤ c.y.second)
crosses-time line fixes judged i time rising c =
    let next : c.before + 1 ≡ i = c.next in
    crossed-between line c.x c.y time (not_earlier fixes c.before i c.x c.y rising (omega arith) c.x_is c.y_is) c.crossed

pub finish-time : (finish : Finish) (fixes : List Fix) (judged : Stretch) (f : ℕ) (time : ℤ) → IsTrue (is_rising (map (λ fix. fix.second) fixes)) → IsAtFinish finish fixes judged f time
    → HasTime fixes f time
finish-time (Ring at radius) fixes judged f time rising h =
    let e : time ≡ h.fix.second = h.time_is in
    record { fix = h.fix; fix_is = h.fix_is; not_after = omega (arith, ints) }
finish-time (Gate line) fixes judged f time rising h =
    record { fix = h.y; fix_is = h.y_is; not_after = (crosses-time line fixes judged f time rising h).1 }

-- a finish is no earlier than the visit that it comes after
finish-not_before : (finish : Finish) (fixes : List Fix) (judged : Stretch) (z f : ℕ) (time : ℤ) (fix : Fix) → IsTrue (is_rising (map (λ fix. fix.second) fixes)) → slice_get fixes z ≡ Some fix
    → z + lead_of finish ≤ f → IsAtFinish finish fixes judged f time → fix.second ≤ℤ time
finish-not_before (Ring at radius) fixes judged z f time fix rising is after h =
    let e : time ≡ h.fix.second = h.time_is in
    let le : fix.second ≤ℤ h.fix.second = not_earlier fixes z f fix h.fix rising (omega arith) is h.fix_is in
    omega (arith, ints)
finish-not_before (Gate line) fixes judged z f time fix rising is after h =
    let next : h.before + 1 ≡ f = h.next in
    let le : fix.second ≤ℤ h.x.second = not_earlier fixes z h.before fix h.x rising (omega arith) is h.x_is in
    let from : h.x.second ≤ℤ time = (crosses-time line fixes judged f time rising h).0 in
    omega (arith, ints)

-- a finish is no earlier than the start before it
pub flown-time : (start : Start) (finish : Finish) (recording : Recording) (judged : Stretch) (b z f : ℕ) (from to : ℤ) → IsTrue (is_rising (map (λ fix. fix.second) recording.fixes)) → b ≤ z
    → IsLegalStart start recording judged b from → IsFinish finish recording.fixes judged z f to → from ≤ℤ to
flown-time start finish recording judged b z f from to rising le s h =
    let after : z + lead_of finish ≤ f = h.after in
    let began : from ≤ℤ s.crossed.y.second = (crosses-time start.line recording.fixes judged b from rising s.crossed).1 in
    let ended : s.crossed.y.second ≤ℤ to = finish-not_before finish recording.fixes judged b f to s.crossed.y rising s.crossed.y_is (omega arith) h.at_finish in
    omega (arith, ints)

-- a finish is judged
pub finish-judged : (finish : Finish) (fixes : List Fix) (judged : Stretch) (f : ℕ) (time : ℤ) → IsAtFinish finish fixes judged f time → IsInRange judged f
finish-judged (Ring at radius) fixes judged f time h = h.is_judged
finish-judged (Gate line) fixes judged f time h = h.behind_judged

seconds-below : (seconds : ℕ) (time start last closes opens : ℤ) → time ≤ℤ last → last ≤ℤ closes → closes ≤ℤ pos 100_000 → opens ≤ℤ start → pos 0 ≤ℤ opens → pos seconds ≡ time -ℤ start
    → seconds ≤ 100_000
seconds-below seconds time start last closes opens upto in_time closed opened of_day flown = omega (arith, ints)

-- no flight takes longer than the day
pub seconds-bound : (task : Task) (volumes : List Volume) (recording : Recording) (judged : Stretch) (outcome : Judged) → IsJudgedRange task.closes volumes recording.fixes judged
    → IsOutcome task recording judged outcome → OnFinished outcome (λ window seconds. seconds ≤ 100_000)
seconds-bound task volumes recording judged (Finished window seconds) range h =
    let at : IsAtFinish task.finish recording.fixes judged window.last h.time = h.finish.finished.at_finish in
    let fix : HasTime recording.fixes window.last h.time = finish-time task.finish recording.fixes judged window.last h.time recording.rising at in
    let upto : h.time ≤ℤ fix.fix.second = fix.not_after in
    let in_time : fix.fix.second ≤ℤ task.closes = (range.each window.last (finish-judged task.finish recording.fixes judged window.last h.time at)).in_time window.last fix.fix
    (omega arith) fix.fix_is in
    let closes : task.closes ≤ℤ pos 100_000 = task.closes_at_most in
    let opened : task.start.opens ≤ℤ window.start = h.start.opened in
    let opens : pos 0 ≤ℤ task.start.opens = task.start.opens_at_least in
    let flown : pos seconds ≡ h.time -ℤ window.start = h.flown in
    seconds-below seconds h.time window.start fix.fix.second task.closes task.start.opens upto in_time closes opened opens flown
seconds-bound task volumes recording judged (Outlanded window zones) range h = tt
seconds-bound task volumes recording judged NoStart range h = tt
