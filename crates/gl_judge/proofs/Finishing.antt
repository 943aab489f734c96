-- What a flight with a complete start comes to.
use Rattle.std.proofs.Common.{◌≡◌, ◌∙◌, sym, subst, ap, ℕ, ◌≤◌, List, take, length, arith, ℤ, pos, ◌-ℤ◌, Option, Some, None}
use Rattle.std.specs.Prelude.{IfSome}
use Rattle.std.proofs.Math.Seq.{take-length}
use Rattle.gl_igc.specs.declared.fix.Fix.{Fix}
use Rattle.gl_igc.specs.declared.recording.Recording.{Recording}
use Rattle.gl_task.specs.declared.task.Task.{Task}
use Rattle.gl_zone.specs.declared.zone.Zone.{Zone}
use Rattle.gl_judge.specs.declared.outcome.Window.{Window}
use Rattle.gl_judge.specs.declared.passing.Passing.{Passing}
use Rattle.gl_judge.specs.declared.stretch.Stretch.{Stretch}
use Rattle.gl_judge.specs.Finishes.{IsFinish}
use Rattle.gl_judge.specs.Greatest.{IsGreatest, IsLeast}
use Rattle.gl_judge.specs.Outcome.{Completes, IsCompleteStart, IsFinished}
use Rattle.gl_judge.specs.Starts.{IsLegalStart, IsStart}
use Rattle.gl_judge.specs.Visits.{CanFinish, Finishes, HasVisit, VisitsFirst}
use Rattle.gl_judge.proofs.Readiness.{can_finish-earlier, finish-earlier}

-- where all zones have a visit, the most that do are all of them
all-visited : (fixes : List Fix) (judged : Stretch) (zones : List Zone) (from count last : ℕ) → IsGreatest (VisitsFirst fixes judged zones from) count → HasVisit fixes judged zones from last
    → take count zones ≡ zones
all-visited fixes judged zones from count last most h =
    let whole : HasVisit fixes judged (take (length zones) zones) from last = subst (λ (some : List Zone). HasVisit fixes judged some from last) (sym (take-length zones)) h in
    let more : length zones ≤ count = most.greatest (length zones) (record { within = omega arith; last = last; visited = whole }) in
    let within : count ≤ length zones = most.is.within in
    let same : count ≡ length zones = omega arith in
    ap (λ (n : ℕ). take n zones) same ∙ take-length zones

least-all : (fixes : List Fix) (judged : Stretch) (zones : List Zone) (from count last some : ℕ) → IsGreatest (VisitsFirst fixes judged zones from) count → HasVisit fixes judged zones from some
    → IsLeast (HasVisit fixes judged (take count zones) from) last
    → IsLeast (HasVisit fixes judged zones from) last
least-all fixes judged zones from count last some most h least =
    subst (λ (list : List Zone). IsLeast (HasVisit fixes judged list from) last) (all-visited fixes judged zones from count some most h) least

-- the least last fix of a visit of all zones
pub all-least : (task : Task) (recording : Recording) (judged : Stretch) (fixes : List Fix) (zones : List Zone) (b count last : ℕ) → fixes ≡ recording.fixes → zones ≡ task.zones
    → IsCompleteStart task recording judged b → IsGreatest (VisitsFirst fixes judged zones b) count
    → IsLeast (HasVisit fixes judged (take count zones) b) last → IsLeast (HasVisit recording.fixes judged task.zones b) last
all-least task recording judged fixes zones b count last fixes_are zones_are complete most least =
    let visited : HasVisit recording.fixes judged task.zones b complete.completed.finishes.last = complete.completed.finishes.visited in
    let here : HasVisit fixes judged zones b complete.completed.finishes.last =
    subst (λ (z : List Zone). HasVisit fixes judged z b complete.completed.finishes.last) (sym zones_are)
    (subst (λ (f : List Fix). HasVisit f judged task.zones b complete.completed.finishes.last) (sym fixes_are) visited) in
    let all : IsLeast (HasVisit fixes judged zones b) last = least-all fixes judged zones b count last complete.completed.finishes.last most here least in
    subst (λ (z : List Zone). IsLeast (HasVisit recording.fixes judged z b) last) zones_are (subst (λ (f : List Fix). IsLeast (HasVisit f judged zones b) last) fixes_are all)

-- the last legal start from which the zones can be finished
pub last-complete : (task : Task) (recording : Recording) (judged : Stretch) (limit : ℕ) (start : Option Passing) → IsGreatest (CanFinish task.finish recording.fixes judged task.zones) limit
    → IfSome start (λ p. IsLegalStart task.start recording judged p.fix p.second)
    → IfSome start (λ p. p.fix ≤ limit) → IfSome start (λ p. (b : ℕ) → IsStart task.start recording judged b → b ≤ limit → b ≤ p.fix)
    → IfSome start (λ p. IsGreatest (IsCompleteStart task recording judged) p.fix)
last-complete task recording judged limit None ready legal within last = tt
last-complete task recording judged limit (Some p) ready legal within last = record {
  is = record {
    start = record { time = p.second; legal = legal };
    completed = can_finish-earlier task.finish recording.fixes judged task.zones limit p.fix within ready.is;
  };
  greatest = λ b (h : IsCompleteStart task recording judged b). last b h.start (ready.greatest b h.completed);
}

-- some finish comes after it
pub has-finish : (task : Task) (recording : Recording) (judged : Stretch) (b last : ℕ) → IsCompleteStart task recording judged b → IsLeast (HasVisit recording.fixes judged task.zones b) last
    → ((f : ℕ) (time : ℤ) → IsFinish task.finish recording.fixes judged last f time → ⊥) → ⊥
has-finish task recording judged b last complete least none =
    let c : CanFinish task.finish recording.fixes judged task.zones b = complete.completed in
    let le : last ≤ c.finishes.last = least.least c.finishes.last c.finishes.visited in
    none c.f c.time (finish-earlier task.finish recording.fixes judged c.finishes.last last c.f c.time le c.finishes.finished)

-- and the first such finish is the first of all that complete the start
pub is-finished : (task : Task) (recording : Recording) (judged : Stretch) (window : Window) (seconds last : ℕ) (time : ℤ) → IsGreatest (IsCompleteStart task recording judged) window.first
    → IsLegalStart task.start recording judged window.first window.start
    → IsLeast (HasVisit recording.fixes judged task.zones window.first) last → IsFinish task.finish recording.fixes judged last window.last time
    → ((f : ℕ) (time : ℤ) → IsFinish task.finish recording.fixes judged last f time → window.last ≤ f) → pos seconds ≡ time -ℤ window.start
    → IsFinished task recording judged window seconds
is-finished task recording judged window seconds last time first start least finish earliest flown =
    let finishes : Finishes task.finish recording.fixes judged task.zones window.first window.last time = record { last = last; visited = least.is; finished = finish } in
    record {
      first = first;
      start = start;
      last = record {
        is = record { time = time; finishes = finishes };
        least = λ f (h : Completes task recording judged window.first f).
            earliest f h.time (finish-earlier task.finish recording.fixes judged h.finishes.last last f h.time (least.least h.finishes.last h.finishes.visited) h.finishes.finished);
      };
      time = time;
      finish = finishes;
      flown = flown;
    }

-- the zones can be finished where all of them are visited and some finish comes after that
pub finishes-all : (task : Task) (recording : Recording) (judged : Stretch) (from count last f : ℕ) (time : ℤ) → count ≡ length task.zones
    → IsLeast (HasVisit recording.fixes judged (take count task.zones) from) last → IsFinish task.finish recording.fixes judged last f time
    → CanFinish task.finish recording.fixes judged task.zones from
finishes-all task recording judged from count last f time all least finish =
    let whole : take count task.zones ≡ task.zones = ap (λ (n : ℕ). take n task.zones) all ∙ take-length task.zones in
    let visited : HasVisit recording.fixes judged task.zones from last = subst (λ (zones : List Zone). HasVisit recording.fixes judged zones from last) whole least.is in
    record { f = f; time = time; finishes = record { last = last; visited = visited; finished = finish } }

-- and only there
pub all-counted : (task : Task) (recording : Recording) (judged : Stretch) (from count : ℕ) → IsGreatest (VisitsFirst recording.fixes judged task.zones from) count
    → CanFinish task.finish recording.fixes judged task.zones from → count ≡ length task.zones
all-counted task recording judged from count most c =
    let whole : HasVisit recording.fixes judged (take (length task.zones) task.zones) from c.finishes.last =
    subst (λ (some : List Zone). HasVisit recording.fixes judged some from c.finishes.last) (sym (take-length task.zones)) c.finishes.visited in
    let more : length task.zones ≤ count = most.greatest (length task.zones) (record { within = omega arith; last = c.finishes.last; visited = whole }) in
    let within : count ≤ length task.zones = most.is.within in
    omega arith

pub finish-after : (task : Task) (recording : Recording) (judged : Stretch) (from count last : ℕ) → IsGreatest (VisitsFirst recording.fixes judged task.zones from) count
    → IsLeast (HasVisit recording.fixes judged (take count task.zones) from) last
    → CanFinish task.finish recording.fixes judged task.zones from → ((f : ℕ) (time : ℤ) → IsFinish task.finish recording.fixes judged last f time → ⊥) → ⊥
finish-after task recording judged from count last most least c none =
    let all : IsLeast (HasVisit recording.fixes judged task.zones from) last = least-all recording.fixes judged task.zones from count last c.finishes.last most c.finishes.visited least in
    let le : last ≤ c.finishes.last = all.least c.finishes.last c.finishes.visited in
    none c.f c.time (finish-earlier task.finish recording.fixes judged c.finishes.last last c.f c.time le c.finishes.finished)

-- where the first start can't be completed, no start can
pub none-complete : (task : Task) (recording : Recording) (judged : Stretch) (first : ℕ) → IsLeast (IsStart task.start recording judged) first
    → (CanFinish task.finish recording.fixes judged task.zones first → ⊥) → (b : ℕ) → IsCompleteStart task recording judged b → ⊥
none-complete task recording judged first least none b h =
    none (can_finish-earlier task.finish recording.fixes judged task.zones b first (least.least b h.start) h.completed)
