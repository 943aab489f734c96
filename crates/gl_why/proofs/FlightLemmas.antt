-- What is told of the course of a flight, part by part.
use Rattle.std.proofs.Common.{◌≡◌, ◌∙◌, ap, append_assoc, refl, subst, ℕ, ◌+◌, List, [], ◌∷◌, ◌++◌, take, pos, ◌+ℤ◌}
use Rattle.gl_igc.specs.declared.fix.Fix.{Fix}
use Rattle.gl_igc.specs.declared.recording.Recording.{Recording}
use Rattle.gl_airspace.specs.declared.volume.Airspace.{Airspace}
use Rattle.gl_judge.proofs.Existence.{some_outcome}
use Rattle.gl_judge.proofs.OneOutcome.{one_judged}
use Rattle.gl_judge.specs.JudgedFixes.{IsJudgedRange}
use Rattle.gl_judge.specs.Outcome.{IsJudged, IsOutcome}
use Rattle.gl_judge.specs.declared.outcome.Judged.{Judged}
use Rattle.gl_judge.specs.Greatest.{IsGreatest, IsLeast}
use Rattle.gl_judge.specs.Visits.{HasVisit, VisitsFirst}
use Rattle.gl_judge.specs.declared.outcome.Window.{Window}
use Rattle.gl_judge.specs.declared.stretch.Stretch.{Stretch}
use Rattle.gl_task.specs.declared.task.Task.{Task}
use Rattle.gl_zone.specs.declared.zone.Zone.{Zone}
use Rattle.gl_why.specs.Facts.{AddsFacts}
use Rattle.gl_why.specs.Flights.{AreFinishedTold, AreOutlandedTold, AreWindowTold, IsPassing}
use Rattle.gl_why.specs.Visits.{AreVisitsTold, IsMissTold}
use Rattle.gl_why.specs.declared.fact.Fact.{Fact}
use Rattle.gl_why.specs.declared.fact.Fact.TheVariants.{Finished, Started}
use Rattle.gl_why.specs.declared.fact.Passing.{Passing}

-- the start of a window, and the visits from it on
pub window_told : (task : Task) (rec : Recording) (judged : Stretch) (window : Window) (start : Passing) (zones : List Zone) (fixes : List Fix) (count last : ℕ) (before mid now : List Fact)
    → IsPassing rec window.first window.start start → zones ≡ task.zones → fixes ≡ rec.fixes → IsGreatest (VisitsFirst fixes judged zones window.first) count
    → IsLeast (HasVisit fixes judged (take count zones) window.first) last → mid ≡ before ++ Started start ∷ [] → AddsFacts (AreVisitsTold fixes judged zones window.first count) mid now
    → AddsFacts (AreWindowTold task rec judged window count last) before now
window_told task rec judged window start zones fixes count last before mid now start_is zones_is fixes_is most least pushed told = (
  Started start ∷ told.0,
  record {
    start = start;
    start_is = start_is;
    most = subst (λ (fs : List Fix). IsGreatest (VisitsFirst fs judged task.zones window.first) count) fixes_is
        (subst (λ (zs : List Zone). IsGreatest (VisitsFirst fixes judged zs window.first) count) zones_is most);
    ends = subst (λ (fs : List Fix). IsLeast (HasVisit fs judged (take count task.zones) window.first) last) fixes_is
        (subst (λ (zs : List Zone). IsLeast (HasVisit fixes judged (take count zs) window.first) last) zones_is least);
    visits = told.0;
    visits_are = subst (λ (fs : List Fix). AreVisitsTold fs judged task.zones window.first count told.0) fixes_is
        (subst (λ (zs : List Zone). AreVisitsTold fixes judged zs window.first count told.0) zones_is told.1);
    told = refl;
  },
  told.2 ∙ ap (λ (t : List Fact). t ++ told.0) pushed ∙ append_assoc before (Started start ∷ []) told.0,
)

-- the window of one who finished, and the finish
pub finished_told : (task : Task) (rec : Recording) (judged : Stretch) (window : Window) (seconds count last : ℕ) (finish : Passing) (before mid now : List Fact)
    → AddsFacts (AreWindowTold task rec judged window count last) before mid → IsPassing rec window.last (window.start +ℤ pos seconds) finish → now ≡ mid ++ Finished finish ∷ []
    → AddsFacts (AreFinishedTold task rec judged window seconds) before now
finished_told task rec judged window seconds count last finish before mid now told finish_is pushed = (
  told.0 ++ Finished finish ∷ [],
  record { count = count; last = last; before = told.0; before_are = told.1; finish = finish; finish_is = finish_is; told = refl },
  pushed ∙ ap (λ (t : List Fact). t ++ Finished finish ∷ []) told.2 ∙ append_assoc before told.0 (Finished finish ∷ []),
)

-- the window of an outlanding, and the point that isn't reached
pub outlanded_told : (task : Task) (rec : Recording) (judged : Stretch) (window : Window) (count last : ℕ) (before mid now : List Fact) → AddsFacts (AreWindowTold task rec judged window count last) before mid
    → AddsFacts (IsMissTold task rec.fixes judged last (count + 1)) mid now → AddsFacts (AreOutlandedTold task rec judged window) before now
outlanded_told task rec judged window count last before mid now told miss = (
  told.0 ++ miss.0,
  record { count = count; last = last; before = told.0; before_are = told.1; miss = miss.0; miss_is = miss.1; told = refl },
  miss.2 ∙ ap (λ (t : List Fact). t ++ miss.0) told.2 ∙ append_assoc before told.0 miss.0,
)

-- the outcome of a flight is that by its judged fixes, whichever they are found as
pub outcome_on : (task : Task) (air : Airspace) (rec : Recording) (judged : Stretch) (outcome : Judged) → IsJudgedRange task.closes air.volumes rec.fixes judged → IsJudged task air rec outcome
    → IsOutcome task rec judged outcome
outcome_on task air rec judged outcome range is =
    let some = some_outcome task rec judged in
    subst (λ (o : Judged). IsOutcome task rec judged o) (one_judged task air rec some.0 outcome (record { judged = judged; range = range; is = some.1 }) is) some.1
