-- How a flight is judged.
use Rattle.std.specs.Prelude.{◌≡◌, ℕ, ◌+◌, ℤ, pos, ◌-ℤ◌}
use Rattle.gl_airspace.specs.declared.volume.Airspace.{Airspace}
use Rattle.gl_igc.specs.declared.recording.Recording.{Recording}
use Rattle.gl_task.specs.declared.task.Task.{Task}
use Rattle.gl_judge.specs.declared.outcome.Judged.{Judged}
use Rattle.gl_judge.specs.declared.outcome.Judged.TheVariants.{Finished, Outlanded, NoStart}
use Rattle.gl_judge.specs.declared.outcome.Window.{Window}
use Rattle.gl_judge.specs.declared.stretch.Stretch.{Stretch}
use Rattle.gl_judge.specs.Greatest.{IsGreatest, IsLeast}
use Rattle.gl_judge.specs.JudgedFixes.{IsJudgedRange}
use Rattle.gl_judge.specs.Starts.{IsLegalStart, IsStart}
use Rattle.gl_judge.specs.Visits.{CanFinish, Finishes, VisitsFirst}

-- a legal start from which all zones have a visit with a finish after it
pub record IsCompleteStart (task : Task) (recording : Recording) (judged : Stretch) (b : ℕ)
    : Type 0 where
  pub start : IsStart task.start recording judged b
  pub completed : CanFinish task.finish recording.fixes judged task.zones b

-- a finish after a visit of all zones from the fix b on
pub record Completes (task : Task) (recording : Recording) (judged : Stretch) (b f : ℕ)
    : Type 0 where
  pub time : ℤ
  pub finishes : Finishes task.finish recording.fixes judged task.zones b f time

-- A flight finished: its window is from the greatest complete start to the least finish that
-- completes it, and so many seconds lie between the times of the two.
pub record IsFinished (task : Task) (recording : Recording) (judged : Stretch) (window : Window)
    (seconds : ℕ) : Type 0 where
  pub first : IsGreatest (IsCompleteStart task recording judged) window.first
  pub start : IsLegalStart task.start recording judged window.first window.start
  pub last : IsLeast (Completes task recording judged window.first) window.last
  pub time : ℤ
  pub finish : Finishes task.finish recording.fixes judged task.zones window.first window.last time
  pub flown : pos seconds ≡ time -ℤ window.start

-- A flight landed out: no start is complete, and its window is from the least legal start to the
-- last judged fix; so many zones, and no more, have a visit from that start on.
pub record IsOutlanded (task : Task) (recording : Recording) (judged : Stretch) (window : Window)
    (count : ℕ) : Type 0 where
  pub incomplete : (b : ℕ) → IsCompleteStart task recording judged b → ⊥
  pub first : IsLeast (IsStart task.start recording judged) window.first
  pub start : IsLegalStart task.start recording judged window.first window.start
  pub last : window.last + 1 ≡ judged.to
  pub visited : IsGreatest (VisitsFirst recording.fixes judged task.zones window.first) count

-- the outcome of a flight with these judged fixes
abbrev pub IsOutcome : Task → Recording → Stretch → Judged → Type 0
IsOutcome task recording judged (Finished window seconds) =
    IsFinished task recording judged window seconds
IsOutcome task recording judged (Outlanded window zones) =
    IsOutlanded task recording judged window zones
IsOutcome task recording judged NoStart = (b : ℕ) → IsStart task.start recording judged b → ⊥

-- how a flight is judged that may not enter some airspace
pub record IsJudged (task : Task) (air : Airspace) (recording : Recording) (outcome : Judged)
    : Type 0 where
  pub judged : Stretch
  pub range : IsJudgedRange task.closes air.volumes recording.fixes judged
  pub is : IsOutcome task recording judged outcome

-- a fact of the window and the seconds of a flight that finished
abbrev pub OnFinished : Judged → (Window → ℕ → Type 0) → Type 0
OnFinished (Finished window seconds) fact = fact window seconds
OnFinished (Outlanded window zones) fact = Unit {0}
OnFinished NoStart fact = Unit {0}
