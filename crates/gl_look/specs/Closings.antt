-- When a flight that had been to all zones comes within the finish after the task closed.
use Rattle.std.specs.Prelude.{◌≡◌, ℕ, ◌<◌, ◌≤◌, IsTrue, List, [], length, Option, None, Some, ℤ, pos, ◌+ℤ◌, int_le}
use Rattle.gl_igc.specs.declared.fix.Fix.{Fix}
use Rattle.gl_igc.specs.declared.recording.Recording.{Recording}
use Rattle.gl_judge.specs.Finishes.{IsAtFinish}
use Rattle.gl_judge.specs.JudgedFixes.{IsJudgedRange}
use Rattle.gl_judge.specs.Outcome.{IsOutcome}
use Rattle.gl_judge.specs.declared.outcome.Judged.{Judged}
use Rattle.gl_judge.specs.declared.outcome.Judged.TheVariants as outcome
use Rattle.gl_judge.specs.declared.outcome.Window.{Window}
use Rattle.gl_judge.specs.declared.stretch.Stretch.{Stretch}
use Rattle.gl_task.specs.declared.task.Task.{Task}

-- how a flight is judged by its task, whatever the airspace
pub record IsJudgedByTask (task : Task) (recording : Recording) (outcome : Judged)
    : Type 0 where
  pub judged : Stretch
  pub range : IsJudgedRange task.closes [] recording.fixes judged
  pub is : IsOutcome task recording judged outcome

-- so a flight landed out that had been to all zones, and its last fix that counts has this number
pub record IsOutAfterZones (task : Task) (recording : Recording) (last : ℕ) : Type 0 where
  pub window : Window
  pub is : IsJudgedByTask task recording (outcome.Outlanded window (length task.zones))
  pub last_is : window.last ≡ last

-- all fixes of a recording
abbrev pub whole : List Fix → Stretch
whole fixes = record { from = 0; to = length fixes }

-- with the fix of a number, which is behind another one, a flight comes within the finish at a time
-- that is at most an hour after the task closes
pub record IsLateFinish (task : Task) (fixes : List Fix) (last f : ℕ) (time : ℤ) : Type 0 where
  pub behind : last < f
  pub at_finish : IsAtFinish task.finish fixes (whole fixes) f time
  pub soon : IsTrue (int_le time (task.closes +ℤ pos 3_600))

-- the time of the first of these
pub record IsFirstLate (task : Task) (fixes : List Fix) (last : ℕ) (time : ℤ) : Type 0 where
  pub f : ℕ
  pub is : IsLateFinish task fixes last f time
  pub first : (g : ℕ) (other : ℤ) → IsLateFinish task fixes last g other → f ≤ g

-- when a flight that landed out after all zones comes within the finish too late, or it doesn't
abbrev pub IsLate : Task → Recording → Option ℤ → Type 0
IsLate task recording (Some time) =
    (last : ℕ) × IsOutAfterZones task recording last × IsFirstLate task recording.fixes last time
IsLate task recording None =
    (last f : ℕ) (time : ℤ) → IsOutAfterZones task recording last
    → IsLateFinish task recording.fixes last f time → ⊥
