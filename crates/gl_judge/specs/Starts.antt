-- Which starts are legal.
use Rattle.std.specs.Prelude.{◌≡◌, ℕ, ◌<◌, List, slice_get, Bool, ◌&&◌, IsTrue, Option, None, Some, ℤ, int_le, ◌+ℤ◌, ◌≤ℤ◌}
use Rattle.gl_igc.specs.declared.recording.Recording.{Recording}
use Rattle.gl_task.specs.declared.task.PilotStart.{PilotStart}
use Rattle.gl_task.specs.declared.task.Start.{Start}
use Rattle.gl_judge.specs.declared.stretch.Stretch.{Stretch}
use Rattle.gl_judge.specs.Crossings.{Crosses}

-- A time is in the window that an event opens: the window begins with the wait after the event, and
-- ends with the width after that, both ends included.
abbrev pub is_in_window : PilotStart → ℤ → ℤ → Bool
is_in_window pilot time event =
    int_le (event +ℤ pilot.wait) time && int_le time ((event +ℤ pilot.wait) +ℤ pilot.width)

-- a time is in the window of one of the first three events, in the order of the file
pub record HasEvent (pilot : PilotStart) (events : List ℤ) (time : ℤ) : Type 0 where
  pub number : ℕ
  pub counts : number < 3
  pub event : ℤ
  pub event_is : slice_get events number ≡ Some event
  pub in_window : IsTrue (is_in_window pilot time event)

-- A start at a time is announced, where the task asks for it. A task without a wait doesn't.
abbrev pub IsAnnounced : Option PilotStart → List ℤ → ℤ → Type 0
IsAnnounced None events time = Unit {0}
IsAnnounced (Some pilot) events time = HasEvent pilot events time

-- The fix of this number is a legal start at a time: the start line is crossed there from the fix
-- before it, from the second that opens the start up to the one that closes it, and the start is
-- announced.
pub record IsLegalStart (start : Start) (recording : Recording) (judged : Stretch) (b : ℕ)
    (time : ℤ) : Type 0 where
  pub crossed : Crosses start.line recording.fixes judged b time
  pub opened : start.opens ≤ℤ time
  pub not_closed : time ≤ℤ start.close
  pub announced : IsAnnounced start.pilot recording.events time

-- the fix of this number is a legal start
pub record IsStart (start : Start) (recording : Recording) (judged : Stretch) (b : ℕ) : Type 0 where
  pub time : ℤ
  pub legal : IsLegalStart start recording judged b time
