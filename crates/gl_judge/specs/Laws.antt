-- What judging is like, beside its rules.
use Rattle.std.specs.Prelude.{◌≡◌}
use Rattle.gl_airspace.specs.declared.volume.Airspace.{Airspace}
use Rattle.gl_igc.specs.declared.recording.Recording.{Recording}
use Rattle.gl_task.specs.declared.task.Task.{Task}
use Rattle.gl_judge.specs.declared.outcome.Judged.{Judged}
use Rattle.gl_judge.specs.Outcome.{IsJudged}

-- Every flight has an outcome.
abbrev pub HasSomeOutcome : Type 0
HasSomeOutcome =
    (task : Task) (air : Airspace) (recording : Recording)
    → (outcome : Judged) × IsJudged task air recording outcome

-- A flight has one outcome: two ways in which it is judged are one.
abbrev pub HasOneOutcome : Type 0
HasOneOutcome =
    (task : Task) (air : Airspace) (recording : Recording) (one other : Judged)
    → IsJudged task air recording one → IsJudged task air recording other → one ≡ other
