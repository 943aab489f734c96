-- Where a window lies.
use Rattle.std.proofs.Common.{sym, subst, refl, ℕ, ◌≤◌, List, Some, Result, Bool, arith}
use Rattle.std.specs.Prelude.{MatchBool}
use Rattle.gl_airspace.specs.declared.volume.Airspace.{Airspace}
use Rattle.gl_igc.specs.declared.error.IgcError.{IgcError}
use Rattle.gl_igc.specs.declared.recording.Recording.{Recording}
use Rattle.gl_igc.specs.Reading.{Reading, recording_of}
use Rattle.gl_judge.specs.declared.outcome.Judged.{Judged}
use Rattle.gl_judge.specs.declared.outcome.Judged.TheVariants.{Finished, Outlanded, NoStart}
use Rattle.gl_judge.specs.Outcome.{IsJudged, OnFinished}
use Rattle.gl_judge.proofs.Routes.{last-after}
use Rattle.gl_judge.proofs.Times.{finish-judged, seconds-bound}
use Rattle.gl_proof.specs.Claim.{Statement}
use Rattle.gl_task.specs.declared.task.Entrant.{Entrant}
use Rattle.gl_task.specs.declared.task.Task.{Task}
use Rattle.gl_day.specs.declared.flight.Flight.{Flight}
use Rattle.gl_day.specs.declared.flight.Seen.TheVariants.{Recorded}
use Rattle.gl_day.specs.Flight.{IsFlight, IsJudgedFlight, IsReadFlight, IsRefusedFlight, IsSeen, StewardRules}
use Rattle.gl_day.specs.Code.Found.{IsWindowOf, OnWindow}

-- the window of a flight lies within its fixes
pub window_in : (task : Task) (air : Airspace) (recording : Recording) (outcome : Judged) → IsJudged task air recording outcome → OnWindow outcome (IsWindowOf recording.fixes)
window_in task air recording (Finished window seconds) is =
    let visited = is.is.finish.visited in
    let rises : window.first ≤ is.is.finish.last = subst (λ (n : ℕ). window.first ≤ n) visited.ends (last-after recording.fixes is.judged task.zones window.first visited.visit visited.is_visit) in
    let after = is.is.finish.finished.after in
    let last = finish-judged task.finish recording.fixes is.judged window.last is.is.time is.is.finish.finished.at_finish in
    let upto = last.1 in
    let all = is.range.within in
    record { ordered = omega (arith, rises, after); within = omega (arith, upto, all) }
window_in task air recording (Outlanded window zones) is =
    let start = is.is.first.is.legal.crossed.behind_judged in
    let before = start.1 in
    let last = is.is.last in
    let all = is.range.within in
    record { ordered = omega (arith, before, last); within = omega (arith, last, all) }
window_in task air recording NoStart is = tt

-- no flight takes longer than the day
pub seconds_in : (task : Task) (air : Airspace) (recording : Recording) (outcome : Judged) → IsJudged task air recording outcome → OnFinished outcome (λ window seconds. seconds ≤ 100_000)
seconds_in task air recording outcome is = seconds-bound task air.volumes recording is.judged outcome is.range is.is

-- the flight of a recording is that of its bytes
pub flight_seen : (task : Task) (air : Airspace) (stewards : List StewardRules) (entrant : Entrant) (recording : Recording) (bytes : List ℕ) (statements : List Statement) (flight : Flight)
    → IsSeen task entrant bytes (Recorded recording) → IsJudgedFlight task air stewards entrant recording statements flight → IsFlight task air stewards entrant (Some bytes) statements flight
flight_seen task air stewards entrant recording bytes statements flight seen judged =
    let read : Result Reading IgcError → Type 0 = λ r. IsReadFlight task air stewards entrant r statements flight in
    let is = subst read (sym seen.1) (recording, refl, judged) in
    subst (λ (b : Bool). MatchBool b (IsRefusedFlight task entrant 7 statements flight) (IsReadFlight task air stewards entrant (recording_of bytes (Some task.date)) statements flight))
    (sym seen.0) is
