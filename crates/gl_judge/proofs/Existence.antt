-- Every recording has an outcome, and a list of the claims that are expected of it.
use Rattle.std.proofs.Common.{◌≡◌, refl, ℕ, suc, ◌+◌, ◌-◌, max, inl, inr, List, [], ◌∷◌, ◌++◌, length, take, ℤ, pos, negsuc, ◌-ℤ◌, ◌≤ℤ◌, arith}
use Rattle.std.specs.Prelude.{int_le, int_lt, slice_range}
use Rattle.std.proofs.lemmas.Int.{ints}
use Rattle.gl_airspace.specs.declared.volume.Airspace.{Airspace}
use Rattle.gl_igc.specs.declared.fix.Fix.{Fix}
use Rattle.gl_igc.specs.declared.recording.Recording.{Recording}
use Rattle.gl_proof.specs.declared.claim.ClaimKind.TheVariants as kind
use Rattle.gl_task.specs.declared.day_type.Kind.{Kind}
use Rattle.gl_task.specs.declared.day_type.Kind.TheVariants.{Racing, Area}
use Rattle.gl_task.specs.declared.task.Task.{Task}
use Rattle.gl_judge.specs.declared.outcome.Judged.{Judged}
use Rattle.gl_judge.specs.declared.outcome.Judged.TheVariants.{Finished, Outlanded, NoStart}
use Rattle.gl_judge.specs.declared.outcome.Window.{Window}
use Rattle.gl_judge.specs.declared.stretch.Stretch.{Stretch}
use Rattle.gl_judge.specs.Choices.{area_choice, areas_choice, racing_choice}
use Rattle.gl_judge.specs.Claims.{AreChoices, AreExpected, list_claims}
use Rattle.gl_judge.specs.Greatest.{IsGreatest, IsLeast}
use Rattle.gl_judge.specs.JudgedFixes.{IsJudgedRange, is_in_airspace}
use Rattle.gl_judge.specs.Outcome.{Completes, IsCompleteStart, IsFinished, IsJudged, IsOutcome, IsOutlanded}
use Rattle.gl_judge.specs.Starts.{IsStart}
use Rattle.gl_judge.specs.Visits.{HasVisit, VisitsFirst}
use Rattle.gl_judge.proofs.Decided.{greatest_of, least_below}
use Rattle.gl_judge.proofs.Decisions.{decided-complete_start, decided-completes, decided-first, decided-start, decided-visit}
use Rattle.gl_judge.proofs.Fronts.{front}
use Rattle.gl_judge.proofs.Ranges.{range-is}
use Rattle.gl_judge.proofs.Routes.{visited-after, visited-none}
use Rattle.gl_judge.proofs.Times.{flown-time}
use Rattle.gl_judge.specs.Claimed.{FlightClaim}

-- some range has the judged fixes of a recording
pub some_range : (task : Task) (air : Airspace) (recording : Recording) → (judged : Stretch) × IsJudgedRange task.closes air.volumes recording.fixes judged
some_range task air recording =
    let fixes = recording.fixes in
    let from = front (λ (fix : Fix). int_le (pos 0) fix.second) fixes in
    let end = front (λ (fix : Fix). int_lt task.closes fix.second) fixes in
    let to = from + front (is_in_airspace air.volumes) (slice_range fixes from (max end from)) in
    let first : pos 1 ≤ℤ task.closes = task.closes_at_least in
    (record { from = from; to = to }, range-is task.closes air.volumes fixes from end to recording.rising (omega (arith, ints)) refl refl refl)

natural : (z : ℤ) → pos 0 ≤ℤ z → (n : ℕ) × (pos n ≡ z)
natural (pos n) le = (n, refl)
natural (negsuc n) le = absurd (omega (arith, ints))

flown : (start finish : ℤ) → start ≤ℤ finish → (seconds : ℕ) × (pos seconds ≡ finish -ℤ start)
flown start finish le = natural (finish -ℤ start) (omega (arith, ints))

-- the first finish that completes a start
first-finish : (task : Task) (recording : Recording) (judged : Stretch) (b : ℕ) → IsCompleteStart task recording judged b → (f : ℕ) × IsLeast (Completes task recording judged b) f
first-finish task recording judged b complete =
    let c = complete.completed in
    elim (least_below (Completes task recording judged b) (suc c.f) (λ f below. decided-completes task recording judged b f)) as (λ _. (f : ℕ) × IsLeast (Completes task recording judged b) f) [
      | inl at ↦ (at.0, at.2)
      | inr none ↦ absurd (none c.f (omega arith) (record { time = c.time; finishes = c.finishes }))
    ]

finished : (task : Task) (recording : Recording) (judged : Stretch) (b : ℕ) → IsGreatest (IsCompleteStart task recording judged) b → (outcome : Judged) × IsOutcome task recording judged outcome
finished task recording judged b greatest =
    let start = greatest.is.start in
    let last = first-finish task recording judged b greatest.is in
    let end = last.1.is in
    let order : start.time ≤ℤ end.time = flown-time task.start task.finish recording judged b end.finishes.last last.0 start.time end.time recording.rising
    (visited-after recording.fixes judged task.zones b end.finishes.last end.finishes.visited) start.legal end.finishes.finished in
    let seconds = flown start.time end.time order in
    let window : Window = record { first = b; last = last.0; start = start.time } in
    let is : IsFinished task recording judged window seconds.0 = record {
      first = greatest;
      start = start.legal;
      last = last.1;
      time = end.time;
      finish = end.finishes;
      flown = seconds.1;
    } in
    (Finished window seconds.0, is)

-- the most zones that are visited
most-visited : (task : Task) (recording : Recording) (judged : Stretch) (from : ℕ) → (count : ℕ) × IsGreatest (VisitsFirst recording.fixes judged task.zones from) count
most-visited task recording judged from =
    elim (greatest_of (VisitsFirst recording.fixes judged task.zones from) (suc (length task.zones)) (λ count below. decided-first recording.fixes judged task.zones from count)
    (λ count h. omega (arith, h.within))) as (λ _. (count : ℕ) × IsGreatest (VisitsFirst recording.fixes judged task.zones from) count) [
      | inl at ↦ at
      | inr none ↦ absurd (none 0 (record { within = omega arith; last = from; visited = visited-none recording.fixes judged from }))
    ]

outlanded : (task : Task) (recording : Recording) (judged : Stretch) (b : ℕ) → ((b : ℕ) → IsCompleteStart task recording judged b → ⊥) → IsLeast (IsStart task.start recording judged) b
    → (outcome : Judged) × IsOutcome task recording judged outcome
outlanded task recording judged b incomplete least =
    let start = least.is in
    let count = most-visited task recording judged b in
    let window : Window = record { first = b; last = judged.to - 1; start = start.time } in
    let is : IsOutlanded task recording judged window count.0 = record {
      incomplete = incomplete;
      first = least;
      start = start.legal;
      last = omega (arith, start.legal.crossed.behind_judged.1);
      visited = count.1;
    } in
    (Outlanded window count.0, is)

-- a flight with these judged fixes has an outcome
pub some_outcome : (task : Task) (recording : Recording) (judged : Stretch) → (outcome : Judged) × IsOutcome task recording judged outcome
some_outcome task recording judged =
    elim (greatest_of (IsCompleteStart task recording judged) judged.to (λ b below. decided-complete_start task recording judged b) (λ b h. h.start.legal.crossed.behind_judged.1))
    as (λ _. (outcome : Judged) × IsOutcome task recording judged outcome) [
      | inl at ↦ finished task recording judged at.0 at.1
      | inr incomplete ↦ (elim (least_below (IsStart task.start recording judged) judged.to (λ b below. decided-start task.start recording judged b)) as (λ _. (outcome : Judged)
          × IsOutcome task recording judged outcome) [
            | inl at ↦ outlanded task recording judged at.0 incomplete at.2
            | inr none ↦ (NoStart, λ b s. none b s.legal.crossed.behind_judged.1 s)
          ])
    ]

-- every recording is judged in some way
pub some_judged : (task : Task) (air : Airspace) (recording : Recording) → (judged : Judged) × IsJudged task air recording judged
some_judged task air recording =
    let range = some_range task air recording in
    let outcome = some_outcome task recording range.0 in
    (outcome.0, record { judged = range.0; range = range.1; is = outcome.1 })

-- the least fix with which a visit of the zones that an outlanding visited can end
first-end : (task : Task) (recording : Recording) (judged : Stretch) (window : Window) (count : ℕ) → IsOutlanded task recording judged window count
    → (last : ℕ) × IsLeast (HasVisit recording.fixes judged (take count task.zones) window.first) last
first-end task recording judged window count is =
    let visit = is.visited.is in
    let zones = take count task.zones in
    elim (least_below (HasVisit recording.fixes judged zones window.first) (suc visit.last) (λ last below. decided-visit recording.fixes judged zones window.first last)) as (λ _. (last : ℕ)
    × IsLeast (HasVisit recording.fixes judged zones window.first) last) [
      | inl at ↦ (at.0, at.2)
      | inr none ↦ absurd (none visit.last (omega arith) visit.visited)
    ]

-- an outcome has its claims for the distance
pub some_choices : (contest : Kind) (task : Task) (recording : Recording) (judged : Stretch) (outcome : Judged) → IsOutcome task recording judged outcome
    → (claims : List FlightClaim) × AreChoices contest task recording.fixes judged outcome claims
some_choices Racing task recording judged (Finished window seconds) is = ([], refl)
some_choices (Area minimum) task recording judged (Finished window seconds) is = ((record { kind = kind.Area; rule = area_choice task recording.fixes window }) ∷ [], refl)
some_choices Racing task recording judged (Outlanded window zones) is =
    let from = first-end task recording judged window zones is in
    let rule = racing_choice task recording.fixes window zones from.0 in
    ((record { kind = kind.Out; rule = rule }) ∷ [], (rule, (from.0, from.1, refl), refl))
some_choices (Area minimum) task recording judged (Outlanded window zones) is =
    let rule = areas_choice task recording.fixes window zones in
    ((record { kind = kind.Out; rule = rule }) ∷ [], (rule, refl, refl))
some_choices Racing task recording judged NoStart is = ([], refl)
some_choices (Area minimum) task recording judged NoStart is = ([], refl)

-- of every recording some claims are expected
pub some_expected : (task : Task) (air : Airspace) (recording : Recording) → (claims : List FlightClaim) × AreExpected task air recording claims
some_expected task air recording =
    let range = some_range task air recording in
    let judged = range.0 in
    let outcome = some_outcome task recording judged in
    let choices = some_choices task.kind task recording judged outcome.0 outcome.1 in (
      choices.0 ++ list_claims task recording.fixes judged,
      record {
        judged = judged;
        range = range.1;
        outcome = outcome.0;
        is = outcome.1;
        choices = choices.0;
        are = choices.1;
        all = refl;
      },
    )
