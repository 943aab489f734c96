-- The points that rules charge, together.
use Rattle.std.proofs.Common.{◌≡◌, ◌≢◌, ◌∙◌, ap, refl, sym, subst, ℕ, ◌+◌, ◌-◌, ◌<◌, ◌≤◌, min, suc, arith, Bool, List, [], ◌∷◌, ◌++◌, length, take, drop, Some, Ok, Result}
use Rattle.std.specs.Prelude.{MatchBool, slice_range, sum}
use Rattle.std.proofs.lemmas.Grind.{flat_map-append}
use Rattle.std.proofs.lemmas.List.Sums.{sum_by-append}
use Rattle.gl_airspace.specs.declared.volume.Airspace.{Airspace}
use Rattle.gl_day.specs.Flight.{IsFlight, IsJudgedFlight, IsReadFlight, IsRefusedFlight, IsSeen, penalty_of}
use Rattle.gl_day.specs.declared.flight.Flight.{Flight}
use Rattle.gl_day.specs.declared.flight.Seen.TheVariants.{Recorded}
use Rattle.gl_igc.proofs.SameRecording.{recording_same}
use Rattle.gl_igc.specs.Reading.{Reading, recording_of}
use Rattle.gl_igc.specs.Recording.{reading_of}
use Rattle.gl_igc.specs.declared.error.IgcError.{IgcError}
use Rattle.gl_igc.specs.declared.fix.Fix.{Fix}
use Rattle.gl_igc.specs.declared.recording.Recording.{Recording}
use Rattle.gl_judge.proofs.OneOutcome.{one_judged}
use Rattle.gl_judge.specs.Outcome.{IsJudged}
use Rattle.gl_judge.specs.declared.outcome.Judged.{Judged}
use Rattle.gl_judge.specs.declared.outcome.Judged.TheVariants.{Finished, Outlanded, NoStart}
use Rattle.gl_judge.specs.declared.outcome.Window.{Window}
use Rattle.gl_proof.specs.Claim.{Statement}
use Rattle.gl_task.specs.Penalty.{penalty}
use Rattle.gl_task.specs.declared.task.Entrant.{Entrant}
use Rattle.gl_task.specs.declared.task.LocalRules.{LocalRules}
use Rattle.gl_task.specs.declared.task.Task.{Task}
use Rattle.gl_why.specs.Facts.{AreFound}
use Rattle.gl_why.specs.Fines.{AreFinesTold, IsFineTold, all_rules, nothing, owed_in_end, owing, points_in, points_told}
use Rattle.gl_why.specs.Stewards.{the_stewards}
use Rattle.gl_why.specs.declared.fact.Fact.{Fact}
use Rattle.gl_why.specs.declared.fact.Rule as code_rule
use Rattle.gl_why.specs.declared.fact.Rule.TheVariants.{Ceiling, Engine}

-- the penalty of a flight with a recording, by what was judged of it
penalty_read : (task : Task) (air : Airspace) (entrant : Entrant) (rec : Recording) (judged : Judged) (statements : List Statement) (flight : Flight) → IsJudged task air rec judged
    → IsReadFlight task air the_stewards entrant (Ok (reading_of rec)) statements flight → flight.penalty ≡ penalty_of task the_stewards rec.fixes judged
penalty_read task air entrant rec judged statements flight is (other, reads, scored) =
    let there = subst (λ (r : Recording). IsJudgedFlight task air the_stewards entrant r statements flight) (recording_same other rec reads) scored in
    there.penalty_is ∙ ap (penalty_of task the_stewards rec.fixes) (one_judged task air rec there.judged judged there.is is)

pub penalty_known : (task : Task) (air : Airspace) (entrant : Entrant) (rec : Recording) (judged : Judged) (bytes : List ℕ) (statements : List Statement) (flight : Flight) → IsJudged task air rec judged
    → IsSeen task entrant bytes (Recorded rec) → IsFlight task air the_stewards entrant (Some bytes) statements flight → flight.penalty ≡ penalty_of task the_stewards rec.fixes judged
penalty_known task air entrant rec judged bytes statements flight is seen flown =
    let within = subst (λ (b : Bool). MatchBool b (IsRefusedFlight task entrant 7 statements flight) (IsReadFlight task air the_stewards entrant (recording_of bytes (Some task.date)) statements flight))
    seen.0 flown in
    let read = subst (λ (r : Result Reading IgcError). IsReadFlight task air the_stewards entrant r statements flight) seen.1 within in
    penalty_read task air entrant rec judged statements flight is read

-- the points that are told behind others
points_behind : (before more : List Fact) → sum (points_told (before ++ more)) ≡ sum (points_told before) + sum (points_told more)
points_behind before more = ap sum (flat_map-append points_in before more) ∙ sum_by-append (λ (n : ℕ). n) (points_told before) (points_told more)

-- of a rule those that it owes are told
points_of_rule : (rules : LocalRules) (fixes : List Fix) (window : Window) (which : code_rule.Rule) (facts : List Fact) → IsFineTold rules fixes window which facts
    → sum (points_told facts) ≡ owed_in_end rules fixes window which
points_of_rule rules fixes window which facts (nothing zero none) = ap (λ (t : List Fact). sum (points_told t)) none ∙ sym zero
points_of_rule rules fixes window which facts (owing fine owes is told) = ap (λ (t : List Fact). sum (points_told t)) told ∙ omega (arith, is.points_are)

-- of both rules together
points_of_window : (rules : LocalRules) (fixes : List Fix) (window : Window) (facts : List Fact) → AreFound (IsFineTold rules fixes window) all_rules facts
    → penalty (owed_in_end rules fixes window Ceiling ∷ owed_in_end rules fixes window Engine ∷ []) ≡ penalty (points_told facts)
points_of_window rules fixes window facts (first, more, one, (second, rest, other, none, two), both) =
    let a = points_of_rule rules fixes window Ceiling first one in
    let b = points_of_rule rules fixes window Engine second other in
    let c : sum (points_told facts) ≡ sum (points_told first) + sum (points_told more) = ap (λ (t : List Fact). sum (points_told t)) both ∙ points_behind first more in
    let d : sum (points_told more) ≡ sum (points_told second) + sum (points_told rest) = ap (λ (t : List Fact). sum (points_told t)) two ∙ points_behind second rest in
    let e : sum (points_told rest) ≡ 0 = ap (λ (t : List Fact). sum (points_told t)) none in
    let all : 0 + owed_in_end rules fixes window Ceiling + owed_in_end rules fixes window Engine ≡ sum (points_told facts) = omega (arith, a, b, c, d, e) in
    ap (λ (n : ℕ). min 1_000 n) all

-- the penalty of a flight that was judged is that of the points that are told
pub points_charged : (task : Task) (fixes : List Fix) (judged : Judged) (facts : List Fact) → AreFinesTold task.rules fixes judged facts
    → penalty_of task the_stewards fixes judged ≡ penalty (points_told facts)
points_charged task fixes (Finished window seconds) facts told = points_of_window task.rules fixes window facts told
points_charged task fixes (Outlanded window zones) facts told = points_of_window task.rules fixes window facts told
points_charged task fixes NoStart facts none = sym (ap (λ (t : List Fact). penalty (points_told t)) none)
