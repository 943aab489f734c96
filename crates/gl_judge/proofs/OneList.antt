-- What is expected of a flight is one list of claims.
use Rattle.std.proofs.Common.{◌≡◌, ◌∙◌, sym, ap, subst, refl, ℕ, ◌-◌, ◌<◌, ◌≤◌, List, [], ◌∷◌, ◌++◌, take, arith, rules, Bool, true, inl, inr}
use Rattle.std.specs.Prelude.{nat_lt, false, IsTrue, ◌&&◌, if◌then◌else◌}
use Rattle.std.proofs.lemmas.Bool.{cases_lt}
use Rattle.gl_airspace.specs.declared.volume.Airspace.{Airspace}
use Rattle.gl_igc.specs.declared.fix.Fix.{Fix}
use Rattle.gl_igc.specs.declared.recording.Recording.{Recording}
use Rattle.gl_goal.specs.Goal.{Goal}
use Rattle.gl_judge.specs.declared.outcome.Judged.{Judged}
use Rattle.gl_judge.specs.declared.outcome.Judged.TheVariants.{Finished, Outlanded, NoStart}
use Rattle.gl_judge.specs.declared.outcome.Window.{Window}
use Rattle.gl_judge.specs.declared.stretch.Stretch.{Stretch}
use Rattle.gl_judge.specs.Choices.{IsOutChoice, area_choice, areas_choice, racing_choice}
use Rattle.gl_judge.specs.Claims.{AreChoices, AreExpected, list_claims}
use Rattle.gl_judge.specs.Greatest.{IsGreatest, IsLeast}
use Rattle.gl_judge.specs.JudgedFixes.{IsJudgedRange}
use Rattle.gl_judge.specs.Marking.{is_chosen}
use Rattle.gl_judge.specs.Outcome.{Completes, IsCompleteStart, IsOutcome, IsFinished, IsOutlanded}
use Rattle.gl_judge.specs.Starts.{IsStart}
use Rattle.gl_judge.specs.Visits.{HasVisit, VisitsFirst}
use Rattle.gl_proof.specs.declared.claim.ClaimKind.{ClaimKind}
use Rattle.gl_proof.specs.declared.claim.ClaimKind.TheVariants as kind
use Rattle.gl_task.specs.declared.day_type.Kind.{Kind}
use Rattle.gl_task.specs.declared.day_type.Kind.TheVariants.{Racing, Area}
use Rattle.gl_task.specs.declared.task.Task.{Task}
use Rattle.gl_judge.specs.Claimed.{FlightClaim}

pub greatest_alone : (P : ℕ → Type 0) (a b : ℕ) → IsGreatest P a → IsGreatest P b → a ≡ b
greatest_alone P a b one other =
    let under = one.greatest b other.is in
    let over = other.greatest a one.is in
    omega (arith, under, over)

pub least_alone : (P : ℕ → Type 0) (a b : ℕ) → IsLeast P a → IsLeast P b → a ≡ b
least_alone P a b one other =
    let over = one.least b other.is in
    let under = other.least a one.is in
    omega (arith, under, over)

same_stretch : (one other : Stretch) → one.from ≡ other.from → one.to ≡ other.to → one ≡ other
same_stretch one other from to = λ i. record { from = from i; to = to i }

-- the judged range is one, or empty
pub range_alone : (task : Task) (air : Airspace) (fixes : List Fix) (one other : Stretch) → IsJudgedRange task.closes air.volumes fixes one → IsJudgedRange task.closes air.volumes fixes other
    → one.from < one.to → one ≡ other
range_alone task air fixes one other is also some =
    let first = also.all one.from (is.each one.from (omega arith, some)) in
    let low = first.0 in
    let inside = first.1 in
    let start = is.all other.from (also.each other.from (omega arith, omega (arith, low, inside))) in
    let high = start.0 in
    let last = also.all (one.to - 1) (is.each (one.to - 1) (omega (arith, some), omega (arith, some))) in
    let most = last.1 in
    let end = is.all (other.to - 1) (also.each (other.to - 1) (omega (arith, low, inside), omega (arith, low, inside))) in
    let least = end.1 in
    same_stretch one other (omega (arith, low, high)) (omega (arith, some, most, least, low, inside))

-- where no fix is judged there is no start
no_start : (task : Task) (recording : Recording) (judged : Stretch) (b : ℕ) → judged.to ≤ judged.from → IsStart task.start recording judged b → ⊥
no_start task recording judged b none start =
    let inside = start.legal.crossed.behind_judged in
    let low = inside.0 in
    let high = inside.1 in
    omega (arith, none, low, high)

start_inside : (task : Task) (recording : Recording) (judged : Stretch) (b : ℕ) → IsStart task.start recording judged b → judged.from < judged.to
start_inside task recording judged b start =
    let inside = start.legal.crossed.behind_judged in
    let low = inside.0 in
    let high = inside.1 in
    omega (arith, low, high)

-- a flight whose distance is chosen has a judged fix
pub some_judged : (task : Task) (recording : Recording) (judged : Stretch) (outcome : Judged) (contest : Kind) → IsOutcome task recording judged outcome → IsTrue (is_chosen contest outcome)
    → judged.from < judged.to
some_judged task recording judged (Finished window seconds) contest is chosen = start_inside task recording judged window.first is.first.is.start
some_judged task recording judged (Outlanded window zones) contest is chosen = start_inside task recording judged window.first is.first.is
some_judged task recording judged NoStart Racing is chosen = absurd (cc)
some_judged task recording judged NoStart (Area minimum) is chosen = absurd (cc)

none_chosen : (contest : Kind) (task : Task) (recording : Recording) (judged : Stretch) (outcome : Judged) (choices : List FlightClaim) → judged.to ≤ judged.from
    → IsOutcome task recording judged outcome → AreChoices contest task recording.fixes judged outcome choices → choices ≡ []
none_chosen contest task recording judged (Finished window seconds) choices none is are = absurd (no_start task recording judged window.first none is.first.is.start)
none_chosen contest task recording judged (Outlanded window zones) choices none is are = absurd (no_start task recording judged window.first none is.first.is)
none_chosen Racing task recording judged NoStart choices none is are = are
none_chosen (Area minimum) task recording judged NoStart choices none is are = are

not_below : (a b : ℕ) → b ≤ a → nat_lt a b ≡ false
not_below a b none = search rules

not_listed : (asked some : Bool) (list : List FlightClaim) → some ≡ false → (if asked && some then list else []) ≡ []
not_listed false some list none = refl
not_listed true false list none = refl
not_listed true true list none = absurd (cc)

none_listed : (task : Task) (fixes : List Fix) (judged : Stretch) → judged.to ≤ judged.from → list_claims task fixes judged ≡ []
none_listed task fixes judged none =
    let past = not_below judged.from judged.to none in
    let free = not_listed task.free (nat_lt judged.from judged.to) _ past in
    let triangle = not_listed task.triangle (nat_lt judged.from judged.to) _ past in
    λ i. free i ++ triangle i

same_first : (task : Task) (recording : Recording) (judged : Stretch) (w v : Window) (s t : ℕ) → IsFinished task recording judged w s → IsFinished task recording judged v t → w.first ≡ v.first
same_first task recording judged w v s t is also = greatest_alone (IsCompleteStart task recording judged) w.first v.first is.first also.first

same_last : (task : Task) (recording : Recording) (judged : Stretch) (w v : Window) (s t : ℕ) → IsFinished task recording judged w s → IsFinished task recording judged v t → w.last ≡ v.last
same_last task recording judged w v s t is also =
    least_alone (Completes task recording judged v.first) w.last v.last
    (subst (λ (b : ℕ). IsLeast (Completes task recording judged b) w.last) (same_first task recording judged w v s t is also) is.last) also.last

same_area : (task : Task) (fixes : List Fix) (w v : Window) → w.first ≡ v.first → w.last ≡ v.last → area_choice task fixes w ≡ area_choice task fixes v
same_area task fixes w v first last = rw (first, last) refl

same_racing : (task : Task) (fixes : List Fix) (w v : Window) (count number from start : ℕ) → w.last ≡ v.last → count ≡ number → from ≡ start
    → racing_choice task fixes w count from ≡ racing_choice task fixes v number start
same_racing task fixes w v count number from start last same begin = rw (last, same, begin) refl

same_areas : (task : Task) (fixes : List Fix) (w v : Window) (count number : ℕ) → w.first ≡ v.first → w.last ≡ v.last → count ≡ number
    → areas_choice task fixes w count ≡ areas_choice task fixes v number
same_areas task fixes w v count number first last same = rw (first, last, same) refl

out_first : (task : Task) (recording : Recording) (judged : Stretch) (w v : Window) (m n : ℕ) → IsOutlanded task recording judged w m → IsOutlanded task recording judged v n → w.first ≡ v.first
out_first task recording judged w v m n is also = least_alone (IsStart task.start recording judged) w.first v.first is.first also.first

out_last : (task : Task) (recording : Recording) (judged : Stretch) (w v : Window) (m n : ℕ) → IsOutlanded task recording judged w m → IsOutlanded task recording judged v n → w.last ≡ v.last
out_last task recording judged w v m n is also =
    let one = is.last in
    let other = also.last in
    omega (arith, one, other)

out_zones : (task : Task) (recording : Recording) (judged : Stretch) (w v : Window) (m n : ℕ) → IsOutlanded task recording judged w m → IsOutlanded task recording judged v n → m ≡ n
out_zones task recording judged w v m n is also =
    greatest_alone (VisitsFirst recording.fixes judged task.zones v.first) m n
    (subst (λ (b : ℕ). IsGreatest (VisitsFirst recording.fixes judged task.zones b) m) (out_first task recording judged w v m n is also) is.visited) also.visited

out_alone : (contest : Kind) (task : Task) (recording : Recording) (judged : Stretch) (w v : Window) (m n : ℕ) (one other : Goal) → IsOutlanded task recording judged w m
    → IsOutlanded task recording judged v n → IsOutChoice contest task recording.fixes judged w m one → IsOutChoice contest task recording.fixes judged v n other → one ≡ other
out_alone Racing task recording judged w v m n one other is also (from, least, made) (start, lowest, also_made) =
    let first = out_first task recording judged w v m n is also in
    let zones = out_zones task recording judged w v m n is also in
    let moved = subst (λ (b : ℕ). IsLeast (HasVisit recording.fixes judged (take m task.zones) b) from) first least in
    let same = subst (λ (k : ℕ). IsLeast (HasVisit recording.fixes judged (take k task.zones) v.first) from) zones moved in
    let begin = least_alone (HasVisit recording.fixes judged (take n task.zones) v.first) from start same lowest in
    made ∙ same_racing task recording.fixes w v m n from start (out_last task recording judged w v m n is also) zones begin ∙ sym also_made
out_alone (Area minimum) task recording judged w v m n one other is also made also_made =
    made ∙ same_areas task recording.fixes w v m n (out_first task recording judged w v m n is also) (out_last task recording judged w v m n is also) (out_zones task recording judged w v m n is also)
    ∙ sym also_made

claim_alone : (name : ClaimKind) (one other : Goal) (a b : List FlightClaim) → one ≡ other → a ≡ (record { kind = name; rule = one }) ∷ [] → b ≡ (record { kind = name; rule = other }) ∷ [] → a ≡ b
claim_alone name one other a b same is also =
    let claim : Goal → FlightClaim = λ rule. record { kind = name; rule = rule } in
    is ∙ ap (λ (r : Goal). claim r ∷ []) same ∙ sym also

choices_alone : (contest : Kind) (task : Task) (recording : Recording) (judged : Stretch) (o p : Judged) (a b : List FlightClaim) → IsOutcome task recording judged o
    → IsOutcome task recording judged p → AreChoices contest task recording.fixes judged o a → AreChoices contest task recording.fixes judged p b → a ≡ b
choices_alone Racing task recording judged (Finished w s) (Finished v t) a b is also are too = are ∙ sym too
choices_alone (Area minimum) task recording judged (Finished w s) (Finished v t) a b is also are too =
    claim_alone kind.Area _ _ a b (same_area task recording.fixes w v (same_first task recording judged w v s t is also) (same_last task recording judged w v s t is also)) are too
choices_alone contest task recording judged (Finished w s) (Outlanded v n) a b is also are too = absurd (also.incomplete w.first is.first.is)
choices_alone contest task recording judged (Finished w s) NoStart a b is also are too = absurd (also w.first is.first.is.start)
choices_alone contest task recording judged (Outlanded w m) (Finished v t) a b is also are too = absurd (is.incomplete v.first also.first.is)
choices_alone Racing task recording judged (Outlanded w m) (Outlanded v n) a b is also (one, made, are) (other, made_too, too) =
    claim_alone kind.Out one other a b (out_alone Racing task recording judged w v m n one other is also made made_too) are too
choices_alone (Area minimum) task recording judged (Outlanded w m) (Outlanded v n) a b is also (one, made, are) (other, made_too, too) =
    claim_alone kind.Out one other a b (out_alone (Area minimum) task recording judged w v m n one other is also made made_too) are too
choices_alone contest task recording judged (Outlanded w m) NoStart a b is also are too = absurd (also w.first is.first.is)
choices_alone contest task recording judged NoStart (Finished v t) a b is also are too = absurd (is v.first also.first.is.start)
choices_alone contest task recording judged NoStart (Outlanded v n) a b is also are too = absurd (is v.first also.first.is)
choices_alone Racing task recording judged NoStart NoStart a b is also are too = are ∙ sym too
choices_alone (Area minimum) task recording judged NoStart NoStart a b is also are too = are ∙ sym too

-- a range without a fix is empty for every other account of the same fixes
both_empty : (task : Task) (air : Airspace) (fixes : List Fix) (one other : Stretch) → IsJudgedRange task.closes air.volumes fixes one → IsJudgedRange task.closes air.volumes fixes other
    → one.to ≤ one.from → other.to ≤ other.from
both_empty task air fixes one other is also none =
    elim (cases_lt other.from other.to) [
      | inl some ↦ (let inside = is.all other.from (also.each other.from (omega arith, some)) in
          let low = inside.0 in
          let high = inside.1 in
          absurd (omega (arith, none, low, high)))
      | inr empty ↦ empty
    ]

-- Two lists of claims that are expected of one flight are the same.
pub expected_alone : (task : Task) (air : Airspace) (recording : Recording) (a b : List FlightClaim) → AreExpected task air recording a → AreExpected task air recording b → a ≡ b
expected_alone task air recording a b one other =
    elim (cases_lt one.judged.from one.judged.to) [
      | inl some ↦ (let same = range_alone task air recording.fixes one.judged other.judged one.range other.range some in
          let is = subst (λ (r : Stretch). IsOutcome task recording r one.outcome) same one.is in
          let are = subst (λ (r : Stretch). AreChoices task.kind task recording.fixes r one.outcome one.choices) same one.are in
          let chosen = choices_alone task.kind task recording other.judged one.outcome other.outcome one.choices other.choices is other.is are other.are in
          one.all ∙ ap (λ (l : List FlightClaim). l ++ list_claims task recording.fixes one.judged) chosen
          ∙ ap (λ (r : Stretch). other.choices ++ list_claims task recording.fixes r) same ∙ sym other.all)
      | inr none ↦ (let empty = both_empty task air recording.fixes one.judged other.judged one.range other.range none in
          let no_choice = none_chosen task.kind task recording one.judged one.outcome one.choices none one.is one.are in
          let no_list = none_listed task recording.fixes one.judged none in
          let no_choice_too = none_chosen task.kind task recording other.judged other.outcome other.choices empty other.is other.are in
          let no_list_too = none_listed task recording.fixes other.judged empty in
          one.all ∙ ap (λ (l : List FlightClaim). l ++ list_claims task recording.fixes one.judged) (no_choice ∙ sym no_choice_too)
          ∙ ap (λ (l : List FlightClaim). other.choices ++ l) (no_list ∙ sym no_list_too) ∙ sym other.all)
    ]
