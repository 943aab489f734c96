-- The claims that are expected of a flight have goals over its fixes.
use Rattle.std.proofs.Common.{◌≡◌, refl, sym, subst, ℕ, ◌+◌, ◌-◌, ◌^◌, ◌<◌, ◌≤◌, Bool, true, false, List, [], ◌∷◌, ◌++◌, length, take, map, ℤ, arith}
use Rattle.std.specs.Prelude.{◌&&◌, if◌then◌else◌, nat_lt, All}
use Rattle.std.proofs.lemmas.Bool.Decides.{nat_tests}
use Rattle.std.proofs.lemmas.List.{length-take}
use Rattle.std.proofs.lemmas.List.Elements.{All-append, All-cons}
use Rattle.gl_sphere.specs.declared.place.Vec3.{Vec3}
use Rattle.gl_airspace.specs.declared.volume.Airspace.{Airspace}
use Rattle.gl_igc.specs.declared.fix.Fix.{Fix}
use Rattle.gl_igc.specs.declared.recording.Recording.{Recording}
use Rattle.gl_goal.specs.Area.{area_goal}
use Rattle.gl_goal.specs.Chain.{legs}
use Rattle.gl_goal.specs.Free.{free_goal}
use Rattle.gl_goal.specs.Lemmas.Area.{area_goal-is_goal}
use Rattle.gl_goal.specs.Lemmas.Free.{five_axes-named, free_goal-is_goal}
use Rattle.gl_goal.specs.Lemmas.Out.{out_goal-is_goal}
use Rattle.gl_goal.specs.Lemmas.Triangle.{three_axes-named, triangle_goal-is_goal}
use Rattle.gl_goal.specs.Lists.{AreLists, AreNamed}
use Rattle.gl_goal.specs.Out.{out_goal}
use Rattle.gl_goal.specs.Goal.{IsGoal, Goal}
use Rattle.gl_goal.specs.Triangle.{triangle_goal}
use Rattle.gl_zone.specs.declared.zone.Zone.{Zone}
use Rattle.gl_proof.specs.declared.claim.ClaimKind.TheVariants as kind
use Rattle.gl_task.specs.declared.day_type.Kind.{Kind}
use Rattle.gl_task.specs.declared.day_type.Kind.TheVariants.{Racing, Area}
use Rattle.gl_task.specs.declared.task.Task.{Task}
use Rattle.gl_judge.specs.declared.outcome.Judged.{Judged}
use Rattle.gl_judge.specs.declared.outcome.Judged.TheVariants.{Finished, Outlanded, NoStart}
use Rattle.gl_judge.specs.declared.outcome.Window.{Window}
use Rattle.gl_judge.specs.declared.stretch.Stretch.{Stretch}
use Rattle.gl_judge.specs.Choices.{IsOutChoice, area_choice, course_point, numbers_before, start_point, zone_lists}
use Rattle.gl_judge.specs.Claims.{AreChoices, AreExpected, claim_if, free_claims, list_claims, triangle_claims}
use Rattle.gl_judge.specs.Finishes.{lead_of}
use Rattle.gl_judge.specs.Marking.{course_of, finish_point, ring_radius}
use Rattle.gl_judge.specs.Code.Outcome.{HasFinished}
use Rattle.gl_judge.specs.Outcome.{IsFinished, IsOutcome, IsOutlanded}
use Rattle.gl_judge.proofs.Courses.{legs-before, legs-short}
use Rattle.gl_judge.proofs.Tours.{area-lists, finish-tour, out-lists, out-tour, racing-lists, visit-judged}
use Rattle.gl_judge.specs.Claimed.{FlightClaim}

-- a goal whose lists name fixes
pub record IsGoalOver (fixes : List Fix) (rule : Goal) : Type 0 where
  pub is_goal : IsGoal rule
  pub named : All (AreNamed fixes) rule.axes

-- claims of such goals
abbrev pub AreGoalsOver : List Fix → List FlightClaim → Type 0
AreGoalsOver fixes claims = All (λ (claim : FlightClaim). IsGoalOver fixes claim.rule) claims

area_over : (fixes : List Fix) (lists : List (List ℕ)) (start finish : Vec3) (off : ℕ) → AreLists fixes lists → IsGoalOver fixes (area_goal fixes lists start finish off)
unfolding area_goal
area_over fixes lists start finish off are =
    record { is_goal = area_goal-is_goal fixes lists start finish off are; named = are.named }

out_over : (fixes : List Fix) (lists : List (List ℕ)) (start : Vec3) (fixed : ℕ) (target : Vec3) → fixed < 2 ^ 40 → AreLists fixes lists → IsGoalOver fixes (out_goal fixes lists start fixed target)
unfolding out_goal
out_over fixes lists start fixed target below are =
    record { is_goal = out_goal-is_goal fixes lists start fixed target are below; named = are.named }

free_over : (fixes : List Fix) (first last : ℕ) (loss : ℤ) → first ≤ last → last < length fixes → IsGoalOver fixes (free_goal fixes first last loss)
unfolding free_goal
free_over fixes first last loss order within =
    record { is_goal = free_goal-is_goal fixes first last loss order within; named = five_axes-named fixes first last order within }

triangle_over : (fixes : List Fix) (first last closing : ℕ) → first ≤ last → last < length fixes → IsGoalOver fixes (triangle_goal fixes first last closing)
unfolding triangle_goal
triangle_over fixes first last closing order within =
    record { is_goal = triangle_goal-is_goal fixes first last closing order within; named = three_axes-named fixes first last order within }

-- the choice of one who finished a task of areas
area_chosen : (task : Task) (recording : Recording) (judged : Stretch) (window : Window) (seconds : ℕ) → judged.to ≤ length recording.fixes → IsFinished task recording judged window seconds
    → IsGoalOver recording.fixes (area_choice task recording.fixes window)
area_chosen task recording judged window seconds within is =
    let fixes = recording.fixes in
    let has : HasFinished task recording window = record { judged = judged; within = within; seconds = seconds; finished = is } in
    let tour = finish-tour task recording window has in
    let lists = subst (λ (behind : ℕ). AreLists fixes (zone_lists fixes task.zones window.first behind)) tour.behind_is (area-lists task fixes window tour) in
    area_over fixes (zone_lists fixes task.zones window.first (window.last + 1 - lead_of task.finish)) (start_point task) (finish_point task.finish) (ring_radius task.finish) lists

-- the choice of an outlanding
out_chosen : (contest : Kind) (task : Task) (recording : Recording) (judged : Stretch) (window : Window) (count : ℕ) (rule : Goal) → judged.to ≤ length recording.fixes
    → IsOutlanded task recording judged window count → IsOutChoice contest task recording.fixes judged window count rule → IsGoalOver recording.fixes rule
out_chosen Racing task recording judged window count rule within is (from, least, made) =
    let fixes = recording.fixes in
    let behind = window.last + 1 in
    let begin = is.start.crossed.behind_judged in
    let visit = least.is in
    let last = visit-judged fixes judged (take count task.zones) window.first visit.visit begin visit.is_visit in
    let ends = visit.ends in
    let close = is.last in
    let some : from < behind = omega (arith, last, ends, close) in
    let lists = racing-lists fixes from behind some (omega (arith, within, close)) in
    let visited = is.visited.is.within in
    let most = task.at_most_eight_zones in
    let points = map (λ (zone : Zone). zone.centre) task.zones ++ finish_point task.finish ∷ [] in
    let flown = legs-short task.start.line.centre points count (omega (arith, visited, most)) in
    let fixed : legs (take (count + 1) (course_of task)) < 2 ^ 40 = subst (λ (n : ℕ). n < 2 ^ 40) (legs-before task.start.line.centre points count) flown in
    subst (IsGoalOver fixes) (sym made)
    (out_over fixes (numbers_before from behind ∷ []) (course_point task count) (legs (take (count + 1) (course_of task))) (course_point task (count + 1)) fixed lists)
out_chosen (Area minimum) task recording judged window count rule within is made =
    let fixes = recording.fixes in
    let zones = take count task.zones in
    let behind = window.last + 1 in
    let close = is.last in
    let tour = out-tour fixes judged zones window.first behind is.visited.is.last close is.visited.is.visited is.start.crossed.behind_judged in
    let most = task.at_most_eight_zones in
    let nine : length zones ≤ 9 = omega (arith, length-take count task.zones, most) in
    let lists = out-lists fixes zones window.first behind tour.0 nine (omega (arith, within, close)) tour.1 in
    subst (IsGoalOver fixes) (sym made)
    (out_over fixes (zone_lists fixes zones window.first behind ++ numbers_before window.first behind ∷ []) (start_point task) 0 (course_point task (count + 1)) (omega arith) lists)

none_over : (fixes : List Fix) → AreGoalsOver fixes []
none_over fixes k d below = absurd (omega arith)

one_over : (fixes : List Fix) (claim : FlightClaim) → IsGoalOver fixes claim.rule → AreGoalsOver fixes (claim ∷ [])
one_over fixes claim is = All-cons (λ (claim : FlightClaim). IsGoalOver fixes claim.rule) claim [] is (none_over fixes)

choices_over : (contest : Kind) (task : Task) (recording : Recording) (judged : Stretch) (outcome : Judged) (choices : List FlightClaim) → judged.to ≤ length recording.fixes
    → IsOutcome task recording judged outcome → AreChoices contest task recording.fixes judged outcome choices → AreGoalsOver recording.fixes choices
choices_over Racing task recording judged (Finished window seconds) choices within is are = subst (AreGoalsOver recording.fixes) (sym are) (none_over recording.fixes)
choices_over (Area minimum) task recording judged (Finished window seconds) choices within is are =
    subst (AreGoalsOver recording.fixes) (sym are) (one_over recording.fixes (record { kind = kind.Area; rule = area_choice task recording.fixes window })
    (area_chosen task recording judged window seconds within is))
choices_over Racing task recording judged (Outlanded window zones) choices within is (rule, made, are) =
    subst (AreGoalsOver recording.fixes) (sym are) (one_over recording.fixes (record { kind = kind.Out; rule = rule }) (out_chosen Racing task recording judged window zones rule within is made))
choices_over (Area minimum) task recording judged (Outlanded window zones) choices within is (rule, made, are) =
    subst (AreGoalsOver recording.fixes) (sym are) (one_over recording.fixes (record { kind = kind.Out; rule = rule })
    (out_chosen (Area minimum) task recording judged window zones rule within is made))
choices_over Racing task recording judged NoStart choices within is are = subst (AreGoalsOver recording.fixes) (sym are) (none_over recording.fixes)
choices_over (Area minimum) task recording judged NoStart choices within is are = subst (AreGoalsOver recording.fixes) (sym are) (none_over recording.fixes)

below_so : (a b : ℕ) → nat_lt a b ≡ true → a < b
below_so a b is = grind (arith, nat_tests)

listed_over : (fixes : List Fix) (asked some : Bool) (claim : FlightClaim) → (some ≡ true → IsGoalOver fixes claim.rule) → AreGoalsOver fixes (if asked && some then claim ∷ [] else [])
listed_over fixes false some claim is = none_over fixes
listed_over fixes true false claim is = none_over fixes
listed_over fixes true true claim is = one_over fixes claim (is refl)

-- the claim of a list over all judged fixes, where its goal is such a one
list_over : (asked : Bool) (fixes : List Fix) (judged : Stretch) (claim : FlightClaim) → judged.to ≤ length fixes
    → (judged.from ≤ judged.to - 1 → judged.to - 1 < length fixes → IsGoalOver fixes claim.rule) → AreGoalsOver fixes (claim_if asked judged claim)
list_over asked fixes judged claim within is =
    listed_over fixes asked (nat_lt judged.from judged.to) claim
    (λ some.
    let less = below_so judged.from judged.to some in
    is (omega (arith, less)) (omega (arith, less, within)))

lists_over : (task : Task) (fixes : List Fix) (judged : Stretch) → judged.to ≤ length fixes → AreGoalsOver fixes (list_claims task fixes judged)
lists_over task fixes judged within =
    All-append (λ (claim : FlightClaim). IsGoalOver fixes claim.rule) (free_claims task fixes judged) (triangle_claims task fixes judged)
    (list_over task.free fixes judged _ within (free_over fixes judged.from (judged.to - 1) task.rules.loss))
    (list_over task.triangle fixes judged _ within (triangle_over fixes judged.from (judged.to - 1) task.rules.closing))

-- the claims that are expected of a flight have goals over its fixes
pub expected_over : (task : Task) (air : Airspace) (recording : Recording) (claims : List FlightClaim) → AreExpected task air recording claims → AreGoalsOver recording.fixes claims
expected_over task air recording claims expected =
    let fixes = recording.fixes in
    let within = expected.range.within in
    subst (AreGoalsOver fixes) (sym expected.all)
    (All-append (λ (claim : FlightClaim). IsGoalOver fixes claim.rule) expected.choices (list_claims task fixes expected.judged)
    (choices_over task.kind task recording expected.judged expected.outcome expected.choices within expected.is expected.are)
    (lists_over task fixes expected.judged within))

-- each claim that is expected of a flight has a goal
pub expected_goals : (task : Task) (air : Airspace) (recording : Recording) (claims : List FlightClaim) → AreExpected task air recording claims
    → All (λ (claim : FlightClaim). IsGoal claim.rule) claims
expected_goals task air recording claims expected k d below =
    (expected_over task air recording claims expected k d below).is_goal
