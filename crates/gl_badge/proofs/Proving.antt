-- The badge claims of a flight, proved: their texts, their totals, and that they are accepted.
use Rattle.std.proofs.Common.{◌≡◌, ◌∙◌, sym, ap, refl, subst, ℕ, suc, ◌+◌, ◌-◌, ◌^◌, ◌<◌, ◌≤◌, List, [], ◌∷◌, ◌++◌, length, map, take, drop, get_or, Option, None, Some, pos, inl, arith}
use Rattle.std.specs.Prelude.{All, IsTrue, MatchOption}
use Rattle.std.specs.List.{AllZip}
use Rattle.std.proofs.lemmas.List.{length-take, map_push, take-append-drop, take_all, take_more}
use Rattle.std.proofs.lemmas.List.Elements.{All-cons, All-head, All-tail}
use Rattle.gl_day.specs.declared.fault.Checked.{Checked}
use Rattle.gl_day.specs.declared.fault.Checked.TheVariants.{Accepted, Refused}
use Rattle.gl_day.specs.declared.fault.NotProved.{NotProved}
use Rattle.gl_check.specs.File.{HasSaid}
use Rattle.gl_check.specs.declared.claims_file.ClaimsFile.{ClaimsFile}
use Rattle.gl_desk.specs.Desk.{FilesByName}
use Rattle.gl_day.specs.Checked.{IsChecked, IsNotProved}
use Rattle.gl_day.specs.FileChecked.{EndsAhead, GoesOnAhead, HasFound, HasProved, IsCount}
use Rattle.gl_day.specs.Expected.{Proves, Expected}
use Rattle.gl_day.proofs.Checks.{not_proved_more, proof_accepted}
use Rattle.gl_day.proofs.FileWalked.{found_so}
use Rattle.gl_day.proofs.Statements.{certificate_statement}
use Rattle.gl_igc.specs.declared.fix.Fix.{Fix}
use Rattle.gl_igc.specs.declared.recording.Declared.{Declared}
use Rattle.gl_igc.specs.declared.recording.Recording.{Recording}
use Rattle.gl_goal.specs.Area.{area_goal}
use Rattle.gl_goal.specs.Chain.{last_of}
use Rattle.gl_goal.specs.Free.{free_goal}
use Rattle.gl_goal.specs.Lemmas.Area.{area_goal-is_goal}
use Rattle.gl_goal.specs.Lemmas.Free.{five_axes-named, free_goal-is_goal}
use Rattle.gl_goal.proofs.Optimum.{certificate_optimum}
use Rattle.gl_goal.specs.Lists.{AreLists, AreNamed}
use Rattle.gl_goal.specs.Goal.{IsGoal, IsOptimum, Goal}
use Rattle.gl_proof.specs.declared.claim.Claim.{Claim}
use Rattle.gl_proof.specs.Claim.{IsStatement, Statement, statement_of}
use Rattle.gl_text.specs.Forms.{is_number}
use Rattle.gl_sphere.specs.declared.place.Vec3.{Vec3}
use Rattle.gl_badge.specs.declared.badge.Badge.{Badge}
use Rattle.gl_badge.specs.declared.badge.Badge.TheVariants.{Distance, Gain, DeclaredGoal}
use Rattle.gl_badge.specs.declared.claim.BadgeClaim.{BadgeClaim}
use Rattle.gl_badge.specs.declared.shown.Course.{Course}
use Rattle.gl_badge.specs.declared.shown.Course.TheVariants.{Undeclared, Long, Missed, Lists}
use Rattle.gl_badge.specs.Claims.{AreBadgeClaims, distance_claim, gain_claim, goal_claims, goals_through, rule_of_claim, rules_of_claims}
use Rattle.gl_badge.specs.Course.{IsCourseOf, course_points}
use Rattle.gl_badge.specs.Gain.{gain_goal}
use Rattle.gl_badge.specs.Lemmas.Gain.{gain_goal-is_goal, two_axes-named}
use Rattle.gl_badge.specs.Named.{expected_of, kind_of, number_of, expected_claim}
use Rattle.gl_badge.specs.Proved.{IsBadgeChecked, IsBadgeFound}
use Rattle.gl_badge.proofs.Courses.{course-lists}
use Rattle.gl_badge.proofs.Totals.{not-missed}
use Rattle.gl_text.proofs.Lists.{AllZip-push}
use Rattle.gl_day.proofs.Written.{named_short}

-- a goal whose lists name fixes
pub record IsOver (fixes : List Fix) (rule : Goal) : Type 0 where
  pub is_goal : IsGoal rule
  pub named : All (AreNamed fixes) rule.axes

-- claims of such goals
abbrev pub AreOver : List Fix → List (Badge × Goal) → Type 0
AreOver fixes claims = All (λ (claim : Badge × Goal). IsOver fixes claim.1) claims

none_over : (fixes : List Fix) → AreOver fixes []
none_over fixes k d below = absurd (omega arith)

distance_over : (fixes : List Fix) → 1 ≤ length fixes → IsOver fixes (distance_claim fixes).1
unfolding free_goal
distance_over fixes some =
    let within : length fixes - 1 < length fixes = omega arith in
    record {
      is_goal = free_goal-is_goal fixes 0 (length fixes - 1) (pos 1_000) (omega arith) within;
      named = five_axes-named fixes 0 (length fixes - 1) (omega arith) within;
    }

gain_over : (fixes : List Fix) → 1 ≤ length fixes → IsOver fixes (gain_claim fixes).1
unfolding gain_goal
gain_over fixes some = record { is_goal = gain_goal-is_goal fixes some; named = two_axes-named fixes }

through_over : (fixes : List Fix) (lists : List (List ℕ)) (points : List Vec3) → AreLists fixes lists → AreOver fixes (goals_through fixes lists points)
unfolding area_goal
through_over fixes lists [] are = none_over fixes
through_over fixes lists (start ∷ points) are =
    All-cons (λ (claim : Badge × Goal). IsOver fixes claim.1) (DeclaredGoal, area_goal fixes lists start (last_of start points) 0) []
    (record { is_goal = area_goal-is_goal fixes lists start (last_of start points) 0 are; named = are.named })
    (none_over fixes)

course_over : (fixes : List Fix) (declared : Option Declared) (course : Course) → IsCourseOf fixes declared course → AreOver fixes (goal_claims fixes course)
course_over fixes declared Undeclared is = none_over fixes
course_over fixes declared Long is = none_over fixes
course_over fixes declared (Missed number) is = none_over fixes
course_over fixes declared (Lists lists points) is =
    through_over fixes (map (λ list. list.items) lists.items) points.items (course-lists fixes declared lists points is).0

-- the badge claims have goals over the fixes
pub claims_over : (recording : Recording) (claims : List (Badge × Goal)) → AreBadgeClaims recording claims → AreOver recording.fixes claims
claims_over recording claims are =
    let fixes = recording.fixes in
    let P : Badge × Goal → Type 0 = λ claim. IsOver fixes claim.1 in
    subst (AreOver fixes) (sym are.all)
    (All-cons P (distance_claim fixes) (gain_claim fixes ∷ goal_claims fixes are.course) (distance_over fixes recording.some_fix)
    (All-cons P (gain_claim fixes) (goal_claims fixes are.course) (gain_over fixes recording.some_fix)
    (course_over fixes recording.declared are.course are.is)))

numbered : (badge : Badge) → IsTrue (is_number (number_of badge))
numbered Distance = refl
numbered Gain = refl
numbered DeclaredGoal = refl

-- what proves such claims has a text
statements : (fixes : List Fix) (claims : List (Badge × Goal)) (proved : List Statement) → length fixes ≤ 90_000 → AreOver fixes claims → AllZip Proves (expected_of claims) proved
    → All IsStatement proved
statements fixes [] [] most over each = λ k d below. absurd (omega arith)
statements fixes [] (s ∷ proved) most over each = absurd each
statements fixes (c ∷ claims) [] most over each = absurd each
statements fixes (c ∷ claims) (s ∷ proved) most over each =
    let first = All-head (λ (claim : Badge × Goal). IsOver fixes claim.1) c claims over in
    All-cons IsStatement s proved
    (certificate_statement (number_of c.0) (kind_of c.0) c.1 s (numbered c.0) first.is_goal (named_short fixes c.1.axes most first.named) each.0)
    (statements fixes claims proved most (All-tail (λ (claim : Badge × Goal). IsOver fixes claim.1) c claims over) each.1)

pub badge_statements : (recording : Recording) (claims : List (Badge × Goal)) (proved : List Statement) → AreBadgeClaims recording claims → AllZip Proves (expected_of claims) proved
    → All IsStatement proved
badge_statements recording claims proved are each =
    statements recording.fixes claims proved recording.at_most_90000 (claims_over recording claims are) each

-- and their totals are the optima
optima : (fixes : List Fix) (claims : List (Badge × Goal)) (proved : List Claim) → AreOver fixes claims → AllZip Proves (expected_of claims) (map statement_of proved)
    → AllZip (λ claim total. IsOptimum claim.1 total) claims (map (λ p. p.total) proved)
optima fixes [] [] over each = tt
optima fixes [] (p ∷ proved) over each = absurd each
optima fixes (c ∷ claims) [] over each = absurd each
optima fixes (c ∷ claims) (p ∷ proved) over each =
    let first = All-head (λ (claim : Badge × Goal). IsOver fixes claim.1) c claims over in
    let s = statement_of p in
    (certificate_optimum c.1 s.total s.fixes s.boxes first.is_goal each.0.certificate, optima fixes claims proved (All-tail (λ (claim : Badge × Goal). IsOver fixes claim.1) c claims over) each.1)

pub badge_optima : (recording : Recording) (claims : List (Badge × Goal)) (proved : List Claim) → AreBadgeClaims recording claims → AllZip Proves (expected_of claims) (map statement_of proved)
    → AllZip (λ claim total. IsOptimum claim.1 total) claims (map (λ p. p.total) proved)
badge_optima recording claims proved are each = optima recording.fixes claims proved (claims_over recording claims are) each

-- what is known of a course gives one list of claims
course_once : (fixes : List Fix) (declared : Option Declared) (a b : Course) → IsCourseOf fixes declared a → IsCourseOf fixes declared b → goal_claims fixes a ≡ goal_claims fixes b
course_once fixes None a b is_a is_b = ap (goal_claims fixes) (is_a ∙ sym is_b)
course_once fixes (Some declared) Undeclared b is_a is_b = absurd is_a
course_once fixes (Some declared) a Undeclared is_a is_b = absurd is_b
course_once fixes (Some declared) Long Long is_a is_b = refl
course_once fixes (Some declared) Long (Missed n) is_a is_b = refl
course_once fixes (Some declared) (Missed m) Long is_a is_b = refl
course_once fixes (Some declared) (Missed m) (Missed n) is_a is_b = refl
course_once fixes (Some declared) Long (Lists lists points) is_a is_b = absurd (omega (arith, is_a, is_b.0))
course_once fixes (Some declared) (Lists lists points) Long is_a is_b = absurd (omega (arith, is_b, is_a.0))
course_once fixes (Some declared) (Missed m) (Lists lists points) is_a is_b =
    absurd (not-missed fixes (course_points declared.points) m _ refl is_b.1.0.reached is_a.1.missed)
course_once fixes (Some declared) (Lists lists points) (Missed n) is_a is_b =
    absurd (not-missed fixes (course_points declared.points) n _ refl is_a.1.0.reached is_b.1.missed)
course_once fixes (Some declared) (Lists lists points) (Lists others through) is_a is_b =
    let same_lists : map (λ list. list.items) lists.items ≡ map (λ list. list.items) others.items = is_a.1.0.near ∙ sym is_b.1.0.near in
    let same_points : points.items ≡ through.items = is_a.1.1 ∙ sym is_b.1.1 in
    λ i. goals_through fixes (same_lists i) (same_points i)

-- a recording has one list of badge claims
pub badge_claims-once : (recording : Recording) (a b : List (Badge × Goal)) → AreBadgeClaims recording a → AreBadgeClaims recording b → a ≡ b
badge_claims-once recording a b are_a are_b =
    are_a.all
    ∙ ap (λ (claims : List (Badge × Goal)). distance_claim recording.fixes ∷ gain_claim recording.fixes ∷ claims)
    (course_once recording.fixes recording.declared are_a.course are_b.course are_a.is are_b.is)
    ∙ sym are_b.all

-- what was found of a flight is accepted for it
pub badges_accepted : (recording : Recording) (lines : List ℕ) (proved : List Statement) (said : Checked) → IsBadgeFound recording lines proved → IsBadgeChecked recording proved said
    → (claims : ℕ) × (said ≡ Accepted claims)
badges_accepted recording lines proved said found checked =
    let each = subst (λ (claims : List (Badge × Goal)). AllZip Proves (expected_of claims) proved) (badge_claims-once recording found.claims checked.0 found.are checked.1) found.proved in
    (length (expected_of checked.0), proof_accepted (expected_of checked.0) proved said each checked.2)

-- the claims that are expected
abbrev pub expected_for : List BadgeClaim → List Expected
expected_for claims = expected_of (rules_of_claims claims)

expected_for-append : (xs ys : List BadgeClaim) → expected_for (xs ++ ys) ≡ expected_for xs ++ expected_for ys
expected_for-append [] ys = refl
expected_for-append (x ∷ xs) ys = ap (λ (l : List Expected). expected_for (x ∷ []) ++ l) (expected_for-append xs ys)

pub length-expected_for : (claims : List BadgeClaim) → length (expected_for claims) ≡ length claims
length-expected_for [] = refl
length-expected_for (c ∷ claims) = ap suc (length-expected_for claims)

next_is : (claims : List BadgeClaim) (i : ℕ) (c : BadgeClaim) → i < length claims → c ≡ get_or claims i c → take (i + 1) claims ≡ take i claims ++ c ∷ []
next_is claims i c below item = take_more claims i c below ∙ ap (λ (d : BadgeClaim). take i claims ++ d ∷ []) (sym item)

pub expected_next : (claims : List BadgeClaim) (i : ℕ) (c : BadgeClaim) → i < length claims → c ≡ get_or claims i c
    → expected_for (take (i + 1) claims) ≡ expected_for (take i claims) ++ expected_for (c ∷ [])
expected_next claims i c below item = ap expected_for (next_is claims i c below item) ∙ expected_for-append (take i claims) (c ∷ [])

-- one claim more is proved
pub one_proved : (claims : List BadgeClaim) (i : ℕ) (c : BadgeClaim) (proved after : List Claim) (p : Claim) → i < length claims → c ≡ get_or claims i c → after ≡ proved ++ p ∷ []
    → AllZip Proves (expected_for (take i claims)) (map statement_of proved) → Proves (expected_claim (rule_of_claim c).0 (rule_of_claim c).1) (statement_of p)
    → AllZip Proves (expected_for (take (i + 1) claims)) (map statement_of after)
one_proved claims i c proved after p below item more each is =
    let pushed = AllZip-push Proves (expected_for (take i claims)) (map statement_of proved) (expected_claim (rule_of_claim c).0 (rule_of_claim c).1) (statement_of p) each is in
    subst (λ (l : List Claim). AllZip Proves (expected_for (take (i + 1) claims)) (map statement_of l)) (sym more)
    (subst (AllZip Proves (expected_for (take (i + 1) claims))) (sym (map_push statement_of proved p))
    (subst (λ (l : List Expected). AllZip Proves l (map statement_of proved ++ statement_of p ∷ [])) (sym (expected_next claims i c below item)) pushed))

pub all_proved : (claims : List BadgeClaim) (i : ℕ) (proved : List Claim) → length claims ≤ i → AllZip Proves (expected_for (take i claims)) (map statement_of proved)
    → AllZip Proves (expected_for claims) (map statement_of proved)
all_proved claims i proved last each =
    subst (λ (l : List BadgeClaim). AllZip Proves (expected_for l) (map statement_of proved)) (take_all i claims last) each

is_count : (claims : List BadgeClaim) (i count : ℕ) → i < length claims → count ≡ i → count < 2 ^ 64 → IsCount count (expected_for (take i claims))
is_count claims i count below counted small = omega (arith, counted, below, small, length-expected_for (take i claims), length-take i claims)

-- the claims so far are right, and so is the next
pub next_right : (folder : Option FilesByName) (file : List ℕ) (most : ℕ) (claims : List BadgeClaim) (i : ℕ) (c : BadgeClaim) (before after : ClaimsFile) (count : ℕ) → i < length claims
    → c ≡ get_or claims i c
    → count ≡ i → count < 2 ^ 64 → HasProved folder file most (expected_for (take i claims)) before → GoesOnAhead folder count (expected_for (c ∷ [])) before after None
    → HasProved folder file most (expected_for (take (i + 1) claims)) after
next_right folder file most claims i c before after count below item counted small proved goes =
    subst (λ (l : List Expected). HasProved folder file most l after) (sym (expected_next claims i c below item))
    (goes file most (expected_for (take i claims)) (is_count claims i count below counted small) proved)

-- or it is the first that is wrong
pub next_wrong : (folder : Option FilesByName) (file : List ℕ) (most : ℕ) (claims : List BadgeClaim) (i : ℕ) (c : BadgeClaim) (before after : ClaimsFile) (count : ℕ) (wrong : NotProved)
    → i < length claims
    → c ≡ get_or claims i c → count ≡ i → count < 2 ^ 64 → HasProved folder file most (expected_for (take i claims)) before → GoesOnAhead folder count (expected_for (c ∷ [])) before after (Some wrong)
    → HasFound folder file most (λ statements. IsNotProved (expected_for claims) statements wrong) after
next_wrong folder file most claims i c before after count wrong below item counted small proved goes =
    let so_far = expected_for (take i claims) in
    let whole : expected_for claims ≡ expected_for (take (i + 1) claims) ++ expected_for (drop (i + 1) claims) =
    ap expected_for (sym (take-append-drop (i + 1) claims)) ∙ expected_for-append (take (i + 1) claims) (drop (i + 1) claims) in
    found_so folder file most after (λ statements. IsNotProved (so_far ++ expected_for (c ∷ [])) statements wrong) (λ statements. IsNotProved (expected_for claims) statements wrong)
    (λ statements first. subst (λ (l : List Expected). IsNotProved l statements wrong) (sym whole)
    (not_proved_more (expected_for (take (i + 1) claims)) (expected_for (drop (i + 1) claims)) statements wrong
    (subst (λ (l : List Expected). IsNotProved l statements wrong) (sym (expected_next claims i c below item)) first)))
    (goes file most so_far (is_count claims i count below counted small) proved)

pub all_right : (folder : Option FilesByName) (file : List ℕ) (most : ℕ) (claims : List BadgeClaim) (i : ℕ) (after : ClaimsFile) → length claims ≤ i
    → HasProved folder file most (expected_for (take i claims)) after
    → HasProved folder file most (expected_for claims) after
all_right folder file most claims i after last proved =
    subst (λ (l : List BadgeClaim). HasProved folder file most (expected_for l) after) (take_all i claims last) proved

-- what was proved of a list of claims
pub proved_of : (goals slice : List BadgeClaim) (proved : List Claim) → slice ≡ goals → AllZip Proves (expected_for slice) (map statement_of proved)
    → AllZip Proves (expected_for goals) (map statement_of proved)
proved_of goals slice proved same each = subst (λ (l : List BadgeClaim). AllZip Proves (expected_for l) (map statement_of proved)) same each

pub none_right : (folder : Option FilesByName) (file : List ℕ) (most : ℕ) (claims : List BadgeClaim) (before : ClaimsFile) → HasSaid folder file most [] before
    → HasProved folder file most (expected_for (take 0 claims)) before
none_right folder file most claims before has = record { said = []; each = tt; has = has }

-- none are expected before the first
none_before : (before : List Expected) → IsCount 0 before → before ≡ []
none_before [] none = refl
none_before (e ∷ before) none = absurd (omega (arith, none))

-- what is said from the first claim of a file on
pub from_first : (folder : Option FilesByName) (more : List Expected) (old after : ClaimsFile) (wrong : Option NotProved)
    → ((file : List ℕ) (most : ℕ) → HasProved folder file most [] old
    → MatchOption wrong (HasProved folder file most more after) (λ first. HasFound folder file most (λ statements. IsNotProved more statements first) after))
    → GoesOnAhead folder 0 more old after wrong
from_first folder more old after wrong goes = λ file most before none proved.
    let empty = none_before before none in
    subst (λ (l : List Expected). MatchOption wrong (HasProved folder file most (l ++ more) after) (λ first. HasFound folder file most (λ statements. IsNotProved (l ++ more) statements first) after))
    (sym empty) (goes file most (subst (λ (l : List Expected). HasProved folder file most l old) empty proved))

-- what is said of claims that are all right
pub end_said : (folder : Option FilesByName) (file : List ℕ) (most : ℕ) (recording : Recording) (claims slice : List BadgeClaim) (after : ClaimsFile) (count : ℕ) (said : Checked)
    → AreBadgeClaims recording (rules_of_claims claims) → slice ≡ claims → count ≡ length claims → count < 2 ^ 64 → HasProved folder file most (expected_for slice) after → EndsAhead count after said
    → HasFound folder file most (λ statements. IsBadgeChecked recording statements said) after
end_said folder file most recording claims slice after count said are same counted small proved ends =
    found_so folder file most after (λ statements. IsChecked (expected_for claims) statements said) (λ statements. IsBadgeChecked recording statements said)
    (λ statements is. (rules_of_claims claims, are, is))
    (ends folder file most (expected_for claims) (omega (arith, counted, small, length-expected_for claims))
    (subst (λ (l : List BadgeClaim). HasProved folder file most (expected_for l) after) same proved))

-- and where one is wrong
pub wrong_said : (folder : Option FilesByName) (file : List ℕ) (most : ℕ) (recording : Recording) (claims slice : List BadgeClaim) (after : ClaimsFile) (wrong : NotProved)
    → AreBadgeClaims recording (rules_of_claims claims)
    → slice ≡ claims → HasFound folder file most (λ statements. IsNotProved (expected_for slice) statements wrong) after
    → HasFound folder file most (λ statements. IsBadgeChecked recording statements (Refused wrong)) after
wrong_said folder file most recording claims slice after wrong are same first =
    found_so folder file most after (λ statements. IsNotProved (expected_for slice) statements wrong) (λ statements. IsBadgeChecked recording statements (Refused wrong))
    (λ statements is. (rules_of_claims claims, are, inl (subst (λ (l : List BadgeClaim). IsNotProved (expected_for l) statements wrong) same is))) first
