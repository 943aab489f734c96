-- The claims of a proof are compared entrant by entrant.
use Rattle.std.proofs.Common.{◌≡◌, ◌∙◌, sym, ap, subst, refl, ℕ, ◌+◌, ◌-◌, ◌^◌, ◌<◌, inl, List, [], ◌∷◌, ◌++◌, length, take, drop, get_or, Option, arith, append-nil}
use Rattle.std.specs.Prelude.{min}
use Rattle.std.proofs.lemmas.List.{take_more, take-append-drop, length-append}
use Rattle.gl_desk.specs.Desk.{FilesByName}
use Rattle.gl_goal.specs.declared.any.AnyGoal.{AnyGoal}
use Rattle.gl_proof.specs.declared.claim.ClaimKind.{ClaimKind}
use Rattle.gl_proof.specs.Claim.{Statement}
use Rattle.gl_task.specs.declared.task.Entrant.{Entrant}
use Rattle.gl_day.specs.declared.fault.Checked.{Checked}
use Rattle.gl_day.specs.declared.fault.Checked.TheVariants.{Refused}
use Rattle.gl_day.specs.declared.fault.NotProved.{NotProved}
use Rattle.gl_day.specs.Checked.{IsChecked, IsNotProved}
use Rattle.gl_day.specs.Expected.{Expected, expected_of}
use Rattle.gl_day.specs.FileChecked.{HasFound, HasProved, IsCount}
use Rattle.gl_check.specs.File.{HasSaid}
use Rattle.gl_check.specs.declared.claims_file.ClaimsFile.{ClaimsFile}
use Rattle.gl_judge.specs.Claimed.{rules_of_claims}
use Rattle.gl_day.proofs.FileWalked.{found_so}
use Rattle.gl_day.proofs.Walked.{length-claims_for}
use Rattle.gl_day_files.specs.declared.day_files.DayFiles.{DayFiles}
use Rattle.gl_day_claims.specs.Asked.{AreAsked, AreAskedIn}
use Rattle.gl_day_claims.specs.DayChecked.{IsDayChecked, IsSaidBehind}
use Rattle.gl_day_claims.proofs.Flights.{asked-push}

-- so many claims are expected of some entrants, and those of a file so far prove them
pub record AreChecked (folder : Option FilesByName) (day : DayFiles) (file : List ℕ) (most : ℕ) (entrants : List Entrant) (claims : ClaimsFile) (count : ℕ) : Type 0 where
  pub expected : List Expected
  pub asked : AreAsked folder day.task day.airspace entrants expected
  pub counted : IsCount count expected
  pub proved : HasProved folder file most expected claims

-- none of none
pub AreChecked-none : (folder : Option FilesByName) (day : DayFiles) (file : List ℕ) (most : ℕ) (claims : ClaimsFile) → HasSaid folder file most [] claims
    → AreChecked folder day file most (take 0 day.task.entrants) claims 0
AreChecked-none folder day file most claims has =
    record { expected = []; asked = refl; counted = refl; proved = record { said = []; each = tt; has = has } }

asked_more : (folder : Option FilesByName) (day : DayFiles) (i : ℕ) (e : Entrant) (claims more : List Expected) → i < length day.task.entrants → e ≡ get_or day.task.entrants i e
    → AreAsked folder day.task day.airspace (take i day.task.entrants) claims → AreAskedIn folder day.task day.airspace e more
    → AreAsked folder day.task day.airspace (take (i + 1) day.task.entrants) (claims ++ more)
asked_more folder day i e claims more below item asked last =
    let all = day.task.entrants in
    let next = take_more all i e below ∙ ap (λ (o : Entrant). take i all ++ o ∷ []) (sym item) in
    subst (λ (l : List Entrant). AreAsked folder day.task day.airspace l (claims ++ more)) (sym next)
    (asked-push folder day.task day.airspace (take i all) e claims more asked last)

-- those of one entrant more are proved
pub AreChecked-more : (folder : Option FilesByName) (day : DayFiles) (file : List ℕ) (most : ℕ) (i : ℕ) (e : Entrant) (goals : List (ClaimKind × AnyGoal)) (old claims : ClaimsFile)
    (count long next : ℕ)
    → i < length day.task.entrants → e ≡ get_or day.task.entrants i e → (so_far : AreChecked folder day file most (take i day.task.entrants) old count)
    → AreAskedIn folder day.task day.airspace e (expected_of e.number (rules_of_claims goals)) → long ≡ length goals → next ≡ min (count + long) (2 ^ 64 - 1)
    → HasProved folder file most (so_far.expected ++ expected_of e.number (rules_of_claims goals)) claims → AreChecked folder day file most (take (i + 1) day.task.entrants) claims next
AreChecked-more folder day file most i e goals old claims count long next below item so_far asked is_long is_next proved =
    let more = expected_of e.number (rules_of_claims goals) in
    record {
      expected = so_far.expected ++ more;
      asked = asked_more folder day i e so_far.expected more below item so_far.asked asked;
      counted = omega (arith, length-append so_far.expected more, length-claims_for e.number goals, so_far.counted, is_long, is_next);
      proved = proved;
    }

said_behind : (others : List Entrant) (expected : List Expected) (statements : List Statement) (wrong : NotProved) → IsNotProved expected statements wrong
    → IsSaidBehind others expected statements (Refused wrong)
said_behind [] expected statements wrong is = inl is
said_behind (e ∷ others) expected statements wrong is = (wrong, refl, is)

-- one of them is the first that is wrong
pub checked_wrong : (folder : Option FilesByName) (day : DayFiles) (file : List ℕ) (most : ℕ) (i : ℕ) (e : Entrant) (goals : List (ClaimKind × AnyGoal)) (old claims : ClaimsFile) (count : ℕ)
    (wrong : NotProved)
    → i < length day.task.entrants → e ≡ get_or day.task.entrants i e → (so_far : AreChecked folder day file most (take i day.task.entrants) old count)
    → AreAskedIn folder day.task day.airspace e (expected_of e.number (rules_of_claims goals))
    → HasFound folder file most (λ statements. IsNotProved (so_far.expected ++ expected_of e.number (rules_of_claims goals)) statements wrong) claims
    → HasFound folder file most (λ statements. IsDayChecked folder day statements (Refused wrong)) claims
checked_wrong folder day file most i e goals old claims count wrong below item so_far asked found =
    let more = expected_of e.number (rules_of_claims goals) in
    found_so folder file most claims (λ statements. IsNotProved (so_far.expected ++ more) statements wrong) (λ statements. IsDayChecked folder day statements (Refused wrong))
    (λ statements is. record {
      entrants = take (i + 1) day.task.entrants;
      others = drop (i + 1) day.task.entrants;
      are = sym (take-append-drop (i + 1) day.task.entrants);
      expected = so_far.expected ++ more;
      asked = asked_more folder day i e so_far.expected more below item so_far.asked asked;
      is = said_behind (drop (i + 1) day.task.entrants) (so_far.expected ++ more) statements wrong is;
    }) found

-- none of all entrants is wrong
pub checked_end : (folder : Option FilesByName) (day : DayFiles) (file : List ℕ) (most : ℕ) (claims : ClaimsFile) (count : ℕ) (said : Checked)
    → (so_far : AreChecked folder day file most day.task.entrants claims count) → HasFound folder file most (λ statements. IsChecked so_far.expected statements said) claims
    → HasFound folder file most (λ statements. IsDayChecked folder day statements said) claims
checked_end folder day file most claims count said so_far found =
    found_so folder file most claims (λ statements. IsChecked so_far.expected statements said) (λ statements. IsDayChecked folder day statements said)
    (λ statements is. record {
      entrants = day.task.entrants;
      others = [];
      are = sym (append-nil day.task.entrants);
      expected = so_far.expected;
      asked = so_far.asked;
      is = is;
    }) found
