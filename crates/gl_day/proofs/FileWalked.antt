-- How a check of a file goes on from claim to claim.
use Rattle.std.proofs.Common.{◌≡◌, ◌∙◌, sym, ap, subst, refl, inr, ℕ, ◌+◌, ◌-◌, ◌^◌, ◌<◌, List, [], ◌∷◌, ◌++◌, length, take, drop, get_or, Option, Some, None, arith, append_assoc, append-nil}
use Rattle.std.specs.Prelude.{min}
use Rattle.std.specs.List.{AllZip}
use Rattle.std.proofs.lemmas.List.{length-append, take-append-drop, take_more}
use Rattle.gl_check.specs.File.{HasClaimNext, HasSaid, NoClaimNext}
use Rattle.gl_check.specs.declared.claims_file.ClaimsFile.{ClaimsFile}
use Rattle.gl_desk.specs.Desk.{FilesByName}
use Rattle.gl_goal.specs.AnyGoal.{any_rule}
use Rattle.gl_goal.specs.declared.any.AnyGoal.{AnyGoal}
use Rattle.gl_proof.specs.Claim.{Statement}
use Rattle.gl_proof.specs.declared.claim.ClaimKind.{ClaimKind}
use Rattle.gl_text.proofs.Lists.{AllZip-length, AllZip-push}
use Rattle.gl_day.specs.Checked.{AreProved, IsChecked, IsFaultAt, IsNotProved}
use Rattle.gl_day.specs.Code.Found.{IsFoundAt}
use Rattle.gl_day.specs.Expected.{Expected, Proves}
use Rattle.gl_day.specs.FileChecked.{HasFault, HasFound, HasProved, IsCount, IsFoundAhead}
use Rattle.gl_day.specs.declared.fault.Checked.TheVariants.{Accepted, Refused}
use Rattle.gl_day.specs.declared.fault.Fault.{Fault}
use Rattle.gl_day.specs.declared.fault.Fault.TheVariants.{Missing, Surplus}
use Rattle.gl_day.specs.declared.fault.NotProved.{NotProved}
use Rattle.gl_day.proofs.Checks.{not_proved_more}
use Rattle.gl_day.proofs.Walked.{claims_for, claims_for-append, there}

-- a claim came, and this was found of it
pub claim_found : (folder : Option FilesByName) (file : List ℕ) (most : ℕ) (said : List Statement) (e : Expected) (claims : ClaimsFile) (s : Statement) (fault : Option Fault)
    → IsFoundAt e (Some s) fault
    → HasSaid folder file most (said ++ s ∷ []) claims → IsFoundAhead folder file most said e claims fault
claim_found folder file most said e claims s None found has = (s, found, has)
claim_found folder file most said e claims s (Some fault) found has =
    record { said = said ++ s ∷ []; has = has; is = λ others left. (s ∷ others, append_assoc said (s ∷ []) others, found) }

-- none came
pub none_found : (folder : Option FilesByName) (file : List ℕ) (most : ℕ) (said : List Statement) (e : Expected) (claims : ClaimsFile) → NoClaimNext claims → HasSaid folder file most said claims
    → HasFault folder file most said e claims Missing
none_found folder file most said e claims none has =
    record { said = said; has = has; is = λ others left. ([], ap (λ (l : List Statement). said ++ l) (none others left), refl) }

-- one claim more is proved
pub right_ahead : (folder : Option FilesByName) (file : List ℕ) (most : ℕ) (before : List Expected) (e : Expected) (old claims : ClaimsFile) (proved : HasProved folder file most before old)
    → IsFoundAhead folder file most proved.said e claims None → HasProved folder file most (before ++ e ∷ []) claims
right_ahead folder file most before e old claims proved (s, proves, has) =
    record { said = proved.said ++ s ∷ []; each = AllZip-push Proves before proved.said e s proved.each proves; has = has }

-- the next one is wrong
pub wrong_ahead : (folder : Option FilesByName) (file : List ℕ) (most : ℕ) (before : List Expected) (e : Expected) (old claims : ClaimsFile) (proved : HasProved folder file most before old)
    (wrong : NotProved)
    → HasFault folder file most proved.said e claims wrong.fault → wrong.claim ≡ min (length before + 1) (2 ^ 64 - 1)
    → HasFound folder file most (λ statements. IsNotProved (before ++ e ∷ []) statements wrong) claims
wrong_ahead folder file most before e old claims proved wrong found number = record {
  said = found.said;
  has = found.has;
  is = λ others left few.
      let at = found.is others left in
      let all : AreProved before (found.said ++ others) = record { proved = proved.said; rest = at.0; are = at.1; each = proved.each } in
      record {
        before = before;
        next = e;
        behind = [];
        are = refl;
        proved = all;
        number = omega (arith, number, few, ap length at.1, length-append proved.said at.0, AllZip-length Proves before proved.said proved.each);
        fault = subst (λ (s : Option Statement). IsFaultAt e s wrong.fault) (sym (there before (found.said ++ others) (length before) all refl)) at.2;
      };
}

-- what is found of all claims tells something else of them
pub found_so : (folder : Option FilesByName) (file : List ℕ) (most : ℕ) (claims : ClaimsFile) (Is So : List Statement → Type 0) → ((statements : List Statement) → Is statements → So statements)
    → HasFound folder file most Is claims → HasFound folder file most So claims
found_so folder file most claims Is So so found =
    record { said = found.said; has = found.has; is = λ others left few. so (found.said ++ others) (found.is others left few) }

-- no goal comes first
pub none_ahead : (folder : Option FilesByName) (file : List ℕ) (most : ℕ) (before : List Expected) (number : List ℕ) (goals : List (ClaimKind × AnyGoal)) (claims : ClaimsFile)
    → HasProved folder file most before claims → HasProved folder file most (before ++ claims_for number (take 0 goals)) claims
none_ahead folder file most before number goals claims proved =
    subst (λ (l : List Expected). HasProved folder file most l claims) (sym (append-nil before)) proved

-- the claims of one goal more are expected
one_more : (number : List ℕ) (goals : List (ClaimKind × AnyGoal)) (i : ℕ) (g : ClaimKind × AnyGoal) (before : List Expected) → i < length goals → g ≡ get_or goals i g
    → (before ++ claims_for number (take i goals)) ++ (record { number = number; kind = g.0; rule = any_rule g.1 }) ∷ [] ≡ before ++ claims_for number (take (i + 1) goals)
one_more number goals i g before below item =
    let next = take_more goals i g below ∙ ap (λ (x : ClaimKind × AnyGoal). take i goals ++ x ∷ []) (sym item) in
    let e : Expected = record { number = number; kind = g.0; rule = any_rule g.1 } in
    append_assoc before (claims_for number (take i goals)) (e ∷ [])
    ∙ ap (λ (l : List Expected). before ++ l) (sym (ap (claims_for number) next ∙ claims_for-append number (take i goals) (g ∷ [])))

pub goal_right : (folder : Option FilesByName) (file : List ℕ) (most : ℕ) (before : List Expected) (number : List ℕ) (goals : List (ClaimKind × AnyGoal)) (i : ℕ) (g : ClaimKind × AnyGoal)
    (old claims : ClaimsFile)
    → i < length goals → g ≡ get_or goals i g → (proved : HasProved folder file most (before ++ claims_for number (take i goals)) old)
    → IsFoundAhead folder file most proved.said (record { number = number; kind = g.0; rule = any_rule g.1 }) claims None
    → HasProved folder file most (before ++ claims_for number (take (i + 1) goals)) claims
goal_right folder file most before number goals i g old claims below item proved found =
    let e : Expected = record { number = number; kind = g.0; rule = any_rule g.1 } in
    subst (λ (l : List Expected). HasProved folder file most l claims) (one_more number goals i g before below item)
    (right_ahead folder file most (before ++ claims_for number (take i goals)) e old claims proved found)

-- and are a part of those of all goals
all_goals : (number : List ℕ) (goals : List (ClaimKind × AnyGoal)) (i : ℕ) (before : List Expected)
    → (before ++ claims_for number (take i goals)) ++ claims_for number (drop i goals) ≡ before ++ claims_for number goals
all_goals number goals i before =
    append_assoc before (claims_for number (take i goals)) (claims_for number (drop i goals))
    ∙ ap (λ (l : List Expected). before ++ l) (sym (claims_for-append number (take i goals) (drop i goals)) ∙ ap (claims_for number) (take-append-drop i goals))

pub goal_wrong : (folder : Option FilesByName) (file : List ℕ) (most : ℕ) (before : List Expected) (number : List ℕ) (goals : List (ClaimKind × AnyGoal)) (i : ℕ) (g : ClaimKind × AnyGoal)
    (old claims : ClaimsFile) (wrong : NotProved)
    → i < length goals → g ≡ get_or goals i g → (proved : HasProved folder file most (before ++ claims_for number (take i goals)) old)
    → HasFault folder file most proved.said (record { number = number; kind = g.0; rule = any_rule g.1 }) claims wrong.fault
    → wrong.claim ≡ min (length (before ++ claims_for number (take i goals)) + 1) (2 ^ 64 - 1)
    → HasFound folder file most (λ statements. IsNotProved (before ++ claims_for number goals) statements wrong) claims
goal_wrong folder file most before number goals i g old claims wrong below item proved found claim =
    let e : Expected = record { number = number; kind = g.0; rule = any_rule g.1 } in
    let so_far = before ++ claims_for number (take i goals) in
    let first = wrong_ahead folder file most so_far e old claims proved wrong found claim in
    found_so folder file most claims (λ statements. IsNotProved (so_far ++ e ∷ []) statements wrong) (λ statements. IsNotProved (before ++ claims_for number goals) statements wrong)
    (λ statements is. subst (λ (l : List Expected). IsNotProved l statements wrong) (all_goals number goals (i + 1) before)
    (not_proved_more (before ++ claims_for number (take (i + 1) goals)) (claims_for number (drop (i + 1) goals)) statements wrong
    (subst (λ (l : List Expected). IsNotProved l statements wrong) (one_more number goals i g before below item) is))) first

-- a claim more than is expected
pub more_left : (folder : Option FilesByName) (file : List ℕ) (most : ℕ) (before : List Expected) (claims : ClaimsFile) (wrong : NotProved) → HasClaimNext claims
    → HasProved folder file most before claims
    → wrong.fault ≡ Surplus → wrong.claim ≡ min (length before + 1) (2 ^ 64 - 1) → HasFound folder file most (λ statements. IsChecked before statements (Refused wrong)) claims
more_left folder file most before claims wrong next proved surplus number = record {
  said = proved.said;
  has = proved.has;
  is = λ others left few.
      let long = AllZip-length Proves before proved.said proved.each in
      let counted = length-append proved.said others in
      inr (record {
        proved = record { proved = proved.said; rest = others; are = refl; each = proved.each };
        more = omega (arith, next others left, long, counted);
        number = omega (arith, number, few, long, counted);
        fault = surplus;
      });
}

-- no claim more
pub none_more : (folder : Option FilesByName) (file : List ℕ) (most : ℕ) (before : List Expected) (claims : ClaimsFile) (count : ℕ) → NoClaimNext claims → HasProved folder file most before claims
    → IsCount count before → HasFound folder file most (λ statements. IsChecked before statements (Accepted count)) claims
none_more folder file most before claims count next proved counted = record {
  said = proved.said;
  has = proved.has;
  is = λ others left few.
      let long = AllZip-length Proves before proved.said proved.each in
      let none = next others left in
      let all : proved.said ++ others ≡ proved.said = ap (λ (l : List Statement). proved.said ++ l) none ∙ append-nil proved.said in
      (subst (AllZip Proves before) (sym all) proved.each, omega (arith, counted, few, long, length-append proved.said others));
}
