-- The members for whose teams no later one flies: each team stands among them once.
use Rattle.std.proofs.Common.{◌≡◌, ◌∙◌, sym, ap, subst, refl, ℕ, suc, ◌≤◌, Bool, true, false, ◌||◌, List, [], ◌∷◌, ◌++◌, length, get_or, arith, ⊎_elim}
use Rattle.std.specs.Prelude.{All, Contains, cond, count_by}
use Rattle.std.proofs.lemmas.Bool.{cases_Bool}
use Rattle.std.proofs.lemmas.List.Elements.{All-cons, All-nil, All-weaker}
use Rattle.std.proofs.lemmas.List.Folds.{list_any_at}
use Rattle.std.proofs.lemmas.List.Sums.{sum_by-cons}
use Rattle.gl_series.specs.declared.series.Member.{Member}
use Rattle.gl_text.specs.Forms.{is_text}
use Rattle.gl_series.specs.Code.Tallies.{has_team, last_members}
use Rattle.gl_series.proofs.Beside.{text_is, text_same}

-- each of them is a member
pub last_are_members : (members : List Member) → All (Contains members) (last_members members)
last_are_members [] = All-nil (Contains [])
last_are_members (member ∷ members) =
    let rest = All-weaker (Contains members) (Contains (member ∷ members)) (λ other has. (suc has.0, omega (arith, has.1), has.2)) (last_members members) (last_are_members members) in
    ⊎_elim
    (λ (later : has_team member.team members ≡ true). subst (λ (b : Bool). All (Contains (member ∷ members)) (cond b [] (member ∷ []) ++ last_members members)) (sym later) rest)
    (λ (last : has_team member.team members ≡ false). subst (λ (b : Bool). All (Contains (member ∷ members)) (cond b [] (member ∷ []) ++ last_members members)) (sym last)
    (All-cons (Contains (member ∷ members)) member (last_members members) (0, omega arith, refl) rest))
    (cases_Bool (has_team member.team members))

pub last_fewer : (members : List Member) → length (last_members members) ≤ length members
last_fewer [] = omega arith
last_fewer (member ∷ members) =
    let rest = last_fewer members in
    ⊎_elim
    (λ (later : has_team member.team members ≡ true).
    let long : length (last_members (member ∷ members)) ≡ length (last_members members) = ap (λ (b : Bool). length (cond b [] (member ∷ []) ++ last_members members)) later in
    omega (arith, long, rest))
    (λ (last : has_team member.team members ≡ false).
    let long : length (last_members (member ∷ members)) ≡ suc (length (last_members members)) = ap (λ (b : Bool). length (cond b [] (member ∷ []) ++ last_members members)) last in
    omega (arith, long, rest))
    (cases_Bool (has_team member.team members))

-- a team, counted among them
module _ (team : List ℕ) where
  abbrev is_member : Member → Bool
  is_member member = is_text team member.team

  abbrev worth : Member → ℕ
  worth member = cond (is_member member) 1 0

  pub team_counted : (members : List Member) → count_by is_member (last_members members) ≡ cond (has_team team members) 1 0
  team_counted [] = refl
  team_counted (member ∷ members) =
      let rest = team_counted members in
      let goal : Bool → ℕ = λ b. cond (b || has_team team members) 1 0 in
      let kept : Bool → List Member = λ b. cond b [] (member ∷ []) ++ last_members members in
      ⊎_elim
      (λ (is : is_member member ≡ true).
      let same = text_same team member.team is in
      ⊎_elim
      (λ (later : has_team member.team members ≡ true).
      let found : has_team team members ≡ true = ap (λ (t : List ℕ). has_team t members) same ∙ later in
      ap (λ (b : Bool). count_by is_member (kept b)) later ∙ rest ∙ ap (λ (b : Bool). cond b 1 0) found ∙ sym (ap goal is))
      (λ (last : has_team member.team members ≡ false).
      let lacks : has_team team members ≡ false = ap (λ (t : List ℕ). has_team t members) same ∙ last in
      let one : worth member ≡ 1 = ap (λ (b : Bool). cond b 1 0) is in
      let none : count_by is_member (last_members members) ≡ 0 = rest ∙ ap (λ (b : Bool). cond b 1 0) lacks in
      let whole : count_by is_member (member ∷ last_members members) ≡ 1 = omega (arith, one, none, sum_by-cons worth member (last_members members)) in
      ap (λ (b : Bool). count_by is_member (kept b)) last ∙ whole ∙ sym (ap goal is))
      (cases_Bool (has_team member.team members)))
      (λ (is : is_member member ≡ false).
      let nothing : worth member ≡ 0 = ap (λ (b : Bool). cond b 1 0) is in
      let whole : count_by is_member (member ∷ last_members members) ≡ count_by is_member (last_members members) = omega (arith, nothing, sum_by-cons worth member (last_members members)) in
      ⊎_elim
      (λ (later : has_team member.team members ≡ true). ap (λ (b : Bool). count_by is_member (kept b)) later ∙ rest ∙ sym (ap goal is))
      (λ (last : has_team member.team members ≡ false). ap (λ (b : Bool). count_by is_member (kept b)) last ∙ whole ∙ rest ∙ sym (ap goal is))
      (cases_Bool (has_team member.team members)))
      (cases_Bool (is_member member))

pub team_found : (members : List Member) (member : Member) → Contains members member → has_team member.team members ≡ true
team_found members member has = list_any_at (λ other. is_text member.team other.team) members has.0 member has.1
    (text_is member.team (get_or members has.0 member).team (ap (λ (m : Member). m.team) (sym has.2)))
