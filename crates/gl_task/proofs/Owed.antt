-- What the stewards owe, by the fixes of a flight one after the other.
use Rattle.std.proofs.Common.{◌≡◌, refl, sym, ap, ◌∙◌, ℕ, ◌+◌, ◌-◌, ◌≤◌, max, min, suc, List, [], ◌∷◌, fold, Option, None, Some, arith, inl, inr}
use Rattle.std.specs.Prelude.{All, ◌⊎◌, Bool, true, false, cond, nat_le, if◌then◌else◌, option_map, MatchOption, ◌==◌, ℤ}
use Rattle.std.specs.List.{Any, count_by}
use Rattle.std.proofs.lemmas.Bool.{cases_lt}
use Rattle.std.proofs.lemmas.Bool.Decides.{nat_tests}
use Rattle.std.proofs.lemmas.List.Elements.{All-nil, All-cons}
use Rattle.std.proofs.lemmas.List.Sums.{sum_by-cons}
use Rattle.gl_igc.specs.declared.fix.Fix.{Fix}
use Rattle.gl_task.specs.Ceiling.{ceiling_fed, ceiling_list, ceiling_owed, height}
use Rattle.gl_task.specs.EngineNoise.{is_noisy, noise_fed, noise_list, noise_owed}
use Rattle.gl_task.specs.Laws.{CeilingOwesTheGreatest, EngineNoiseOwesFromThreeOn, IsGreatestAbove}

-- what is owed at a ceiling where so much is owed before the fixes
abbrev raised : ℕ → ℕ → List Fix → ℕ
raised ceiling above fixes = ceiling_owed (fold ceiling_fed (1 ∷ ceiling ∷ above ∷ []) fixes)

-- the fixes raise what is owed from so much
record Raises (ceiling above : ℕ) (fixes : List Fix) (owed : ℕ) : Type 0 where
  at_least : above ≤ owed
  none_higher : All (λ fix. height fix.alt ≤ ceiling + owed) fixes
  reached : (owed ≡ above) ⊎ Any (λ fix. height fix.alt ≡ ceiling + owed) fixes

-- where the first fix raises it last
raised_first : (ceiling above : ℕ) (fix : Fix) (fixes : List Fix) (owed : ℕ) → owed ≡ max above (height fix.alt - ceiling) → (owed ≡ above) ⊎ Any (λ fix. height fix.alt ≡ ceiling + owed) (fix ∷ fixes)
raised_first ceiling above fix fixes owed is = elim (cases_lt above (height fix.alt - ceiling)) [
  | inl less ↦ let e : height fix.alt ≡ ceiling + owed = omega (arith, is, less) in inr (0, fix, omega arith, refl, e)
  | inr most ↦ let e : owed ≡ above = omega (arith, is, most) in inl e
]

raises : (ceiling above : ℕ) (fixes : List Fix) → Raises ceiling above fixes (raised ceiling above fixes)
raises ceiling above [] = record { at_least = omega arith; none_higher = All-nil _; reached = inl refl }
raises ceiling above (fix ∷ fixes) =
    let next = max above (height fix.alt - ceiling) in
    let owed = raised ceiling next fixes in
    let rest : Raises ceiling next fixes owed = raises ceiling next fixes in
    let P : Fix → Type 0 = λ fix. height fix.alt ≤ ceiling + owed in
    let here : P fix = omega (arith, rest.at_least) in
    let low : above ≤ owed = omega (arith, rest.at_least) in
    record {
      at_least = low;
      none_higher = All-cons P fix fixes here rest.none_higher;
      reached = elim rest.reached [
        | inl same ↦ raised_first ceiling above fix fixes owed same
        | inr later ↦ inr (suc later.0, later.1, omega (arith, later.2), later.3, later.4)
      ];
    }

-- without a ceiling the list stays as it is
unraised : (fixes : List Fix) → ceiling_owed (fold ceiling_fed (ceiling_list None 0) fixes) ≡ 0
unraised [] = refl
unraised (fix ∷ fixes) = unraised fixes

greatest_owed : (ceiling : ℕ) (fixes : List Fix) → IsGreatestAbove ceiling fixes (raised ceiling 0 fixes)
greatest_owed ceiling fixes =
    let is = raises ceiling 0 fixes in
    record { none_higher = is.none_higher; reached = is.reached }

ceiling_or_none : (ceiling : Option ℤ) (fixes : List Fix) → let owed = ceiling_owed (fold ceiling_fed (ceiling_list (option_map height ceiling) 0) fixes) in
    MatchOption ceiling (owed ≡ 0) (λ metres. IsGreatestAbove (height metres) fixes owed)
ceiling_or_none None fixes = unraised fixes
ceiling_or_none (Some ceiling) fixes = greatest_owed (height ceiling) fixes

pub greatest_is_owed : CeilingOwesTheGreatest
greatest_is_owed rules fixes = ceiling_or_none rules.ceiling fixes

-- how many fixes of a flight are noisy
abbrev noisy_count : ℕ → List Fix → ℕ
noisy_count level fixes = count_by (λ fix. is_noisy level fix.enl) fixes

-- the count is limited once or at each fix
limited_once : (is : Bool) (noisy rest : ℕ) → min 3 ((if is then min 3 (noisy + 1) else noisy) + rest) ≡ min 3 (noisy + (cond is 1 0 + rest))
limited_once true noisy rest = omega arith
limited_once false noisy rest = omega arith

few_still : (is : Bool) (noisy : ℕ) → noisy ≤ 3 → (if is then min 3 (noisy + 1) else noisy) ≤ 3
few_still true noisy few = omega arith
few_still false noisy few = few

counted : (level points noisy : ℕ) (fixes : List Fix) → noisy ≤ 3 → fold noise_fed (1 ∷ level ∷ points ∷ noisy ∷ []) fixes ≡ 1 ∷ level ∷ points ∷ min 3 (noisy + noisy_count level fixes) ∷ []
counted level points noisy [] few =
    let e : noisy ≡ min 3 (noisy + 0) = omega arith in
    ap (λ n. 1 ∷ level ∷ points ∷ n ∷ []) e
counted level points noisy (fix ∷ fixes) few =
    let is = is_noisy level fix.enl in
    let next = if is then min 3 (noisy + 1) else noisy in
    counted level points next fixes (few_still is noisy few)
    ∙ ap (λ n. 1 ∷ level ∷ points ∷ n ∷ []) (limited_once is noisy (noisy_count level fixes) ∙ ap (λ n. min 3 (noisy + n)) (sym (sum_by-cons (λ (x : Fix). cond (is_noisy level x.enl) 1 0) fix fixes)))

three_on : (n : ℕ) → (min 3 (0 + n) == 3) ≡ nat_le 3 n
three_on n = grind (arith, nat_tests)

unheard : (points : ℕ) (fixes : List Fix) → noise_owed (fold noise_fed (noise_list None points 0) fixes) ≡ 0
unheard points [] = refl
unheard points (fix ∷ fixes) = unheard points fixes

level_or_none : (level : Option ℕ) (points : ℕ) (fixes : List Fix) → let owed = noise_owed (fold noise_fed (noise_list level points 0) fixes) in
    MatchOption level (owed ≡ 0) (λ least. owed ≡ if nat_le 3 (noisy_count least fixes) then points else 0)
level_or_none None points fixes = unheard points fixes
level_or_none (Some level) points fixes =
    ap noise_owed (counted level points 0 fixes (omega arith))
    ∙ ap (λ b. if b then points else 0) (three_on (noisy_count level fixes))

pub three_are_owed : EngineNoiseOwesFromThreeOn
three_are_owed rules fixes = level_or_none rules.engine_level rules.engine_points fixes
