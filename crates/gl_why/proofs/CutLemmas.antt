-- Where airspace ends the judged fixes, and where it doesn't.
use Rattle.std.proofs.Common.{◌≡◌, ◌∙◌, sym, ap, subst, ℕ, ◌<◌, ◌≤◌, Bool, true, false, List, [], ◌∷◌, length, Option, None, Some, ℤ, pos, ◌<ℤ◌, ◌≤ℤ◌, arith}
use Rattle.std.specs.Prelude.{int_lt, position, slice_get, unwrap_or}
use Rattle.std.specs.List.{list_any}
use Rattle.std.proofs.lemmas.Bool.{false≢true}
use Rattle.std.proofs.lemmas.Int.{ints}
use Rattle.std.proofs.lemmas.List.Folds.{Any-from_list_any, list_any_at}
use Rattle.std.proofs.lemmas.List.Quantifiers.{position-Some}
use Rattle.std.proofs.lemmas.Option.{slice_get-get_or, slice_get_within}
use Rattle.gl_airspace.specs.Inside.{is_inside}
use Rattle.gl_airspace.specs.declared.volume.Volume.{Volume}
use Rattle.gl_igc.specs.declared.fix.Fix.{Fix}
use Rattle.gl_judge.proofs.Fronts.{front, front-before}
use Rattle.gl_judge.specs.JudgedFixes.{is_in_airspace}
use Rattle.gl_why.specs.Cuts.{IsEntry}

-- a place that isn't found
no_place : {X : Type 0} (p : X → Bool) (xs : List X) → position p xs ≡ None → list_any p xs ≡ true → ⊥
no_place p xs none any =
    let found = Any-from_list_any p xs any in
    let within : found.0 < length xs = found.2 in
    let all : front p xs ≡ length xs = ap (λ (o : Option ℕ). unwrap_or o (length xs)) none in
    let before : found.0 < front p xs = omega (arith, all, within) in
    let is : slice_get xs found.0 ≡ Some found.1 = slice_get-get_or xs found.0 found.1 within ∙ ap Some found.3 in
    false≢true (sym (front-before p xs found.0 found.1 is before) ∙ found.4)

same_fix : (closes : ℤ) (volumes : List Volume) (fixes : List Fix) (number : ℕ) (fix : Fix) → slice_get fixes number ≡ Some fix → (entry : IsEntry closes volumes fixes number) → entry.fix ≡ fix
same_fix closes volumes fixes number fix is entry = let e : slice_get fixes number ≡ Some entry.fix = entry.is in cc

-- what isn't less is at least
pub at_least : (a b : ℤ) → int_lt a b ≡ false → b ≤ℤ a
at_least a b no_less = grind (arith, ints)

-- a number that no fix has
pub past_end : (closes : ℤ) (volumes : List Volume) (fixes : List Fix) (number : ℕ) → length fixes ≤ number → IsEntry closes volumes fixes number → ⊥
past_end closes volumes fixes number past entry =
    let within : number < length fixes = slice_get_within fixes number entry.fix entry.is in
    omega arith

-- a fix before the beginning of the day
pub before_day : (closes : ℤ) (volumes : List Volume) (fixes : List Fix) (number : ℕ) (fix : Fix) → slice_get fixes number ≡ Some fix → fix.second <ℤ pos 0 → IsEntry closes volumes fixes number → ⊥
before_day closes volumes fixes number fix is early entry =
    let of_day : pos 0 ≤ℤ fix.second = subst (λ (f : Fix). pos 0 ≤ℤ f.second) (same_fix closes volumes fixes number fix is entry) entry.of_day in
    omega (arith, ints)

-- a fix that is too late
pub after_end : (closes : ℤ) (volumes : List Volume) (fixes : List Fix) (number : ℕ) (fix : Fix) → slice_get fixes number ≡ Some fix → closes <ℤ fix.second → IsEntry closes volumes fixes number → ⊥
after_end closes volumes fixes number fix is late entry =
    let in_time : fix.second ≤ℤ closes = subst (λ (f : Fix). f.second ≤ℤ closes) (same_fix closes volumes fixes number fix is entry) entry.in_time in
    omega (arith, ints)

-- a fix inside no volume
pub outside : (closes : ℤ) (volumes : List Volume) (fixes : List Fix) (number : ℕ) (fix : Fix) → slice_get fixes number ≡ Some fix → position (λ (volume : Volume). is_inside volume fix) volumes ≡ None
    → IsEntry closes volumes fixes number → ⊥
outside closes volumes fixes number fix is none entry =
    let inside : is_in_airspace volumes fix ≡ true = subst (λ (f : Fix). is_in_airspace volumes f ≡ true) (same_fix closes volumes fixes number fix is entry) entry.inside in
    no_place (λ (volume : Volume). is_inside volume fix) volumes none inside

-- a fix inside a volume
pub entered : (volumes : List Volume) (fix : Fix) (k : ℕ) → position (λ (volume : Volume). is_inside volume fix) volumes ≡ Some k → is_in_airspace volumes fix ≡ true
entered [] fix k is = absurd (cc)
entered (first ∷ volumes) fix k is =
    let found = position-Some (λ (volume : Volume). is_inside volume fix) (first ∷ volumes) k first is in
    list_any_at (λ (volume : Volume). is_inside volume fix) (first ∷ volumes) k first found.0 found.1

-- which is one of them
pub among : (volumes : List Volume) (fix : Fix) (k : ℕ) → position (λ (volume : Volume). is_inside volume fix) volumes ≡ Some k → k < length volumes
among [] fix k is = absurd (cc)
among (first ∷ volumes) fix k is = (position-Some (λ (volume : Volume). is_inside volume fix) (first ∷ volumes) k first is).0
