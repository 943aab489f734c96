-- Digits and lines, one after the other.
use Rattle.std.proofs.Common.{◌≡◌, ℕ, zero, suc, ◌+◌, ◌-◌, ◌/◌, ◌%◌, ◌<◌, List, [], ◌∷◌, ◌++◌, arith, append-nil, append_assoc, map, codes}
use Rattle.std.specs.List.{concat, range_with_len}
use Rattle.std.proofs.lemmas.List.Folds.{concat-append}
use Rattle.std.proofs.lemmas.List.FromFn.{map-range_with_len_more}
use Rattle.gl_text.specs.Numbers.{last_digits}
use Rattle.gl_demo.specs.declared.place.Place.{Place}
use Rattle.gl_demo.specs.Line.{angle_columns, b_line, clock_columns}

-- the digits of a number are those of its tenth and its own last one
pub last_digits-step : (width n : ℕ) → 0 < width → last_digits width n ≡ last_digits (width - 1) (n / 10) ++ ((48 + n % 10) ∷ [])
last_digits-step zero n some = absurd (omega arith)
last_digits-step (suc width) n some =
    let less : suc width - 1 ≡ width = omega arith in
    rw less

-- one more text
pub concat-more : (f : ℕ → List ℕ) (n : ℕ) → concat (map f (range_with_len 0 (n + 1))) ≡ concat (map f (range_with_len 0 n)) ++ f n
concat-more f n =
    rw (map-range_with_len_more f 0 n n (omega arith), concat-append, append-nil)

-- digits behind those that were pushed before
pub digits-pushed : (old before now : List ℕ) (width n : ℕ) → 0 < width → before ≡ old ++ last_digits (width - 1) (n / 10) → now ≡ before ++ ((48 + n % 10) ∷ []) → now ≡ old ++ last_digits width n
digits-pushed old before now width n some is-before is-now =
    rw (last_digits-step width n some, ← append_assoc, ← is-before) is-now

-- eight texts behind another
eight : (old a b c d e f g h : List ℕ) → old ++ a ++ b ++ c ++ d ++ e ++ f ++ g ++ h ≡ old ++ (a ++ b ++ c ++ d ++ e ++ f ++ g ++ h)
eight old a b c d e f g h = simp append_assoc

-- the pieces of a line, pushed one by one
pub line-pushed : (second : ℕ) (place : Place) (old t₁ t₂ t₃ t₄ t₅ t₆ t₇ t₈ : List ℕ) → t₁ ≡ old ++ 66 ∷ [] → t₂ ≡ t₁ ++ clock_columns second → t₃ ≡ t₂ ++ angle_columns 2 78 place.latitude
    → t₄ ≡ t₃ ++ angle_columns 3 69 place.longitude → t₅ ≡ t₄ ++ codes "A0150001500005" → t₆ ≡ t₅ ++ last_digits 2 (place.latitude % 100) → t₇ ≡ t₆ ++ last_digits 2 (place.longitude % 100)
    → t₈ ≡ t₇ ++ 10 ∷ [] → t₈ ≡ old ++ b_line second place
unfolding b_line
line-pushed second place old t₁ t₂ t₃ t₄ t₅ t₆ t₇ t₈ h₁ h₂ h₃ h₄ h₅ h₆ h₇ h₈ =
    rw (h₈, h₇, h₆, h₅, h₄, h₃, h₂, h₁) (eight old (codes "B") (clock_columns second) (angle_columns 2 78 place.latitude) (angle_columns 3 69 place.longitude) (codes "A0150001500005")
    (last_digits 2 (place.latitude % 100)) (last_digits 2 (place.longitude % 100)) (10 ∷ []))
