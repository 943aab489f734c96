-- The number of workers that a word writes.
use Rattle.std.proofs.Common.{◌≡◌, ◌∙◌, sym, ap, ℕ, ◌<◌, ◌≤◌, Bool, true, false, ◌&&◌, List, ⊎_elim, arith}
use Rattle.std.specs.Prelude.{◌^◌}
use Rattle.std.specs.Fmt.{decimal}
use Rattle.std.specs.Str.Parse.{AllDigits, digits_value}
use Rattle.std.specs.Cmp.Lexicographic.{other_text}
use Rattle.std.proofs.lemmas.Bool.{cases_Bool, le-leb}
use Rattle.std.proofs.lemmas.Fmt.{digits_value-decimal}
use Rattle.std.proofs.lemmas.Str.Parse.{IsNumeralModel, numerals_by_value, tells_digits}
use Rattle.gl_text.specs.Forms.{is_text}
use Rattle.gl_words.specs.DayWords.{is_worker_count}

-- texts of decimal digits stand for their values
pub digits_numerals : IsNumeralModel (AllDigits 10) (digits_value 10)
digits_numerals = numerals_by_value (AllDigits 10) tells_digits

-- a text that is another one is tested as such
pub text_is : (word text : List ℕ) → word ≡ text → is_text word text ≡ true
text_is word text same =
    ⊎_elim
    (λ (is : is_text word text ≡ true). is)
    (λ (other : is_text word text ≡ false). absurd (other_text word text (sym other) same))
    (cases_Bool (is_text word text))

both_so : (a b c : Bool) → a ≡ true → b ≡ true → c ≡ true → (a && b && c) ≡ true
both_so true true c one other third = third
both_so true false c one other third = absurd (cc)
both_so false b c one other third = absurd (cc)

-- a word that writes a number of workers
pub some_workers : (word : List ℕ) (n : ℕ) → n < 2 ^ 64 → word ≡ decimal n → 1 ≤ n → n ≤ 16 → (is_worker_count word ≡ true) × (n ≡ digits_value 10 word)
some_workers word n small is least most =
    let number = digits_value 10 word in
    let value : number ≡ n = ap (digits_value 10) is ∙ digits_value-decimal digits_numerals n small in
    (both_so _ _ _ (text_is word (decimal number) (is ∙ ap decimal (sym value))) (le-leb 1 number (omega (arith, value))) (le-leb number 16 (omega (arith, value))), sym value)
