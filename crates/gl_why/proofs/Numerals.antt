-- The number that a word writes.
use Rattle.std.proofs.Common.{◌≡◌, ◌∙◌, sym, ap, ℕ, ◌<◌, ◌≤◌, Bool, true, false, ◌&&◌, List, None, Some, ⊎_elim, arith}
use Rattle.std.specs.Prelude.{◌^◌, if◌then◌else◌}
use Rattle.std.specs.Cmp.Lexicographic.{other_text}
use Rattle.std.specs.Fmt.{decimal}
use Rattle.std.specs.Str.Parse.{AllDigits, digits_value}
use Rattle.std.proofs.lemmas.Bool.{cases_Bool, le-leb}
use Rattle.std.proofs.lemmas.Fmt.{digits_value-decimal}
use Rattle.std.proofs.lemmas.Str.Parse.{IsNumeralModel, numerals_by_value, tells_digits}
use Rattle.gl_text.specs.Forms.{is_text}
use Rattle.gl_why.specs.Words.{number_of}

digits_numerals : IsNumeralModel (AllDigits 10) (digits_value 10)
digits_numerals = numerals_by_value (AllDigits 10) tells_digits

text_is : (word text : List ℕ) → word ≡ text → is_text word text ≡ true
text_is word text same =
    ⊎_elim
    (λ (is : is_text word text ≡ true). is)
    (λ (other : is_text word text ≡ false). absurd (other_text word text (sym other) same))
    (cases_Bool (is_text word text))

both : (a b : Bool) (n m : ℕ) → a ≡ true → b ≡ true → n ≡ m → (if a && b then Some n else None) ≡ Some m
both true true n m one other same = ap Some same
both true false n m one other same = absurd (cc)
both false b n m one other same = absurd (cc)

-- a word that writes a number that isn't too large
pub some_number : (word : List ℕ) (n : ℕ) → n < 2 ^ 64 → word ≡ decimal n → n ≤ 999_999 → number_of word ≡ Some n
some_number word n small is high =
    let number = digits_value 10 word in
    let value : number ≡ n = ap (digits_value 10) is ∙ digits_value-decimal digits_numerals n small in
    both _ _ number n (text_is word (decimal number) (is ∙ ap decimal (sym value))) (le-leb number 999_999 (omega (arith, value, high))) value
