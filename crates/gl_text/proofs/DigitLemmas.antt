-- Digits read one by one against the number that they write.
use Rattle.std.proofs.Common.{◌≡◌, ◌∙◌, sym, ap, ℕ, ◌+◌, ◌-◌, ◌*◌, ◌^◌, ◌<◌, ◌≤◌, Bool, true, false, cond, List, length, get_or, take, None, Some, arith, add-one, ◌&&◌}
use Rattle.std.proofs.Math.Nat.{pow-suc}
use Rattle.std.specs.Char.{is_ascii_digit}
use Rattle.std.specs.Int.{IsInRange}
use Rattle.std.specs.List.{list_all}
use Rattle.std.specs.Str.Parse.{digits_value}
use Rattle.std.proofs.lemmas.List.{take_all}
use Rattle.std.proofs.lemmas.List.Folds.{list_all_more, list_all_at}
use Rattle.std.proofs.lemmas.Str.{digit_value_digit}
use Rattle.std.proofs.lemmas.Int.Digits.{digits_value_more}
use Rattle.gl_text.specs.Digits.{number_of}

-- one digit more
pub digits_so_far : (text : List ℕ) (i : ℕ) → i < length text → is_ascii_digit (get_or text i 0) ≡ true → list_all is_ascii_digit (take i text) ≡ true
    → list_all is_ascii_digit (take (i + 1) text) ≡ true
digits_so_far text i within digit before =
    list_all_more is_ascii_digit text i 0 within ∙ ap (λ (b : Bool). b && is_ascii_digit (get_or text i 0)) before ∙ digit

pub value_so_far : (text : List ℕ) (i n : ℕ) → i < length text → IsInRange 48 57 (get_or text i 0) → n ≡ digits_value 10 (take i text)
    → n * 10 + (get_or text i 0 - 48) ≡ digits_value 10 (take (i + 1) text)
value_so_far text i n within digit before =
    omega (arith, digits_value_more 10 text i within, digit_value_digit (get_or text i 0) digit)

-- a byte that is no digit
pub number_of-other : (text : List ℕ) (i : ℕ) → i < length text → is_ascii_digit (get_or text i 0) ≡ false → number_of text ≡ None
unfolding number_of
number_of-other text i within other =
    ap (λ (b : Bool). cond b (Some (digits_value 10 text)) None) (list_all_at is_ascii_digit text i 0 within other)

-- all bytes are digits
pub number_of-digits : (text : List ℕ) (i n : ℕ) → length text ≤ i → list_all is_ascii_digit (take i text) ≡ true → n ≡ digits_value 10 (take i text) → number_of text ≡ Some n
unfolding number_of
number_of-digits text i n all digits value =
    let whole : take i text ≡ text = take_all i text all in
    ap (λ (b : Bool). cond b (Some (digits_value 10 text)) None) (sym (ap (list_all is_ascii_digit) whole) ∙ digits) ∙ sym (ap (λ (k : ℕ). Some k) (value ∙ ap (digits_value 10) whole))

pub bound_so_far : (n i digit : ℕ) → n < 10 ^ i → IsInRange 48 57 digit → n * 10 + (digit - 48) < 10 ^ (i + 1)
bound_so_far n i digit below range =
    rw (add-one, pow-suc) (omega arith)
