-- Texts of digits against the number that they write.
use Rattle.std.proofs.Common.{◌≡◌, ◌≢◌, ℕ, zero, suc, ◌+◌, ◌-◌, ◌*◌, ◌/◌, ◌%◌, ◌^◌, ◌<◌, ◌≤◌, List, [], ◌∷◌, ◌++◌, length, get_or, set, take, drop, sym, refl, ap, ◌∙◌, subst, inl, inr, arith, eq-zero-or-pos, append_assoc, append-nil, add-one, length-append}
use Rattle.std.proofs.Math.Nat.{div-div-eq-div-mul, pow-suc, mul_comm, div-one, one-le-pow, div-le_self}
use Rattle.std.specs.Fmt.{decimal}
use Rattle.std.specs.Int.{IsInRange}
use Rattle.std.specs.Str.Parse.{AllDigits, digits_value}
use Rattle.std.proofs.lemmas.Fmt.{digits_decimal, digits_value-decimal, decimal_digit, decimal_step, decimal_nonempty, first_decimal, decimal-digits_value, length-decimal-le}
use Rattle.std.proofs.lemmas.List.{drop-set, length-set, length_push, replicate_more, take_rest, take_at, drop_at}
use Rattle.std.proofs.lemmas.Str.Parse.{IsNumeralModel, numerals_by_value, tells_digits, digit_at, digits_value-take-le}
use Rattle.std.proofs.lemmas.Str.{digit_value_digit}
use Rattle.std.proofs.lemmas.Bool.{cases_lt}
use Rattle.std.proofs.lemmas.Nat.{div_below, pow-add}
use Rattle.std.proofs.lemmas.Int.Digits.{digits_more, digits_value_more}
use Rattle.gl_text.specs.Numbers.{IsPlainNumber, padded, fixed, last_digits}

own : IsNumeralModel (AllDigits 10) (digits_value 10)
own = numerals_by_value (AllDigits 10) tells_digits

-- no number of 64 bits is written so
abbrev pub IsNoNumber : List ℕ → Type 0
IsNoNumber text = (n : ℕ) → n < 2 ^ 64 → text ≢ decimal n

-- a text of digits that doesn't begin with a needless zero is the spelling of its value
pub decimal_read : (text : List ℕ) → AllDigits 10 text → 0 < length text → (get_or text 0 0 ≡ 48 → length text ≡ 1) → digits_value 10 text < 2 ^ 64 → text ≡ decimal (digits_value 10 text)
decimal_read text digits some lone fits = sym (decimal-digits_value own text digits some lone fits)

-- digits that make a number of 64 bits are the spelling of one
pub plain_is_number : (text : List ℕ) → IsNoNumber text → IsPlainNumber text × (digits_value 10 text < 2 ^ 64) → ⊥
plain_is_number text none h =
    none (digits_value 10 text) h.1 (decimal_read text h.0.digits h.0.some h.0.lone h.1)

pub empty_is_no_number : (text : List ℕ) → length text ≡ 0 → IsNoNumber text
empty_is_no_number text empty n small e =
    omega (arith, decimal_nonempty n small, ap length e)

pub leading_zero_is_no_number : (text : List ℕ) → 1 < length text → get_or text 0 0 ≡ 48 → IsNoNumber text
leading_zero_is_no_number text long leads n small e =
    let first : get_or text 0 0 ≡ get_or (decimal n) 0 0 = ap (λ (ds : List ℕ). get_or ds 0 0) e in
    elim (eq-zero-or-pos n) [
      | inl z ↦ omega (arith, ap length e, ap (λ (k : ℕ). length (decimal k)) z, ap length (decimal_digit 0 (omega arith)))
      | inr pos ↦ omega (arith, first_decimal n pos small)
    ]

-- one digit more is read
pub read_more : (text : List ℕ) (i n : ℕ) → i < length text → IsInRange 48 57 (get_or text i 0) → AllDigits 10 (take i text) → n ≡ digits_value 10 (take i text)
    → AllDigits 10 (take (i + 1) text) × (n * 10 + (get_or text i 0 - 48) ≡ digits_value 10 (take (i + 1) text))
read_more text i n within digit digits value =
    let worth = digit_value_digit (get_or text i 0) digit in
    (digits_more 10 text i within digits (omega arith), omega (arith, digits_value_more 10 text i within))

-- a digit that doesn't read, or that makes the number too large
pub stop_is_no_number : (text : List ℕ) (i n : ℕ) → i < length text → AllDigits 10 (take i text) → n ≡ digits_value 10 (take i text)
    → (IsInRange 48 57 (get_or text i 0) × (n * 10 + (get_or text i 0 - 48) < 2 ^ 64) → ⊥) → IsNoNumber text
stop_is_no_number text i n within digits value stops m small e =
    let all : AllDigits 10 text = subst (AllDigits 10) (sym e) (digits_decimal own m small) in
    let digit = digit_at text i all within in
    let more = read_more text i n within digit digits value in
    let whole : digits_value 10 text ≡ m = ap (digits_value 10) e ∙ digits_value-decimal own m small in
    stops (digit, omega (arith, more.1, digits_value-take-le 10 text (i + 1) (omega arith)))

-- one digit more
pub decimal_longer : (n : ℕ) → 10 ≤ n → n < 2 ^ 64 → length (decimal n) ≡ length (decimal (n / 10)) + 1
decimal_longer n long small = ap length (decimal_step n long small) ∙ length_push (decimal (n / 10)) (48 + n % 10)

pub length_one : (n : ℕ) → n < 10 → length (decimal n) ≡ 1
length_one n short = ap length (decimal_digit n short)

-- the last digit, put before what follows the number
pub put_digit : (n at : ℕ) (buffer : List ℕ) → 10 ≤ n → n < 2 ^ 64 → 1 ≤ at → at ≤ length buffer → decimal (n / 10) ++ drop (at - 1) (set buffer (at - 1) (48 + n % 10)) ≡ decimal n ++ drop at buffer
put_digit n at buffer long small some within =
    let back : at - 1 + 1 ≡ at = omega arith in
    let inside : at - 1 < length buffer = omega arith in
    rw (drop-set, back, decimal_step n long small, append_assoc)

-- the last two digits, put so
pub put_two_digits : (n at : ℕ) (buffer : List ℕ) → 100 ≤ n → n < 2 ^ 64 → 2 ≤ at → at ≤ length buffer
    → decimal (n / 100) ++ drop (at - 2) (set (set buffer (at - 1) (48 + n % 100 % 10)) (at - 2) (48 + n % 100 / 10)) ≡ decimal n ++ drop at buffer
put_two_digits n at buffer long small some within =
    let one = set buffer (at - 1) (48 + n % 10) in
    let back : at - 2 ≡ at - 1 - 1 = omega arith in
    let whole : n / 100 ≡ n / 10 / 10 = omega arith in
    let ones : n % 100 % 10 ≡ n % 10 = omega arith in
    let tens : n % 100 / 10 ≡ n / 10 % 10 = omega arith in
    rw (back, whole, ones, tens)
    (put_digit (n / 10) (at - 1) one (omega arith) (omega arith) (omega arith) (omega (arith, length-set buffer (at - 1) (48 + n % 10))) ∙ put_digit n at buffer (omega arith) small (omega arith) within)

pub two_longer : (n : ℕ) → 100 ≤ n → n < 2 ^ 64 → length (decimal n) ≡ length (decimal (n / 100)) + 2
two_longer n long small =
    let whole : n / 100 ≡ n / 10 / 10 = omega arith in
    omega (arith, decimal_longer n (omega arith) small, decimal_longer (n / 10) (omega arith) (omega arith), ap (λ (k : ℕ). length (decimal k)) whole)

-- the first digit, put likewise
pub put_first_digit : (n at : ℕ) (buffer : List ℕ) → n < 10 → 1 ≤ at → at ≤ length buffer → drop (at - 1) (set buffer (at - 1) (48 + n)) ≡ decimal n ++ drop at buffer
put_first_digit n at buffer short some within =
    let back : at - 1 + 1 ≡ at = omega arith in
    let inside : at - 1 < length buffer = omega arith in
    rw (drop-set, back, decimal_digit n short)

-- both digits of a number that has two
pub put_both_digits : (n at : ℕ) (buffer : List ℕ) → 10 ≤ n → n < 100 → 2 ≤ at → at ≤ length buffer
    → drop (at - 2) (set (set buffer (at - 1) (48 + n % 10)) (at - 2) (48 + n / 10)) ≡ decimal n ++ drop at buffer
put_both_digits n at buffer long short some within =
    let one = set buffer (at - 1) (48 + n % 10) in
    let back : at - 2 ≡ at - 1 - 1 = omega arith in
    rw (back) (put_first_digit (n / 10) (at - 1) one (omega arith) (omega arith) (omega (arith, length-set buffer (at - 1) (48 + n % 10))) ∙ put_digit n at buffer long (omega arith) (omega arith) within)

pub length_two : (n : ℕ) → 10 ≤ n → n < 100 → length (decimal n) ≡ 2
length_two n long short = omega (arith, decimal_longer n long (omega arith), length_one (n / 10) (omega arith))

-- a number of 64 bits has 20 digits at most
pub length_decimal : (n : ℕ) → n < 2 ^ 64 → length (decimal n) ≤ 20
length_decimal n small = length-decimal-le 20 n (omega arith) (omega arith) small

pub length-last_digits : (count n : ℕ) → length (last_digits count n) ≡ count
length-last_digits zero n = refl
length-last_digits (suc count) n =
    omega (arith, length_push (last_digits count (n / 10)) (48 + n % 10), length-last_digits count (n / 10))

shorter_div : (n k : ℕ) → n / 10 / 10 ^ k ≡ n / 10 ^ suc k
shorter_div n k = div-div-eq-div-mul n 10 (10 ^ k) ∙ ap (λ (m : ℕ). n / m) (mul_comm 10 (10 ^ k) ∙ sym (pow-suc 10 k))

-- the digits before the last `count` begin with this one
pub last_digits_more : (count n : ℕ) → last_digits (suc count) n ≡ (48 + n / 10 ^ count % 10) ∷ last_digits count n
last_digits_more zero n = rw div-one
last_digits_more (suc count) n =
    rw (last_digits_more count (n / 10), shorter_div n count)

-- one digit more at the end
padded_push : (count n : ℕ) → n < 2 ^ 64 → padded (suc count + 1) n ≡ padded (count + 1) (n / 10) ++ ((48 + n % 10) ∷ [])
unfolding padded
padded_push count n small =
    elim (cases_lt n 10) [
      | inl short ↦
          let whole : n / 10 ≡ 0 = omega arith in
          let last : n % 10 ≡ n = omega arith in
          let zeros : suc count + 1 - 1 ≡ count + 1 = omega arith in
          let fewer : count + 1 - 1 ≡ count = omega arith in
          rw (decimal_digit n short, whole, last, decimal_digit 0 (omega arith)) (rw (zeros, fewer, ← replicate_more) refl)
      | inr long ↦
          let zeros : suc count + 1 - (length (decimal (n / 10)) + 1) ≡ count + 1 - length (decimal (n / 10)) = omega arith in
          rw (decimal_longer n long small, zeros, decimal_step n long small, append_assoc)
    ]

-- a number's digits, with zeros before them, are those of its whole part and its last ones
pub padded_parts : (count n : ℕ) → n < 2 ^ 64 → padded (count + 1) n ≡ decimal (n / 10 ^ count) ++ last_digits count n
unfolding padded
padded_parts zero n small =
    let none : 1 - length (decimal n) ≡ 0 = omega (arith, decimal_nonempty n small) in
    rw (none, div-one, append-nil)
padded_parts (suc count) n small =
    rw (← shorter_div n count, ← append_assoc, ← padded_parts count (n / 10) (omega arith)) (padded_push count n small)

pub fixed_parts : (places n : ℕ) → n < 2 ^ 64 → fixed places n ≡ decimal (n / 10 ^ places) ++ 46 ∷ last_digits places n
unfolding fixed
fixed_parts places n small =
    let front = decimal (n / 10 ^ places) in
    let back = last_digits places n in
    let parts : padded (places + 1) n ≡ front ++ back = padded_parts places n small in
    let point : length (front ++ back) - places ≡ length front = omega (arith, length-append front back, length-last_digits places n) in
    rw (parts, point, take_at front back (length front) refl, drop_at front back (length front) refl)

-- the next digit from the end, put before those that are there
pub put_last_digit : (count n : ℕ) (buffer : List ℕ) → count < length buffer → drop (length buffer - count) buffer ≡ last_digits count n
    → drop (length buffer - suc count) (set buffer (length buffer - 1 - count) (48 + n / 10 ^ count % 10)) ≡ last_digits (suc count) n
put_last_digit count n buffer room there =
    let place : length buffer - suc count ≡ length buffer - 1 - count = omega arith in
    let inside : length buffer - 1 - count < length buffer = omega arith in
    let back : length buffer - 1 - count + 1 ≡ length buffer - count = omega arith in
    rw (place, drop-set, back, there, last_digits_more count n)

-- the whole part of a number of 64 bits has room before the point
pub length_whole : (places n : ℕ) → places ≤ 9 → n < 2 ^ 64 → length (decimal (n / 10 ^ places)) ≤ 20 - places
length_whole places n most small =
    let all : 20 - places + places ≡ 20 = omega arith in
    let split : 10 ^ (20 - places) * 10 ^ places ≡ 10 ^ 20 =
    sym (pow-add 10 (20 - places) places) ∙ ap (λ (k : ℕ). 10 ^ k) all in
    let positive : 0 < 10 ^ places = one-le-pow places 10 (omega arith) in
    let fits : n < 10 ^ (20 - places) * 10 ^ places = omega arith in
    let below = div_below n (10 ^ places) (10 ^ (20 - places)) positive fits in
    let less : n / 10 ^ places ≤ n = div-le_self n (10 ^ places) in
    length-decimal-le (20 - places) (n / 10 ^ places) (omega arith) below (omega arith)

-- one digit less is left
pub div_more : (n k : ℕ) → n / 10 ^ k / 10 ≡ n / 10 ^ (k + 1)
div_more n k = rw (div-div-eq-div-mul, add-one, pow-suc)

-- the whole part, the point and the last digits, as they stand in a buffer
pub fixed_written : (places n start whole : ℕ) (front back : List ℕ) → places ≤ 9 → n < 2 ^ 64 → whole ≡ n / 10 ^ places → length front ≡ 21 → drop (21 - places) front ≡ last_digits places n
    → length back ≡ 21 → drop start back ≡ decimal whole ++ drop (20 - places) (set front (20 - places) 46) → take (21 - start) (drop start back) ≡ fixed places n
fixed_written places n start whole front back most small is_whole front_long last back_long written =
    let inside : 20 - places < length front = omega arith in
    let next : 20 - places + 1 ≡ 21 - places = omega arith in
    let point : drop (20 - places) (set front (20 - places) 46) ≡ 46 ∷ last_digits places n =
    rw (drop-set, next, last) refl in
    let all : take (21 - start) (drop start back) ≡ drop start back =
    ap (λ (k : ℕ). take (k - start) (drop start back)) (sym back_long) ∙ take_rest back start in
    all ∙ written ∙ rw (point, is_whole) (sym (fixed_parts places n small))
