-- The number that a word writes.
use Rattle.std.proofs.Common.{◌≡◌, ◌∙◌, sym, ap, ℕ, ◌<◌, ◌≤◌, Bool, true, false, ◌&&◌, List, None, Some, arith}
use Rattle.std.specs.Prelude.{◌^◌, if◌then◌else◌}
use Rattle.std.specs.Fmt.{decimal}
use Rattle.std.specs.Str.Parse.{digits_value}
use Rattle.std.proofs.lemmas.Bool.{le-leb}
use Rattle.std.proofs.lemmas.Fmt.{digits_value-decimal}
use Rattle.gl_words.proofs.WorkerCounts.{digits_numerals, text_is}
use Rattle.gl_words.specs.Words.{number_within}

all_three : (a b c : Bool) (n m : ℕ) → a ≡ true → b ≡ true → c ≡ true → n ≡ m → (if a && b && c then Some n else None) ≡ Some m
all_three true true true n m one other third same = ap Some same
all_three true true false n m one other third same = absurd (cc)
all_three true false c n m one other third same = absurd (cc)
all_three false b c n m one other third same = absurd (cc)

-- a word that writes a number within limits
pub some_within : (least most : ℕ) (word : List ℕ) (n : ℕ) → n < 2 ^ 64 → word ≡ decimal n → least ≤ n → n ≤ most → number_within least most word ≡ Some n
some_within least most word n small is low high =
    let number = digits_value 10 word in
    let value : number ≡ n = ap (digits_value 10) is ∙ digits_value-decimal digits_numerals n small in
    all_three _ _ _ number n (text_is word (decimal number) (is ∙ ap decimal (sym value))) (le-leb least number (omega (arith, value, low))) (le-leb number most (omega (arith, value, high))) value
