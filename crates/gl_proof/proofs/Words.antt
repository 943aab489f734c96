-- Words that stand at the front of a text, one behind the other.
use Rattle.std.proofs.Common.{◌≡◌, ◌∙◌, sym, ap, refl, ℕ, ◌^◌, ◌<◌, List, [], ◌∷◌, ◌++◌, length, get_or, map, append_assoc, Option, Some, None, arith}
use Rattle.std.specs.Char.{is_ascii_digit}
use Rattle.std.specs.Fmt.{decimal}
use Rattle.std.specs.Prelude.{All, IfSome, codes}
use Rattle.std.proofs.lemmas.Fmt.{decimal_nonempty}
use Rattle.std.proofs.lemmas.List.{append-nil, append_cancel_left, length-append}
use Rattle.gl_proof.specs.Fronts.{IsNumberAt, IsTotalAt, Stops}
use Rattle.gl_proof.specs.Words.{IsSpan, spaced, span_word, total_word}
use Rattle.gl_proof.proofs.Pieces.{pieces_push}
use Rattle.gl_proof.proofs.Codes.{Continues, IsSpelledOnce, decimal_digits, front_unique, number_unique, spaced_stops, span_unique}

pub span_once : IsSpelledOnce span_word IsSpan
span_once x y r q is_x is_y stops_r stops_q same = span_unique x y r q is_x is_y stops_r stops_q same

pub number_once : IsSpelledOnce decimal (λ fix. fix < 2 ^ 32)
number_once x y r q is_x is_y stops_r stops_q same = number_unique x y r q (omega arith) (omega arith) stops_r stops_q same

-- a word more was read
pub word_taken : {X : Type 0} (word : X → List ℕ) (xs : List X) (x : X) (text rest behind after : List ℕ) → text ≡ spaced (map word xs) ++ rest → rest ≡ 32 ∷ behind → behind ≡ word x ++ after
    → text ≡ spaced (map word (xs ++ x ∷ [])) ++ after
word_taken word xs x text rest behind after is space is_word =
    let front = spaced (map word xs) in
    let one : rest ≡ (32 ∷ word x) ++ after = space ∙ ap (λ (l : List ℕ). 32 ∷ l) is_word in
    is ∙ ap (λ (l : List ℕ). front ++ l) one ∙ sym (append_assoc front (32 ∷ word x) after)
    ∙ ap (λ (l : List ℕ). l ++ after) (sym (pieces_push (λ (w : List ℕ). 32 ∷ w) word xs x))

-- where a word stands at the front of what is left, some thing that is spelled so comes next
pub record Next {X : Type 0} (word : X → List ℕ) (Is : X → Type 0) (behind more : List ℕ) : Type 0 where
  pub next : X
  pub is_next : Is next
  pub others : List X
  pub text : behind ≡ word next ++ (spaced (map word others) ++ 10 ∷ more)

pub next_word : {X : Type 0} (word : X → List ℕ) (Is : X → Type 0) (xs ys : List X) (rest behind more : List ℕ) → rest ≡ 32 ∷ behind → Continues word Is xs ys rest more
    → (length xs < length ys) × Next word Is behind more
next_word {X} word Is xs ys rest behind more space on = next_of on.others on.each on.list (sym space ∙ on.text) where
  next_of : (others : List X) → All Is others → ys ≡ xs ++ others → 32 ∷ behind ≡ spaced (map word others) ++ 10 ∷ more → (length xs < length ys) × Next word Is behind more
  next_of [] each list text = let byte : 32 ≡ 10 = ap (λ (l : List ℕ). get_or l 0 0) text in absurd (omega (arith, byte))
  next_of (x ∷ others) each list text =
      let tail : behind ≡ (word x ++ spaced (map word others)) ++ 10 ∷ more = cc in (
        omega (arith, ap length list, length-append xs (x ∷ others)),
        record { next = x; is_next = each 0 x (omega arith); others = others; text = tail ∙ append_assoc (word x) (spaced (map word others)) (10 ∷ more) },
      )

pub span_next_stops : (others : List (ℕ × ℕ)) (more : List ℕ) → Stops is_ascii_digit (spaced (map span_word others) ++ 10 ∷ more)
span_next_stops others more = spaced_stops span_word others (10 ∷ more) refl

-- a number that comes next
pub number_next : (behind more : List ℕ) (next : Next decimal (λ fix. fix < 2 ^ 32) behind more) → IsNumberAt (2 ^ 32) behind next.next (spaced (map decimal next.others) ++ 10 ∷ more)
number_next behind more next = record { below = next.is_next; is = next.text; stops = spaced_stops decimal next.others (10 ∷ more) refl }

-- where no word stands there, nothing more is spelled
pub no_word : {X : Type 0} (word : X → List ℕ) (Is : X → Type 0) (xs ys : List X) (rest more : List ℕ) → ((behind : List ℕ) → rest ≡ 32 ∷ behind → ⊥) → Continues word Is xs ys rest more
    → (ys ≡ xs) × (rest ≡ 10 ∷ more)
no_word {X} word Is xs ys rest more none on = last_of on.others on.list on.text where
  last_of : (others : List X) → ys ≡ xs ++ others → rest ≡ spaced (map word others) ++ 10 ∷ more → (ys ≡ xs) × (rest ≡ 10 ∷ more)
  last_of [] list text = (list ∙ append-nil xs, text)
  last_of (x ∷ others) list text = absurd (none _ text)

pub total_there : (text : List ℕ) (total : Option ℕ) (r : List ℕ) → IfSome total (λ greatest. greatest < 2 ^ 64) → text ≡ total_word total ++ 10 ∷ r → IsTotalAt text total r
total_there text None r small is = is
total_there text (Some total) r small is = (small, is)

-- digits are no word for none
pub no_total : (n : ℕ) (r q : List ℕ) → n < 2 ^ 64 → codes "NONE" ++ r ≡ decimal n ++ 10 ∷ q → ⊥
no_total n r q small same =
    let none = front_unique is_ascii_digit [] (decimal n) (codes "NONE" ++ r) (10 ∷ q) refl (decimal_digits n small) refl refl same in
    absurd (omega (arith, ap length none.0, decimal_nonempty n small))

pub total_unique : (text : List ℕ) (a b : Option ℕ) (r q : List ℕ) → IsTotalAt text a r → IsTotalAt text b q → (a ≡ b) × (r ≡ q)
total_unique text None None r q one other =
    let tails : 10 ∷ r ≡ 10 ∷ q = append_cancel_left (codes "NONE") (10 ∷ r) (10 ∷ q) (sym one ∙ other) in (refl, cc)
total_unique text None (Some n) r q one other = absurd (no_total n (10 ∷ r) q other.0 (sym one ∙ other.1))
total_unique text (Some m) None r q one other = absurd (no_total m (10 ∷ q) r one.0 (sym other ∙ one.1))
total_unique text (Some m) (Some n) r q one other =
    let parts = number_unique m n (10 ∷ r) (10 ∷ q) one.0 other.0 refl refl (sym one.1 ∙ other.1) in
    let tails : 10 ∷ r ≡ 10 ∷ q = parts.1 in
    (ap Some parts.0, cc)

-- the number at the front of a total's text is the total
pub total_front : (text : List ℕ) (n : ℕ) (rest : List ℕ) (total : Option ℕ) (more : List ℕ) → IsNumberAt (2 ^ 64) text n rest → ((r : List ℕ) → text ≡ codes "NONE" ++ 10 ∷ r → ⊥)
    → IsTotalAt text total more → rest ≡ 10 ∷ more
total_front text n rest None more number none at = absurd (none more at)
total_front text n rest (Some total) more number none at =
    (number_unique n total rest (10 ∷ more) number.below at.0 number.stops refl (sym number.is ∙ at.1)).1

-- what begins with LF begins with no space
pub feed_first : (r behind : List ℕ) → 10 ∷ r ≡ 32 ∷ behind → ⊥
feed_first r behind same = let byte : 10 ≡ 32 = ap (λ (l : List ℕ). get_or l 0 0) same in absurd (omega (arith, byte))
