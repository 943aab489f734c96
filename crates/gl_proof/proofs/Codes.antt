-- What is spelled at the front of a text can be spelled in no other way.
use Rattle.std.proofs.Common.{◌≡◌, ◌∙◌, sym, ap, refl, subst, ℕ, suc, ◌+◌, ◌*◌, ◌/◌, ◌%◌, ◌^◌, ◌<◌, ◌≤◌, Bool, true, List, [], ◌∷◌, ◌++◌, length, get_or, take, drop, map, append_assoc, arith, inl, inr}
use Rattle.std.specs.Char.{is_ascii_digit}
use Rattle.std.specs.Fmt.{decimal}
use Rattle.std.specs.List.{list_all, prefix_len, take_while}
use Rattle.std.specs.Prelude.{All}
use Rattle.std.proofs.lemmas.Bool.{cases_Bool, false≢true, and_parts, and_from}
use Rattle.std.proofs.lemmas.Bool.Decides.{nat_tests}
use Rattle.std.proofs.lemmas.Fmt.{decimal_by_steps, decimal_injective, decimal_step}
use Rattle.std.proofs.lemmas.List.{length-take-le, take-append-drop}
use Rattle.std.proofs.lemmas.List.Elements.{All-head, All-tail}
use Rattle.std.proofs.lemmas.List.Folds.{list_all-append}
use Rattle.std.proofs.lemmas.List.Sums.{prefix_len-le-length}
use Rattle.gl_proof.specs.Fronts.{IsNumberAt, IsSpanAt, Stops}
use Rattle.gl_proof.specs.Words.{IsSpan, spaced, span_word}

-- a front whose bytes pass a test, and the rest, which begins with none that does
pub front_unique : (p : ℕ → Bool) (a b r q : List ℕ) → list_all p a ≡ true → list_all p b ≡ true → Stops p r → Stops p q → a ++ r ≡ b ++ q → (a ≡ b) × (r ≡ q)
front_unique p [] [] r q pass_a pass_b stops_r stops_q same = (refl, same)
front_unique p [] (y ∷ bs) r q pass_a pass_b stops_r stops_q same =
    absurd (false≢true (sym (subst (Stops p) same stops_r) ∙ (and_parts (p y) (list_all p bs) pass_b).0))
front_unique p (x ∷ us) [] r q pass_a pass_b stops_r stops_q same =
    absurd (false≢true (sym (subst (Stops p) (sym same) stops_q) ∙ (and_parts (p x) (list_all p us) pass_a).0))
front_unique p (x ∷ us) (y ∷ bs) r q pass_a pass_b stops_r stops_q same =
    let first : x ≡ y = cc in
    let others : us ++ r ≡ bs ++ q = cc in
    let rest = front_unique p us bs r q (and_parts (p x) (list_all p us) pass_a).1 (and_parts (p y) (list_all p bs) pass_b).1 stops_r stops_q others in
    (λ i. first i ∷ rest.0 i, rest.1)

-- the bytes at the front of a text that pass a test, all of them
pub front_passes : (p : ℕ → Bool) (text : List ℕ) → list_all p (take (prefix_len p text) text) ≡ true
front_passes p [] = refl
front_passes p (x ∷ xs) = elim (cases_Bool (p x)) [
  | inl pass ↦
      let one : 1 + prefix_len p xs ≡ suc (prefix_len p xs) = omega arith in
      rw (pass, one) (and_from (p x) (list_all p (take (prefix_len p xs) xs)) pass (front_passes p xs))
  | inr fail ↦ rw fail refl
]

pub front_stops : (p : ℕ → Bool) (text : List ℕ) → Stops p (drop (prefix_len p text) text)
front_stops p [] = tt
front_stops p (x ∷ xs) = elim (cases_Bool (p x)) [
  | inl pass ↦
      let one : 1 + prefix_len p xs ≡ suc (prefix_len p xs) = omega arith in
      rw (pass, one) (front_stops p xs)
  | inr fail ↦ rw fail fail
]

pub length-take_while : (p : ℕ → Bool) (text : List ℕ) → length (take_while p text) ≡ prefix_len p text
length-take_while p text = length-take-le (prefix_len p text) text (prefix_len-le-length p text)

-- a text that is cut behind its front
pub cut_front : (p : ℕ → Bool) (text front back : List ℕ) (k : ℕ) → k ≡ length (take_while p text) → front ≡ take k text → back ≡ drop k text
    → (list_all p front ≡ true) × Stops p back × (text ≡ front ++ back)
cut_front p text front back k count is_front is_back =
    let n = prefix_len p text in
    let same : k ≡ n = count ∙ length-take_while p text in
    let front_is : front ≡ take n text = is_front ∙ ap (λ (m : ℕ). take m text) same in
    let back_is : back ≡ drop n text = is_back ∙ ap (λ (m : ℕ). drop m text) same in (
      ap (list_all p) front_is ∙ front_passes p text,
      subst (Stops p) (sym back_is) (front_stops p text),
      sym (take-append-drop k text) ∙ ap (λ (l : List ℕ). l ++ drop k text) (sym is_front) ∙ ap (λ (l : List ℕ). front ++ l) (sym is_back),
    )

-- digits alone are written
digits_step : (m : ℕ) (ds : List ℕ) → list_all is_ascii_digit ds ≡ true → list_all is_ascii_digit (ds ++ (48 + m % 10) ∷ []) ≡ true
digits_step m ds pass = list_all-append is_ascii_digit ds ((48 + m % 10) ∷ []) ∙ and_from (list_all is_ascii_digit ds) (list_all is_ascii_digit ((48 + m % 10) ∷ [])) pass (grind (arith, nat_tests))

pub decimal_digits : (n : ℕ) → n < 2 ^ 64 → list_all is_ascii_digit (decimal n) ≡ true
decimal_digits n small = decimal_by_steps (λ m ds. list_all is_ascii_digit ds ≡ true) (λ m one. grind (arith, nat_tests)) (λ m ds more pass. digits_step m ds pass) n small

pub number_unique : (m n : ℕ) (r q : List ℕ) → m < 2 ^ 64 → n < 2 ^ 64 → Stops is_ascii_digit r → Stops is_ascii_digit q → decimal m ++ r ≡ decimal n ++ q → (m ≡ n) × (r ≡ q)
number_unique m n r q small_m small_n stops_r stops_q same =
    let parts = front_unique is_ascii_digit (decimal m) (decimal n) r q (decimal_digits m small_m) (decimal_digits n small_n) stops_r stops_q same in
    (decimal_injective m n small_m small_n parts.0, parts.1)

pub span_is : (span : ℕ × ℕ) (r : List ℕ) → span_word span ++ r ≡ decimal span.0 ++ 45 ∷ (decimal span.1 ++ r)
span_is span r = append_assoc (decimal span.0) (45 ∷ decimal span.1) r

pub span_unique : (s t : ℕ × ℕ) (r q : List ℕ) → IsSpan s → IsSpan t → Stops is_ascii_digit r → Stops is_ascii_digit q → span_word s ++ r ≡ span_word t ++ q → (s ≡ t) × (r ≡ q)
span_unique s t r q is_s is_t stops_r stops_q same =
    let low_s : s.0 < 2 ^ 64 = omega (arith, is_s.0, is_s.1) in
    let low_t : t.0 < 2 ^ 64 = omega (arith, is_t.0, is_t.1) in
    let lows = number_unique s.0 t.0 (45 ∷ (decimal s.1 ++ r)) (45 ∷ (decimal t.1 ++ q)) low_s low_t refl refl (sym (span_is s r) ∙ same ∙ span_is t q) in
    let tails : decimal s.1 ++ r ≡ decimal t.1 ++ q = let both = lows.1 in cc in
    let highs = number_unique s.1 t.1 r q (omega (arith, is_s.1)) (omega (arith, is_t.1)) stops_r stops_q tails in
    (λ i. (lows.0 i, highs.0 i), highs.1)

-- words behind spaces, and what follows them, begin with no digit
pub spaced_stops : {X : Type 0} (word : X → List ℕ) (xs : List X) (rest : List ℕ) → Stops is_ascii_digit rest → Stops is_ascii_digit (spaced (map word xs) ++ rest)
spaced_stops word [] rest stops = stops
spaced_stops word (x ∷ xs) rest stops = refl

-- how things are spelled that no digit may follow
abbrev pub IsSpelledOnce : {X : Type 0} → (X → List ℕ) → (X → Type 0) → Type 0
IsSpelledOnce {X} word Is = (x y : X) (r q : List ℕ) → Is x → Is y → Stops is_ascii_digit r → Stops is_ascii_digit q → word x ++ r ≡ word y ++ q → (x ≡ y) × (r ≡ q)

pub record Continues {X : Type 0} (word : X → List ℕ) (Is : X → Type 0) (xs ys : List X) (rest more : List ℕ) : Type 0 where
  pub others : List X
  pub each : All Is others
  pub list : ys ≡ xs ++ others
  pub text : rest ≡ spaced (map word others) ++ 10 ∷ more

-- words that were read are the first of those that are spelled
pub words_front : {X : Type 0} (word : X → List ℕ) (Is : X → Type 0) → IsSpelledOnce word Is → (xs ys : List X) (rest more : List ℕ) → All Is xs → All Is ys
    → (0 < length xs → Stops is_ascii_digit rest) → spaced (map word xs) ++ rest ≡ spaced (map word ys) ++ 10 ∷ more → Continues word Is xs ys rest more
words_front word Is once [] ys rest more is_xs is_ys stops same = record { others = ys; each = is_ys; list = refl; text = same }
words_front word Is once (x ∷ xs) [] rest more is_xs is_ys stops same =
    let byte : 32 ≡ 10 = ap (λ (l : List ℕ). get_or l 0 0) same in absurd (omega (arith, byte))
words_front {X} word Is once (x ∷ xs) (y ∷ ys) rest more is_xs is_ys stops same =
    let tails : (word x ++ spaced (map word xs)) ++ rest ≡ (word y ++ spaced (map word ys)) ++ 10 ∷ more = cc in
    let apart : word x ++ (spaced (map word xs) ++ rest) ≡ word y ++ (spaced (map word ys) ++ 10 ∷ more) =
    sym (append_assoc (word x) (spaced (map word xs)) rest) ∙ tails ∙ append_assoc (word y) (spaced (map word ys)) (10 ∷ more) in
    let parts = once x y (spaced (map word xs) ++ rest) (spaced (map word ys) ++ 10 ∷ more) (All-head Is x xs is_xs) (All-head Is y ys is_ys) (spaced_stops word xs rest (stops (omega arith)))
    (spaced_stops word ys (10 ∷ more) refl) apart in
    let on = words_front word Is once xs ys rest more (All-tail Is x xs is_xs) (All-tail Is y ys is_ys) (λ some. stops (omega arith)) parts.1 in
    let first : x ≡ y = parts.0 in
    record {
      others = on.others;
      each = on.each;
      list = ap (λ (z : X). z ∷ ys) (sym first) ∙ ap (λ (l : List X). x ∷ l) on.list;
      text = on.text;
    }

-- the digits at the front of a text are those of its number
pub number_front : (limit n : ℕ) (text front back rest : List ℕ) → limit ≤ 2 ^ 64 → list_all is_ascii_digit front ≡ true → Stops is_ascii_digit back → text ≡ front ++ back
    → IsNumberAt limit text n rest → (front ≡ decimal n) × (back ≡ rest)
number_front limit n text front back rest most digits stops is at =
    front_unique is_ascii_digit front (decimal n) back rest digits (decimal_digits n (omega (arith, at.below, most))) stops at.stops (sym is ∙ at.is)

pub number_same : (m n : ℕ) (text rest more : List ℕ) → IsNumberAt (2 ^ 64) text m rest → IsNumberAt (2 ^ 32) text n more → m ≡ n
number_same m n text rest more one other =
    (number_unique m n rest more one.below (omega (arith, other.below)) one.stops other.stops (sym one.is ∙ other.is)).0

-- the low end of a span is the number at its front
pub low_front : (text : List ℕ) (low : ℕ) (rest : List ℕ) (span : ℕ × ℕ) (more : List ℕ) → IsNumberAt (2 ^ 32) text low rest → IsSpanAt text span more
    → (low ≡ span.0) × (rest ≡ 45 ∷ (decimal span.1 ++ more))
low_front text low rest span more number at =
    number_unique low span.0 rest (45 ∷ (decimal span.1 ++ more)) (omega (arith, number.below)) (omega (arith, at.is_span.0, at.is_span.1)) number.stops refl (sym number.is ∙ at.is
    ∙ span_is span more)

pub high_at : (text behind : List ℕ) (low : ℕ) (rest : List ℕ) (span : ℕ × ℕ) (more : List ℕ) → IsNumberAt (2 ^ 32) text low rest → rest ≡ 45 ∷ behind → IsSpanAt text span more
    → IsNumberAt (2 ^ 32) behind span.1 more
high_at text behind low rest span more number hyphen at =
    let both : 45 ∷ behind ≡ 45 ∷ (decimal span.1 ++ more) = sym hyphen ∙ (low_front text low rest span more number at).1 in
    let tail : behind ≡ decimal span.1 ++ more = cc in
    record { below = at.is_span.1; is = tail; stops = at.stops }

pub span_front : (text behind : List ℕ) (low : ℕ) (rest : List ℕ) (high : ℕ) (last : List ℕ) (span : ℕ × ℕ) (more : List ℕ) → IsNumberAt (2 ^ 32) text low rest → rest ≡ 45 ∷ behind
    → IsNumberAt (2 ^ 32) behind high last → IsSpanAt text span more → (low ≡ span.0) × (high ≡ span.1)
span_front text behind low rest high last span more number hyphen end at =
    let other = high_at text behind low rest span more number hyphen at in (
      (low_front text low rest span more number at).0,
      (number_unique high span.1 last more (omega (arith, end.below)) (omega (arith, other.below)) end.stops other.stops (sym end.is ∙ other.is)).0,
    )

-- a number with one digit more
pub decimal-longer : (m digit n : ℕ) → 1 ≤ m → n ≡ m * 10 + digit → digit < 10 → n < 2 ^ 32 → decimal n ≡ decimal m ++ (48 + digit) ∷ []
decimal-longer m digit n some is low small =
    let tens : n / 10 ≡ m = omega arith in
    let last : n % 10 ≡ digit = omega arith in
    decimal_step n (omega arith) (omega arith) ∙ (λ i. decimal (tens i) ++ (48 + last i) ∷ [])

-- a text that began with a number begins with the longer one
pub digit-joins : (text rest after : List ℕ) (m digit n : ℕ) → 1 ≤ m → text ≡ decimal m ++ rest → rest ≡ (48 + digit) ∷ after → n ≡ m * 10 + digit → digit < 10 → n < 2 ^ 32 → text ≡ decimal n ++ after
digit-joins text rest after m digit n some was next is low small =
    was ∙ ap (λ (l : List ℕ). decimal m ++ l) next ∙ sym (append_assoc (decimal m) ((48 + digit) ∷ []) after)
    ∙ ap (λ (l : List ℕ). l ++ after) (sym (decimal-longer m digit n some is low small))
