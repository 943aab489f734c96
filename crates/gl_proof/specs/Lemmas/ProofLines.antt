-- The lines of proofs have no LF within them, are short, and end with the end.
use Rattle.std.proofs.Common.{◌≡◌, ◌∙◌, sym, ap, refl, subst, ℕ, ◌+◌, ◌*◌, ◌^◌, ◌%◌, ◌<◌, ◌≤◌, ◌&&◌, Bool, true, false, List, [], ◌∷◌, ◌++◌, length, map, Option, Some, None, arith, inl, inr}
use Rattle.std.specs.Char.{is_ascii_alphanumeric, is_ascii_digit}
use Rattle.std.specs.Fmt.{decimal}
use Rattle.std.specs.List.{list_all}
use Rattle.std.specs.Prelude.{All, IfSome, IsTrue, ◌↔◌, codes, nat_le}
use Rattle.std.proofs.lemmas.Bool.{and_from, and_parts, false≢true, leb-true}
use Rattle.std.proofs.lemmas.Bool.Decides.{nat_tests}
use Rattle.std.proofs.lemmas.Fmt.{decimal_by_steps, length-decimal-le}
use Rattle.std.proofs.lemmas.List.{length-append}
use Rattle.std.proofs.lemmas.List.Elements.{All-head, All-tail, Contains-append_cases}
use Rattle.std.proofs.lemmas.List.Folds.{list_all-append, list_all_at}
use Rattle.gl_text.specs.Forms.{is_number}
use Rattle.gl_box.specs.declared.closed.Why.{Why}
use Rattle.gl_box.specs.declared.closed.Why.TheVariants.{Disordered, Shut, Bound}
use Rattle.gl_proof.specs.Line.{BoxLine, ClaimLine, EndLine, FixLine, HeadingLine, IsLine, Line, kind_word, line_text, reason_word}
use Rattle.gl_proof.specs.LineRefusal.{HasLine}
use Rattle.gl_proof.specs.LineRules.{AreLineRules, MayCome}
use Rattle.gl_proof.specs.ProofLines.{is_ended, place_after, proof_rules}
use Rattle.gl_proof.specs.Words.{IsSpan, spaced, span_word, total_word}
use Rattle.gl_proof.specs.declared.claim.ClaimKind.{ClaimKind}
use Rattle.gl_proof.specs.declared.claim.ClaimKind.TheVariants.{Area, Out, Free, Triangle}
use Rattle.gl_proof.specs.declared.proof_place.ProofPlace.{ProofPlace}
use Rattle.gl_proof.specs.declared.version.Version.TheVariants.{One, Two}

-- digits alone are written
digits_step : (m : ℕ) (ds : List ℕ) → list_all is_ascii_digit ds ≡ true → list_all is_ascii_digit (ds ++ (48 + m % 10) ∷ []) ≡ true
digits_step m ds pass = list_all-append is_ascii_digit ds ((48 + m % 10) ∷ []) ∙ and_from (list_all is_ascii_digit ds) (list_all is_ascii_digit ((48 + m % 10) ∷ [])) pass (grind (arith, nat_tests))

pub decimal_digits : (n : ℕ) → n < 2 ^ 64 → list_all is_ascii_digit (decimal n) ≡ true
decimal_digits n small = decimal_by_steps (λ m ds. list_all is_ascii_digit ds ≡ true) (λ m one. grind (arith, nat_tests)) (λ m ds more pass. digits_step m ds pass) n small

-- no LF comes in a text
abbrev Unbroken : List ℕ → Type 0
Unbroken text = ¬ HasLine text

unbroken_by : (p : ℕ → Bool) (text : List ℕ) → list_all p text ≡ true → p 10 ≡ false → Unbroken text
unbroken_by p text pass fails has = absurd (false≢true (sym (list_all_at p text has.0 10 has.1 (ap p has.2 ∙ fails)) ∙ pass))

unbroken_both : (a b : List ℕ) → Unbroken a → Unbroken b → Unbroken (a ++ b)
unbroken_both a b one other has = elim (Contains-append_cases a b 10 has) [ inl front ↦ one front | inr back ↦ other back ]

printed : (text : List ℕ) → list_all (λ c. nat_le 32 c) text ≡ true → Unbroken text
printed text pass = unbroken_by (λ c. nat_le 32 c) text pass refl

unbroken_decimal : (n : ℕ) → n < 2 ^ 64 → Unbroken (decimal n)
unbroken_decimal n small = unbroken_by is_ascii_digit (decimal n) (decimal_digits n small) refl

unbroken_span : (span : ℕ × ℕ) → IsSpan span → Unbroken (span_word span)
unbroken_span span is =
    unbroken_both (decimal span.0) (45 ∷ decimal span.1) (unbroken_decimal span.0 (omega (arith, is.0, is.1)))
    (unbroken_both (45 ∷ []) (decimal span.1) (printed (45 ∷ []) refl) (unbroken_decimal span.1 (omega (arith, is.1))))

unbroken_spaced : {X : Type 0} (word : X → List ℕ) (Is : X → Type 0) → ((x : X) → Is x → Unbroken (word x)) → (xs : List X) → All Is xs → Unbroken (spaced (map word xs))
unbroken_spaced word Is each [] are = λ has. omega (arith, has.1)
unbroken_spaced word Is each (x ∷ xs) are =
    unbroken_both (32 ∷ word x) (spaced (map word xs)) (unbroken_both (32 ∷ []) (word x) (printed (32 ∷ []) refl) (each x (All-head Is x xs are))) (unbroken_spaced word Is each xs (All-tail Is x xs are))

unbroken_three : (word a b c : List ℕ) → Unbroken word → Unbroken a → Unbroken b → Unbroken c → Unbroken (word ++ spaced (a ∷ b ∷ c ∷ []))
unbroken_three word a b c is_word is_a is_b is_c =
    let space = printed (32 ∷ []) refl in
    unbroken_both word (spaced (a ∷ b ∷ c ∷ [])) is_word
    (unbroken_both (32 ∷ a) (spaced (b ∷ c ∷ [])) (unbroken_both (32 ∷ []) a space is_a)
    (unbroken_both (32 ∷ b) (spaced (c ∷ [])) (unbroken_both (32 ∷ []) b space is_b)
    (unbroken_both (32 ∷ c) [] (unbroken_both (32 ∷ []) c space is_c) (λ has. omega (arith, has.1)))))

unbroken_kind : (kind : ClaimKind) → Unbroken (kind_word kind)
unbroken_kind Area = printed (kind_word Area) refl
unbroken_kind Out = printed (kind_word Out) refl
unbroken_kind Free = printed (kind_word Free) refl
unbroken_kind Triangle = printed (kind_word Triangle) refl

unbroken_reason : (why : Why) → Unbroken (reason_word why)
unbroken_reason Disordered = printed (reason_word Disordered) refl
unbroken_reason Shut = printed (reason_word Shut) refl
unbroken_reason Bound = printed (reason_word Bound) refl

unbroken_total : (total : Option ℕ) → IfSome total (λ greatest. greatest < 2 ^ 64) → Unbroken (total_word total)
unbroken_total None small = printed (total_word None) refl
unbroken_total (Some total) small = unbroken_decimal total small

number_letters : (number : List ℕ) → is_number number ≡ true → (length number ≤ 8) × (list_all is_ascii_alphanumeric number ≡ true)
number_letters number is =
    let parts = and_parts (nat_le 1 (length number) && nat_le (length number) 8) (list_all is_ascii_alphanumeric number) is in
    (leb-true (length number) 8 (and_parts (nat_le 1 (length number)) (nat_le (length number) 8) parts.0).1, parts.1)

unbroken_line : (line : Line) → IsLine line → Unbroken (line_text line)
unbroken_line (HeadingLine One) is = printed (line_text (HeadingLine One)) refl
unbroken_line (HeadingLine Two) is = printed (line_text (HeadingLine Two)) refl
unbroken_line (ClaimLine number kind total) is =
    unbroken_three (codes "CLAIM") number (kind_word kind) (total_word total) (printed (codes "CLAIM") refl) (unbroken_by is_ascii_alphanumeric number (number_letters number is.0).1 refl) (unbroken_kind kind)
    (unbroken_total total is.1)
unbroken_line (FixLine fixes) is =
    unbroken_both (codes "FIX") (spaced (map decimal fixes)) (printed (codes "FIX") refl)
    (unbroken_spaced decimal (λ fix. fix < 2 ^ 32) (λ fix small. unbroken_decimal fix (omega (arith, small))) fixes is.each)
unbroken_line (BoxLine why spans) is =
    unbroken_both (codes "BOX") (spaced (reason_word why ∷ map span_word spans)) (printed (codes "BOX") refl)
    (unbroken_both (32 ∷ reason_word why) (spaced (map span_word spans)) (unbroken_both (32 ∷ []) (reason_word why) (printed (32 ∷ []) refl) (unbroken_reason why))
    (unbroken_spaced span_word IsSpan unbroken_span spans is.each))
unbroken_line EndLine is = printed (line_text EndLine) refl

short_decimal : (n : ℕ) → n < 2 ^ 32 → length (decimal n) ≤ 10
short_decimal n small = length-decimal-le 10 n (omega arith) (omega (arith, small)) (omega (arith, small))

short_span : (span : ℕ × ℕ) → IsSpan span → length (span_word span) ≤ 21
short_span span is =
    omega (arith, length-append (decimal span.0) (45 ∷ decimal span.1), short_decimal span.0 (omega (arith, is.0, is.1)), short_decimal span.1 is.1)

short_spaced : {X : Type 0} (word : X → List ℕ) (Is : X → Type 0) (most : ℕ) → ((x : X) → Is x → length (word x) ≤ most) → (xs : List X) → All Is xs
    → length (spaced (map word xs)) ≤ (most + 1) * length xs
short_spaced word Is most each [] are = omega arith
short_spaced word Is most each (x ∷ xs) are =
    let on = short_spaced word Is most each xs (All-tail Is x xs are) in
    let more : (most + 1) * (1 + length xs) ≡ (most + 1) + (most + 1) * length xs = omega arith in
    omega (arith, length-append (32 ∷ word x) (spaced (map word xs)), each x (All-head Is x xs are), on, more)

short_kind : (kind : ClaimKind) → length (kind_word kind) ≤ 8
short_kind Area = omega arith
short_kind Out = omega arith
short_kind Free = omega arith
short_kind Triangle = omega arith

short_reason : (why : Why) → length (reason_word why) ≤ 1
short_reason Disordered = omega arith
short_reason Shut = omega arith
short_reason Bound = omega arith

short_total : (total : Option ℕ) → IfSome total (λ greatest. greatest < 2 ^ 64) → length (total_word total) ≤ 20
short_total None small = omega arith
short_total (Some total) small = length-decimal-le 20 total (omega arith) (omega (arith, small)) small

short_line : (line : Line) → IsLine line → length (line_text line) + 1 ≤ 1_024
short_line (HeadingLine One) is = omega arith
short_line (HeadingLine Two) is = omega arith
short_line (ClaimLine number kind total) is =
    let words = spaced (number ∷ kind_word kind ∷ total_word total ∷ []) in
    omega (
      arith,
      length-append (codes "CLAIM") words,
      length-append (32 ∷ number) (spaced (kind_word kind ∷ total_word total ∷ [])),
      length-append (32 ∷ kind_word kind) (spaced (total_word total ∷ [])),
      length-append (32 ∷ total_word total) [],
      (number_letters number is.0).0,
      short_kind kind,
      short_total total is.1,
    )
short_line (FixLine fixes) is =
    omega (arith, length-append (codes "FIX") (spaced (map decimal fixes)), short_spaced decimal (λ fix. fix < 2 ^ 32) 10 short_decimal fixes is.each, is.most)
short_line (BoxLine why spans) is =
    omega (
      arith,
      length-append (codes "BOX") (spaced (reason_word why ∷ map span_word spans)),
      length-append (32 ∷ reason_word why) (spaced (map span_word spans)),
      short_reason why,
      short_spaced span_word IsSpan 21 short_span spans is.each,
      is.most,
    )
short_line EndLine is = omega arith

is_line : (last : Option Line) (line : Line) → MayCome proof_rules last line → IsLine line
is_line None line may = subst IsLine (sym may.1) tt
is_line (Some last) line may = may.0

ended_at : (last : Option Line) → IsTrue (is_ended (place_after last)) ↔ (last ≡ Some EndLine)
ended_at None = (λ false_. absurd (false≢true false_), λ same. absurd (cc))
ended_at (Some (HeadingLine version)) = (λ false_. absurd (false≢true false_), λ same. absurd (cc))
ended_at (Some (ClaimLine number kind None)) = (λ false_. absurd (false≢true false_), λ same. absurd (cc))
ended_at (Some (ClaimLine number kind (Some total))) = (λ false_. absurd (false≢true false_), λ same. absurd (cc))
ended_at (Some (FixLine fixes)) = (λ false_. absurd (false≢true false_), λ same. absurd (cc))
ended_at (Some (BoxLine why spans)) = (λ false_. absurd (false≢true false_), λ same. absurd (cc))
ended_at (Some EndLine) = (λ _. refl, λ _. refl)

pub are_proof_lines : AreLineRules ProofPlace Line proof_rules (λ last place. place ≡ place_after last) is_ended
are_proof_lines = record {
  unbroken = λ last line may. unbroken_line line (is_line last line may);
  short = λ last line may. short_line line (is_line last line may);
  ended = λ last place is. subst (λ (p : ProofPlace). IsTrue (is_ended p) ↔ (last ≡ Some EndLine)) (sym is) (ended_at last);
}
