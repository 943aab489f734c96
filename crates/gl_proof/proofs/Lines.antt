-- Lines that stand at the front of a text, part by part.
use Rattle.std.proofs.Common.{◌≡◌, ◌∙◌, sym, ap, refl, ℕ, ◌+◌, ◌^◌, ◌<◌, ◌≤◌, true, List, [], ◌∷◌, ◌++◌, length, get_or, take, map, slice_set, append_assoc, Option, arith}
use Rattle.std.specs.Char.{is_ascii_alphanumeric, is_ascii_digit}
use Rattle.std.specs.Fmt.{decimal}
use Rattle.std.specs.List.{list_all}
use Rattle.std.specs.Prelude.{All, codes}
use Rattle.std.proofs.lemmas.List.{append-nil, append_cancel_left, length-map, length-take-le, take_more_set}
use Rattle.gl_box.specs.declared.closed.Why.{Why}
use Rattle.gl_box.specs.declared.span.Span.{Span}
use Rattle.gl_box.specs.Cell.{ends}
use Rattle.gl_proof.specs.Fronts.{Stops}
use Rattle.gl_proof.specs.Words.{IsSpan, spaced, span_word, total_word}
use Rattle.gl_proof.proofs.Codes.{Continues, front_unique, words_front}
use Rattle.gl_proof.proofs.Words.{number_once, span_once}
use Rattle.gl_proof.specs.declared.claim.ClaimKind.{ClaimKind}
use Rattle.gl_proof.specs.declared.claim.ClaimKind.TheVariants.{Area, Out, Free, Triangle}
use Rattle.gl_proof.specs.Code.Fronts.{AreFixesAt, AreSpansAt, IsEntrantAt}
use Rattle.gl_proof.specs.Line.{BoxLine, ClaimLine, FixLine, ended, kind_word, reason_word}
use Rattle.gl_proof.proofs.Entrants.{entrant_front, is_number_parts}

-- the spans that were read, and those that are spelled
pub spans_on : (axes : ℕ) (spans : List Span) (text rest : List ℕ) (ys : List (ℕ × ℕ)) (more : List ℕ) → axes ≤ 10 → length spans ≡ 10
    → text ≡ spaced (map span_word (map ends (take axes spans))) ++ rest → All IsSpan (map ends (take axes spans)) → (0 < axes → Stops is_ascii_digit rest) → AreSpansAt text ys more
    → Continues span_word IsSpan (map ends (take axes spans)) ys rest more
spans_on axes spans text rest ys more few ten is each stops at =
    let long = length-take-le axes spans (omega arith) in
    words_front span_word IsSpan span_once (map ends (take axes spans)) ys rest more each at.are_spans.each
    (λ some. stops (omega (arith, some, long, length-map (take axes spans) ends))) (sym is ∙ at.is)

pub length-read : (axes : ℕ) (spans : List Span) → axes ≤ 10 → length spans ≡ 10 → length (map ends (take axes spans)) ≡ axes
length-read axes spans few ten = length-map (take axes spans) ends ∙ length-take-le axes spans (omega arith)

pub fixes_on : (fixes : List ℕ) (text rest ys more : List ℕ) → text ≡ spaced (map decimal fixes) ++ rest → All (λ fix. fix < 2 ^ 32) fixes → (0 < length fixes → Stops is_ascii_digit rest)
    → AreFixesAt text ys more → Continues decimal (λ fix. fix < 2 ^ 32) fixes ys rest more
fixes_on fixes text rest ys more is each stops at =
    words_front decimal (λ fix. fix < 2 ^ 32) number_once fixes ys rest more each at.are_fixes.each stops (sym is ∙ at.is)

-- a span more
pub ends_more : (axes : ℕ) (spans : List Span) (span : Span) → axes < length spans → map ends (take (axes + 1) (slice_set spans axes span)) ≡ map ends (take axes spans) ++ ends span ∷ []
ends_more axes spans span below = ap (map ends) (take_more_set spans axes span below) ∙ map_push' (take axes spans) span where
  map_push' : (xs : List Span) (x : Span) → map ends (xs ++ x ∷ []) ≡ map ends xs ++ ends x ∷ []
  map_push' [] x = refl
  map_push' (y ∷ ys) x = ap (λ (l : List (ℕ × ℕ)). ends y ∷ l) (map_push' ys x)

three_words : (word a b c r : List ℕ) → ((word ++ spaced (a ∷ b ∷ c ∷ [])) ++ 10 ∷ []) ++ r ≡ word ++ 32 ∷ (a ++ 32 ∷ (b ++ 32 ∷ (c ++ 10 ∷ r)))
three_words word a b c r =
    let q : List ℕ = 10 ∷ r in
    let last : ((32 ∷ c) ++ []) ++ q ≡ 32 ∷ (c ++ q) = ap (λ (l : List ℕ). l ++ q) (append-nil (32 ∷ c)) in
    let second : spaced (b ∷ c ∷ []) ++ q ≡ 32 ∷ (b ++ 32 ∷ (c ++ q)) = append_assoc (32 ∷ b) (spaced (c ∷ [])) q ∙ ap (λ (l : List ℕ). (32 ∷ b) ++ l) last in
    let first : spaced (a ∷ b ∷ c ∷ []) ++ q ≡ 32 ∷ (a ++ 32 ∷ (b ++ 32 ∷ (c ++ q))) = append_assoc (32 ∷ a) (spaced (b ∷ c ∷ [])) q ∙ ap (λ (l : List ℕ). (32 ∷ a) ++ l) second in
    append_assoc (word ++ spaced (a ∷ b ∷ c ∷ [])) (10 ∷ []) r ∙ append_assoc word (spaced (a ∷ b ∷ c ∷ [])) q ∙ ap (λ (l : List ℕ). word ++ l) first

-- the line of a claim, part by part
pub claim_is : (number : List ℕ) (kind : ClaimKind) (total : Option ℕ) (r : List ℕ)
    → ended (ClaimLine number kind total) ++ r ≡ codes "CLAIM " ++ (number ++ 32 ∷ (kind_word kind ++ 32 ∷ (total_word total ++ 10 ∷ r)))
claim_is number kind total r = three_words (codes "CLAIM") number (kind_word kind) (total_word total) r

pub fix_is : (fixes r : List ℕ) → ended (FixLine fixes) ++ r ≡ codes "FIX" ++ (spaced (map decimal fixes) ++ 10 ∷ r)
fix_is fixes r = simp (append_assoc, append-nil)

pub box_is : (why : Why) (spans : List (ℕ × ℕ)) (r : List ℕ) → ended (BoxLine why spans) ++ r ≡ codes "BOX " ++ (reason_word why ++ (spaced (map span_word spans) ++ 10 ∷ r))
box_is why spans r = simp (append_assoc, append-nil)

pub claim_tail : (text after number : List ℕ) (kind : ClaimKind) (total : Option ℕ) (r : List ℕ) → text ≡ codes "CLAIM " ++ after → text ≡ ended (ClaimLine number kind total) ++ r
    → after ≡ number ++ 32 ∷ (kind_word kind ++ 32 ∷ (total_word total ++ 10 ∷ r))
claim_tail text after number kind total r front line = append_cancel_left (codes "CLAIM ") _ _ (sym front ∙ line ∙ claim_is number kind total r)

pub entrant_unique : (text m n r q : List ℕ) → IsEntrantAt text m r → IsEntrantAt text n q → (m ≡ n) × (r ≡ q)
entrant_unique text m n r q one other =
    let same = entrant_front text m (32 ∷ r) n q (is_number_parts m one.0).2 refl one.1 other in
    let tails : 32 ∷ r ≡ 32 ∷ q = same.1 in
    (same.0, cc)

kind_letters : (kind : ClaimKind) → list_all is_ascii_alphanumeric (kind_word kind) ≡ true
kind_letters Area = refl
kind_letters Out = refl
kind_letters Free = refl
kind_letters Triangle = refl

kind_first : ClaimKind → ℕ
kind_first Area = 65
kind_first Out = 79
kind_first Free = 70
kind_first Triangle = 84

first_is : (kind : ClaimKind) → get_or (kind_word kind) 0 0 ≡ kind_first kind
unfolding kind_first
first_is Area = refl
first_is Out = refl
first_is Free = refl
first_is Triangle = refl

kind_injective : (k j : ClaimKind) → kind_first k ≡ kind_first j → k ≡ j
unfolding kind_first
kind_injective Area Area same = refl
kind_injective Out Out same = refl
kind_injective Free Free same = refl
kind_injective Triangle Triangle same = refl
kind_injective k j same = absurd (omega arith)

pub kind_unique : (k j : ClaimKind) (r q : List ℕ) → kind_word k ++ 32 ∷ r ≡ kind_word j ++ 32 ∷ q → (k ≡ j) × (r ≡ q)
kind_unique k j r q same =
    let parts = front_unique is_ascii_alphanumeric (kind_word k) (kind_word j) (32 ∷ r) (32 ∷ q) (kind_letters k) (kind_letters j) refl refl same in
    let tails : 32 ∷ r ≡ 32 ∷ q = parts.1 in
    (kind_injective k j (sym (first_is k) ∙ ap (λ (l : List ℕ). get_or l 0 0) parts.0 ∙ first_is j), cc)
