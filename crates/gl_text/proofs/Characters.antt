-- The first space of a text, and texts of letters and digits.
use Rattle.std.proofs.Common.{◌≡◌, ◌≢◌, ◌∙◌, ap, refl, ℕ, zero, suc, ◌<◌, true, List, [], ◌∷◌, ◌++◌, length, get_or, arith}
use Rattle.std.specs.Prelude.{All, IsAscii}
use Rattle.std.specs.Char.{is_ascii_alphanumeric}
use Rattle.std.specs.List.{list_all}
use Rattle.std.proofs.lemmas.Bool.{and_parts}
use Rattle.std.proofs.lemmas.Bool.Decides.{nat_tests}
use Rattle.std.proofs.lemmas.List.{get_or_at, length-append}
use Rattle.std.proofs.lemmas.List.Elements.{All-tail}

-- the first space of a text parts it in one way
pub first_space : (front other back behind : List ℕ) → All (λ byte. byte ≢ 32) front → All (λ byte. byte ≢ 32) other → front ++ 32 ∷ back ≡ other ++ 32 ∷ behind → (front ≡ other) × (back ≡ behind)
first_space [] [] back behind none_front none_other same = (refl, cc)
first_space [] (y ∷ ys) back behind none_front none_other same =
    let first : y ≡ 32 = cc in absurd (none_other 0 0 (omega arith) first)
first_space (x ∷ xs) [] back behind none_front none_other same =
    let first : x ≡ 32 = cc in absurd (none_front 0 0 (omega arith) first)
first_space (x ∷ xs) (y ∷ ys) back behind none_front none_other same =
    let first : x ≡ y = cc in
    let others : xs ++ 32 ∷ back ≡ ys ++ 32 ∷ behind = cc in
    let rest = first_space xs ys back behind (All-tail (λ byte. byte ≢ 32) x xs none_front) (All-tail (λ byte. byte ≢ 32) y ys none_other) others in
    (λ i. first i ∷ rest.0 i, rest.1)

pub no_space : (text front back : List ℕ) → ((k : ℕ) → k < length text → get_or text k 0 ≢ 32) → text ≢ front ++ 32 ∷ back
no_space text front back none same =
    none (length front) (omega (arith, ap length same, length-append front (32 ∷ back)))
    (ap (λ (l : List ℕ). get_or l (length front) 0) same ∙ get_or_at front 32 back 0 (length front) refl)

letter_small : (b : ℕ) → is_ascii_alphanumeric b ≡ true → b < 128
letter_small b letter = grind (arith, nat_tests)

-- letters and digits are ASCII
pub letters_ascii : (text : List ℕ) → list_all is_ascii_alphanumeric text ≡ true → IsAscii text
letters_ascii [] all k = omega arith
letters_ascii (b ∷ bs) all zero = letter_small b (and_parts (is_ascii_alphanumeric b) (list_all is_ascii_alphanumeric bs) all).0
letters_ascii (b ∷ bs) all (suc k) = letters_ascii bs (and_parts (is_ascii_alphanumeric b) (list_all is_ascii_alphanumeric bs) all).1 k
