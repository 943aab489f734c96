-- The number of an entrant at the front of a text.
use Rattle.std.proofs.Common.{◌≡◌, ◌∙◌, sym, ap, refl, ℕ, ◌≤◌, true, ◌&&◌, List, ◌∷◌, ◌++◌, length, arith}
use Rattle.std.specs.Char.{is_ascii_alphanumeric}
use Rattle.std.specs.List.{list_all}
use Rattle.std.specs.Prelude.{nat_le}
use Rattle.std.proofs.lemmas.Bool.{and_parts, and_from, le-leb, leb-true}
use Rattle.gl_proof.specs.Fronts.{Stops}
use Rattle.gl_proof.proofs.Codes.{front_unique}
use Rattle.gl_proof.specs.Code.Fronts.{IsEntrantAt}
use Rattle.gl_text.specs.Forms.{is_number}

pub is_number_parts : (number : List ℕ) → is_number number ≡ true → (1 ≤ length number) × (length number ≤ 8) × (list_all is_ascii_alphanumeric number ≡ true)
is_number_parts number is =
    let parts = and_parts (nat_le 1 (length number) && nat_le (length number) 8) (list_all is_ascii_alphanumeric number) is in
    let ends = and_parts (nat_le 1 (length number)) (nat_le (length number) 8) parts.0 in
    (leb-true 1 (length number) ends.0, leb-true (length number) 8 ends.1, parts.1)

pub is_number_from : (number : List ℕ) → 1 ≤ length number → length number ≤ 8 → list_all is_ascii_alphanumeric number ≡ true → is_number number ≡ true
is_number_from number some most all =
    and_from (nat_le 1 (length number) && nat_le (length number) 8) (list_all is_ascii_alphanumeric number)
    (and_from (nat_le 1 (length number)) (nat_le (length number) 8) (le-leb 1 (length number) some) (le-leb (length number) 8 most)) all

-- letters and digits at the front of a text are those of the entrant's number
pub entrant_front : (text front back number rest : List ℕ) → list_all is_ascii_alphanumeric front ≡ true → Stops is_ascii_alphanumeric back → text ≡ front ++ back → IsEntrantAt text number rest
    → (front ≡ number) × (back ≡ 32 ∷ rest) × (1 ≤ length front) × (length front ≤ 8)
entrant_front text front back number rest all stops is at =
    let parts = is_number_parts number at.0 in
    let same = front_unique is_ascii_alphanumeric front number back (32 ∷ rest) all parts.2 stops refl (sym is ∙ at.1) in
    let long = ap length same.0 in
    (same.0, same.1, omega (arith, long, parts.0), omega (arith, long, parts.1))
