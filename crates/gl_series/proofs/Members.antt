-- How the line of a member of a team reads.
use Rattle.std.proofs.Common.{◌≡◌, ◌≢◌, ◌∙◌, sym, ap, subst, ℕ, true, List, [], ◌∷◌, ◌++◌, Option, None}
use Rattle.std.specs.Prelude.{All, IsTrue, IsUtf8, MatchOption}
use Rattle.std.specs.Char.{is_ascii_alphanumeric}
use Rattle.std.specs.List.{list_all}
use Rattle.std.specs.Str.{IsAscii}
use Rattle.std.proofs.lemmas.Bool.{false≢true, and_parts}
use Rattle.std.proofs.lemmas.Str.{IsUtf8-from_ascii}
use Rattle.std.proofs.lemmas.List.Elements.{All-cons, All-nil}
use Rattle.gl_text.specs.Spaces.{IsSpaced}
use Rattle.gl_text.specs.Forms.{is_number, is_short}
use Rattle.gl_text.proofs.Characters.{first_space, letters_ascii}

-- a number has no space, and is ASCII
letters_spaceless : (text : List ℕ) → list_all is_ascii_alphanumeric text ≡ true → All (λ byte. byte ≢ 32) text
letters_spaceless [] all = All-nil (λ byte. byte ≢ 32)
letters_spaceless (b ∷ bs) all =
    let both = and_parts (is_ascii_alphanumeric b) (list_all is_ascii_alphanumeric bs) all in
    All-cons (λ byte. byte ≢ 32) b bs (λ same. false≢true (ap is_ascii_alphanumeric (sym same) ∙ both.0)) (letters_spaceless bs both.1)

letters_of : (text : List ℕ) → IsTrue (is_number text) → list_all is_ascii_alphanumeric text ≡ true
letters_of text is = (and_parts (is_short text 8) (list_all is_ascii_alphanumeric text) is).1

pub number_spaceless : (text : List ℕ) → IsTrue (is_number text) → All (λ byte. byte ≢ 32) text
number_spaceless text is = letters_spaceless text (letters_of text is)

-- a member's line, cut at its first space
pub member_parted : (rest one another number team : List ℕ) → IsTrue (is_number number) → IsSpaced rest one another → rest ≡ number ++ 32 ∷ team → (one ≡ number) × (another ≡ team)
member_parted rest one another number team is_number spaced same =
    first_space one number another team spaced.none (number_spaceless number is_number) (sym spaced.is ∙ same)

pub number_ascii : (text : List ℕ) → IsTrue (is_number text) → IsAscii text
number_ascii text is = letters_ascii text (letters_of text is)

-- what isn't text is no number
pub not_number : {X : Type 0} (found : Option X) (Q : X → Type 0) (field bytes : List ℕ) → found ≡ None → bytes ≡ field → (IsUtf8 bytes → ⊥) → MatchOption found (IsTrue (is_number field) → ⊥) Q
not_number found Q field bytes none same unread =
    let no : IsTrue (is_number field) → ⊥ = λ is. unread (subst IsUtf8 (sym same) (IsUtf8-from_ascii field (number_ascii field is))) in
    subst (λ o. MatchOption o (IsTrue (is_number field) → ⊥) Q) (sym none) no
