-- A right answer without a result says one line.
use Rattle.std.proofs.Common.{◌≡◌, refl, sym, subst, ℕ, zero, suc, ◌/◌, ◌%◌, true, false, ◌==◌, if◌then◌else◌, List, [], ◌∷◌, ◌++◌, codes, arith}
use Rattle.std.specs.Fmt.{decimal, digits, digits_onto, digit_glyph}
use Rattle.std.proofs.lemmas.Bool.Decides.{nat_tests}
use Rattle.std.proofs.lemmas.List.Folds.{list_all-append}
use Rattle.std.proofs.lemmas.List.Sums.{AllPass-from_list_all}
use Rattle.std.proofs.lemmas.List.Elements.{All-contains}
use Rattle.gl_text.proofs.Forms.{is_inside, is_unbroken}
use Rattle.gl_answer.specs.declared.refusal.Cause.{Cause}
use Rattle.gl_answer.specs.declared.refusal.Cause.TheVariants.{NotListed, Listed, TooLarge, NotIgc, NoDate, TooManyFixes, NoFix, NotToml, NoKey, WrongValue, NumberTwice, TooManyItems, WrongAirspace, TooMuchAirspace, WrongStep, TooManySteps, NoHeading, WrongProof, ProofCut, WrongDay, NoNearHeading, WrongNearProof, NearProofCut, NoListHeading, NoSheetHeading, WrongListLine, WrongRecord}
use Rattle.gl_answer.specs.Refusals.{Parts, Place, Nowhere, AtLine, AtRecord, AtKey, parts_of, place_text, line_with, refusal_line, file_refusal}
use Rattle.gl_answer.specs.Answer.{Answer, refused}
use Rattle.gl_answer.specs.Texts.{IsLine, wrong_line}

-- such a text and an LF are one line
pub line_of : (text : List ℕ) → is_unbroken text ≡ true → IsLine (text ++ 10 ∷ [])
line_of text inside = record {
  line = text;
  unbroken = λ has. let no : is_inside 10 ≡ true = All-contains (λ b. is_inside b ≡ true) text 10 (AllPass-from_list_all is_inside text inside) has in cc;
  ended = refl;
}

-- a line of unbroken parts is one line
parts_are_line : (parts : Parts) (file : List ℕ) → is_unbroken parts.kind ≡ true → is_unbroken (decimal parts.number) ≡ true → is_unbroken (place_text parts.place) ≡ true → is_unbroken file ≡ true
    → IsLine (line_with parts file)
unfolding line_with
parts_are_line parts file kind number place named =
    line_of (codes "REFUSED " ++ parts.kind ++ codes " " ++ decimal parts.number ++ codes " " ++ place_text parts.place ++ codes " " ++ file)
    (simp (list_all-append, kind, number, place, named) refl)

-- a digit isn't LF
glyph_inside : (d : ℕ) → is_inside (digit_glyph false d) ≡ true
glyph_inside d = grind (arith, nat_tests)

digits_unbroken : (k n : ℕ) (ds : List ℕ) → is_unbroken ds ≡ true → is_unbroken (digits_onto k 10 false n ds) ≡ true
digits_unbroken zero n ds unbroken = unbroken
digits_unbroken (suc k) n ds unbroken =
    let more : is_unbroken (digit_glyph false (n % 10) ∷ ds) ≡ true = rw (glyph_inside (n % 10), unbroken) refl in
    elim (n / 10 == 0) as (λ b. is_unbroken (if b then digit_glyph false (n % 10) ∷ ds else digits_onto k 10 false (n / 10) (digit_glyph false (n % 10) ∷ ds)) ≡ true) [
      | true ↦ more
      | false ↦ digits_unbroken k (n / 10) (digit_glyph false (n % 10) ∷ ds) more
    ]

pub number_unbroken : (n : ℕ) → is_unbroken (decimal n) ≡ true
unfolding digits
number_unbroken n = digits_unbroken 64 n [] refl

place_unbroken : (place : Place) → is_unbroken (place_text place) ≡ true
place_unbroken Nowhere = refl
place_unbroken (AtLine line) = number_unbroken line
place_unbroken (AtRecord number) = number_unbroken number
place_unbroken (AtKey row item part) = simp (list_all-append, number_unbroken row, number_unbroken item, number_unbroken part) refl

kind_unbroken : (cause : Cause) → is_unbroken (parts_of cause).kind ≡ true
kind_unbroken NotListed = refl
kind_unbroken Listed = refl
kind_unbroken TooLarge = refl
kind_unbroken NotIgc = refl
kind_unbroken NoDate = refl
kind_unbroken WrongDay = refl
kind_unbroken (TooManyFixes line) = refl
kind_unbroken NoFix = refl
kind_unbroken NotToml = refl
kind_unbroken (NoKey key) = refl
kind_unbroken (WrongValue key) = refl
kind_unbroken (NumberTwice key) = refl
kind_unbroken (TooManyItems key) = refl
kind_unbroken (WrongAirspace line) = refl
kind_unbroken (TooMuchAirspace line) = refl
kind_unbroken (WrongStep line) = refl
kind_unbroken TooManySteps = refl
kind_unbroken NoHeading = refl
kind_unbroken (WrongProof line) = refl
kind_unbroken ProofCut = refl
kind_unbroken NoNearHeading = refl
kind_unbroken (WrongNearProof line) = refl
kind_unbroken NearProofCut = refl
kind_unbroken NoListHeading = refl
kind_unbroken (WrongListLine line) = refl
kind_unbroken NoSheetHeading = refl
kind_unbroken (WrongRecord number) = refl

-- a refusal of a file whose name has no LF is one line
refusal_is_line : (file : List ℕ) (cause : Cause) → is_unbroken file ≡ true → IsLine (refusal_line (file_refusal file cause))
refusal_is_line file cause named =
    parts_are_line (parts_of cause) file (kind_unbroken cause) (number_unbroken (parts_of cause).number) (place_unbroken (parts_of cause).place) named

-- an answer that says the line of a refusal says one line
pub said_by : (answer : Answer) (file : List ℕ) (cause : Cause) → answer ≡ refused file cause → is_unbroken file ≡ true → IsLine answer.said
said_by answer file cause same named = subst (λ (a : Answer). IsLine a.said) (sym same) (refusal_is_line file cause named)

-- the line of a proof that isn't accepted is one
pub wrong_is_line : (claim : ℕ) (word : List ℕ) (box : ℕ) → is_unbroken word ≡ true → IsLine (wrong_line claim word box)
unfolding wrong_line
wrong_is_line claim word box named =
    line_of (codes "NOT PROVED " ++ decimal claim ++ codes " " ++ word ++ codes " " ++ decimal box)
    (simp (list_all-append, number_unbroken claim, named, number_unbroken box) refl)
