-- A text that grows piece by piece.
use Rattle.std.proofs.Common.{◌≡◌, ◌∙◌, sym, ap, refl, ℕ, ◌+◌, ◌<◌, ◌≤◌, true, false, List, [], ◌∷◌, ◌++◌, length, get_or, take, map, append_assoc, arith}
use Rattle.std.specs.List.{flat_map}
use Rattle.std.proofs.lemmas.List.{append-nil, length-append, map_push, take_more}
use Rattle.std.proofs.lemmas.List.Concat.{flat_map-append}
use Rattle.gl_proof.specs.Kept.{Keeps, Writes}

pub keeps_behind : (before after end piece : List ℕ) → after ≡ before ++ piece → Keeps after end → Keeps before end
keeps_behind before after end piece is keeps =
    (piece ++ keeps.0, keeps.1 ∙ ap (λ (l : List ℕ). l ++ keeps.0) is ∙ append_assoc before piece keeps.0)

pub pieces_push : {A B C : Type 0} (f : B → List C) (g : A → B) (xs : List A) (x : A) → flat_map f (map g (xs ++ x ∷ [])) ≡ flat_map f (map g xs) ++ f (g x)
pieces_push f g xs x =
    ap (flat_map f) (map_push g xs x) ∙ flat_map-append f (map g xs) (g x ∷ []) ∙ ap (λ l. flat_map f (map g xs) ++ l) (append-nil (f (g x)))

-- one piece more
pub pieces_more : {A B C : Type 0} (f : B → List C) (g : A → B) (before : List C) (xs : List A) (i : ℕ) (d : A) → i < length xs
    → (before ++ flat_map f (map g (take i xs))) ++ f (g (get_or xs i d)) ≡ before ++ flat_map f (map g (take (i + 1) xs))
pieces_more f g before xs i d below =
    append_assoc before (flat_map f (map g (take i xs))) (f (g (get_or xs i d)))
    ∙ ap (λ l. before ++ l) (sym (ap (λ l. flat_map f (map g l)) (take_more xs i d below) ∙ pieces_push f g (take i xs) (get_or xs i d)))

-- a first part of a text is written, at least so many bytes, and the rest is left
pub record HasWritten (before now whole rest : List ℕ) (count : ℕ) : Type 0 where
  pub written : List ℕ
  pub text : now ≡ before ++ written
  pub parts : whole ≡ written ++ rest
  pub many : count ≤ length written

pub written_none : (text whole : List ℕ) → HasWritten text text whole whole 0
written_none text whole = record { written = []; text = sym (append-nil text); parts = refl; many = omega arith }

text_behind : (before now after one two : List ℕ) → now ≡ before ++ one → after ≡ now ++ two → after ≡ before ++ (one ++ two)
text_behind before now after one two first second = second ∙ ap (λ (l : List ℕ). l ++ two) first ∙ append_assoc before one two

parts_behind : (whole rest left one two : List ℕ) → whole ≡ one ++ rest → rest ≡ two ++ left → whole ≡ (one ++ two) ++ left
parts_behind whole rest left one two first second = first ∙ ap (λ (l : List ℕ). one ++ l) second ∙ sym (append_assoc one two left)

pub written_more : (before now after whole rest left : List ℕ) (count next : ℕ) → HasWritten before now whole rest count → Writes now after rest left true → next ≤ count + 1
    → HasWritten before after whole left next
written_more before now after whole rest left count next has piece below = record {
  written = has.written ++ piece.written;
  text = text_behind before now after has.written piece.written has.text piece.text;
  parts = parts_behind whole rest left has.written piece.written has.parts piece.parts;
  many = omega (arith, length-append has.written piece.written, has.many, piece.some refl, below);
}

pub written_last : (before now after whole rest left : List ℕ) (count : ℕ) → HasWritten before now whole rest count → Writes now after rest left false → Writes before after whole left false
written_last before now after whole rest left count has piece = record {
  written = has.written ++ piece.written;
  text = text_behind before now after has.written piece.written has.text piece.text;
  parts = parts_behind whole rest [] has.written piece.written has.parts piece.parts;
  some = λ over. absurd (cc);
}

pub written_enough : (before now whole rest : List ℕ) (count : ℕ) → 0 < count → HasWritten before now whole rest count → Writes before now whole rest true
written_enough before now whole rest count above has = record { written = has.written; text = has.text; parts = has.parts; some = λ _. omega (arith, has.many, above) }

-- nothing is left
pub written_all : (before after whole left : List ℕ) → Writes before after whole left false → after ≡ before ++ whole
written_all before after whole left piece = piece.text ∙ ap (λ (l : List ℕ). before ++ l) (sym (piece.parts ∙ append-nil piece.written))

-- less is left
pub written_less : (now after rest left : List ℕ) → Writes now after rest left true → length left < length rest
written_less now after rest left piece = omega (arith, ap length piece.parts, length-append piece.written left, piece.some refl)

-- none was left
pub none_written : (text whole rest : List ℕ) → whole ≡ [] → Writes text text whole rest false
none_written text whole rest none = record { written = []; text = sym (append-nil text); parts = none; some = λ over. absurd (cc) }
