-- Pieces that are appended to a file one after the other make their text.
use Rattle.std.proofs.Common.{◌≡◌, ◌∙◌, refl, sym, ap, subst, ℕ, ◌+◌, ◌<◌, Bool, true, false, List, [], ◌++◌, length, take, Option, None, Some, append-nil, append_assoc, inl, inr, arith}
use Rattle.std.specs.Prelude.{min}
use Rattle.std.proofs.Math.Seq.{take-append-add, take-length}
use Rattle.std.proofs.lemmas.List.{length-append, take-append-le, take_min}
use Rattle.gl_desk.specs.Answers.{CountsFaults, OnlyReads}
use Rattle.gl_desk.specs.Desk.{AppendedByName, FilesByName, FileTakes, Told, file_of, followed_by, grown_by, output_of}
use Rattle.gl_desk.specs.declared.error.DeskError.{DeskError}
use Rattle.gl_desk.specs.declared.error.DeskError.TheVariants.{Memory}
use Rattle.gl_answer.specs.Appending.{Appends, HasAppended, HasAppendedPart, IsAppended}
use Rattle.gl_proof.specs.Kept.{Writes, left_if}
use Rattle.gl_desk.proofs.DeskLemmas.{followed_by-followed_by, grown_by-grown_by}

-- nothing follows where nothing is added
followed_none : (text : Option (List ℕ)) → followed_by text [] ≡ text
followed_none None = refl
followed_none (Some text) = ap Some (append-nil text)

-- nothing was added to the second piece's file
empty_end : (a b : List ℕ) → b ≡ [] → a ++ b ≡ a
empty_end a b none = ap (λ (x : List ℕ). a ++ x) none ∙ append-nil a

empty_front : (a b : List ℕ) → a ≡ [] → a ++ b ≡ b
empty_front a b none = ap (λ (x : List ℕ). x ++ b) none

file_twice : (x y z : Option FilesByName) (name a b : List ℕ) → FileTakes x y name a → FileTakes y z name b → FileTakes x z name (a ++ b)
file_twice x y z name a b one two =
    elim one [
      | inl grows ↦ elim two [
        | inl more ↦ inl (more ∙ ap (λ (f : Option (Option (List ℕ))). grown_by f b) grows ∙ grown_by-grown_by (file_of x name) a b)
        | inr same ↦ inl (same.1 ∙ grows ∙ ap (grown_by (file_of x name)) (sym (empty_end a b same.0)))
      ]
      | inr same ↦ elim two [
        | inl more ↦ inl (more ∙ ap (λ (f : Option (Option (List ℕ))). grown_by f b) same.1 ∙ ap (grown_by (file_of x name)) (sym (empty_front a b same.0)))
        | inr still ↦ inr (empty_front a b same.0 ∙ still.0, still.1 ∙ same.1)
      ]
    ]

-- one piece after the other
appended_twice : (file a b : List ℕ) (x y z : Told) → IsAppended (Some file) a x y → IsAppended (Some file) b y z → IsAppended (Some file) (a ++ b) x z
appended_twice file a b x y z one two = (
  two.0 ∙ ap (λ (t : Option (List ℕ)). followed_by t b) one.0 ∙ followed_by-followed_by (output_of x.outputs file) a b,
  file_twice x.folder y.folder z.folder file a b one.1 two.1,
  λ other differs. ((two.2 other differs).0 ∙ (one.2 other differs).0, (two.2 other differs).1 ∙ (one.2 other differs).1),
)

-- nothing was appended
appended_none : (file : List ℕ) (x : Told) → IsAppended (Some file) [] x x
appended_none file x = (sym (followed_none (output_of x.outputs file)), inr (refl, refl), λ other differs. (refl, refl))

pub HasAppended-none : (file : List ℕ) (x : Told) → HasAppended file [] x x
HasAppended-none file x = record { appended = appended_none file x; said = refl; faults = refl }

pub HasAppended-then : (file a b : List ℕ) (x y z : Told) → HasAppended file a x y → HasAppended file b y z → HasAppended file (a ++ b) x z
HasAppended-then file a b x y z one two = record {
  appended = appended_twice file a b x y z one.appended two.appended;
  said = two.said ∙ one.said;
  faults = two.faults ∙ one.faults;
}

counted : (stop : DeskError) (a b c : ℕ) → b ≡ a → CountsFaults (Some stop) b c → CountsFaults (Some stop) a c
counted stop a b c same counts = subst (λ (n : ℕ). CountsFaults (Some stop) n c) same counts

pub HasAppendedPart-then : (file a b : List ℕ) (x y z : Told) (stop : DeskError) → HasAppended file a x y → HasAppendedPart file b y z stop → HasAppendedPart file (a ++ b) x z stop
HasAppendedPart-then file a b x y z stop one two = record {
  count = length a + two.count;
  appended = subst (λ (text : List ℕ). IsAppended (Some file) text x z) (sym (take-append-add a b two.count)) (appended_twice file a (take two.count b) x y z one.appended two.appended);
  said = two.said ∙ one.said;
  faults = counted stop x.faults y.faults z.faults one.faults two.faults;
}

-- a first part of a text is one of each longer text
first_part : (n : ℕ) (a b : List ℕ) → take (min n (length a)) (a ++ b) ≡ take n a
first_part n a b = take-append-le (min n (length a)) a b (omega arith) ∙ take_min n a

pub HasAppendedPart-longer : (file a b : List ℕ) (x y : Told) (stop : DeskError) → HasAppendedPart file a x y stop → HasAppendedPart file (a ++ b) x y stop
HasAppendedPart-longer file a b x y stop part = record {
  count = min part.count (length a);
  appended = subst (λ (text : List ℕ). IsAppended (Some file) text x y) (sym (first_part part.count a b)) part.appended;
  said = part.said;
  faults = part.faults;
}

-- a call that only reads appends nothing
reads_appended : (file : List ℕ) (stop : Option DeskError) (y z : Told) → OnlyReads stop y z → IsAppended (Some file) [] y z
reads_appended file stop y z reads = (
  ap (λ (o : Option AppendedByName). output_of o file) reads.outputs ∙ sym (followed_none (output_of y.outputs file)),
  inr (refl, ap (λ (f : Option FilesByName). file_of f file) reads.folder),
  λ other differs. (ap (λ (o : Option AppendedByName). output_of o other) reads.outputs, ap (λ (f : Option FilesByName). file_of f other) reads.folder),
)

pub HasAppended-reads : (file a : List ℕ) (x y z : Told) → HasAppended file a x y → OnlyReads None y z → HasAppended file a x z
HasAppended-reads file a x y z one reads = record {
  appended = subst (λ (text : List ℕ). IsAppended (Some file) text x z) (append-nil a) (appended_twice file a [] x y z one.appended (reads_appended file None y z reads));
  said = reads.said ∙ one.said;
  faults = reads.faults ∙ one.faults;
}

-- memory was wanting, and nothing else changed
pub HasAppendedPart-memory : (file a : List ℕ) (x y : Told) → HasAppended file a x y → HasAppendedPart file a x y Memory
HasAppendedPart-memory file a x y one = record {
  count = length a;
  appended = subst (λ (text : List ℕ). IsAppended (Some file) text x y) (sym (take-length a)) one.appended;
  said = one.said;
  faults = one.faults;
}

-- what a call left that only read, and then something was appended
pub reads-none : (proof : List ℕ) (x y : Told) → OnlyReads None x y → HasAppended proof [] x y
reads-none proof x y reads = HasAppended-reads proof [] x x y (HasAppended-none proof x) reads

pub part_after : (proof text : List ℕ) (x y z : Told) (stop : DeskError) → OnlyReads None x y → HasAppendedPart proof text y z stop → HasAppendedPart proof text x z stop
part_after proof text x y z stop reads part = HasAppendedPart-then proof [] text x y z stop (reads-none proof x y reads) part

-- nothing of a text was appended, for want of memory
pub none_memory : (file text : List ℕ) (x : Told) → HasAppendedPart file text x x Memory
none_memory file text x = HasAppendedPart-longer file [] text x x Memory (HasAppendedPart-memory file [] x x (HasAppended-none file x))

-- lines that were written into nothing are appended
text_of_piece : (text old new written : List ℕ) → text ≡ new → new ≡ old ++ written → old ≡ [] → text ≡ written
text_of_piece text old new written is made none = is ∙ made ∙ ap (λ (l : List ℕ). l ++ written) none

pub lines_appended : (file text old new whole rest : List ℕ) (more : Bool) (x y : Told) → old ≡ [] → Writes old new whole rest more → text ≡ new → HasAppended file text x y
    → Appends file whole rest x y more
lines_appended file text old new whole rest more x y none piece is appended = record {
  first = piece.written;
  appended = subst (λ (t : List ℕ). HasAppended file t x y) (text_of_piece text old new piece.written is piece.text none) appended;
  parts = piece.parts;
  some = piece.some;
}

pub lines_stopped : (file text old new whole rest : List ℕ) (more : Bool) (x y : Told) (stop : DeskError) → old ≡ [] → Writes old new whole rest more → text ≡ new
    → HasAppendedPart file text x y stop → HasAppendedPart file whole x y stop
lines_stopped file text old new whole rest more x y stop none piece is part =
    let front = subst (λ (t : List ℕ). HasAppendedPart file t x y stop) (text_of_piece text old new piece.written is piece.text none) part in
    subst (λ (t : List ℕ). HasAppendedPart file t x y stop) (sym piece.parts) (HasAppendedPart-longer file piece.written (left_if more rest) x y stop front)

-- a first part of the lines is appended, and the rest is left
pub record HasAppendedFirst (file whole rest : List ℕ) (before now : Told) : Type 0 where
  pub first : List ℕ
  pub appended : HasAppended file first before now
  pub parts : whole ≡ first ++ rest

pub first_none : (file whole : List ℕ) (x : Told) → HasAppendedFirst file whole whole x x
first_none file whole x = record { first = []; appended = HasAppended-none file x; parts = refl }

pub first_more : (file whole rest left : List ℕ) (x y z : Told) → HasAppendedFirst file whole rest x y → (next : Appends file rest left y z true) → HasAppendedFirst file whole left x z
first_more file whole rest left x y z has next = record {
  first = has.first ++ next.first;
  appended = HasAppended-then file has.first next.first x y z has.appended next.appended;
  parts = has.parts ∙ ap (λ (l : List ℕ). has.first ++ l) next.parts ∙ sym (append_assoc has.first next.first left);
}

pub first_less : (file rest left : List ℕ) (y z : Told) → Appends file rest left y z true → length left < length rest
first_less file rest left y z next = omega (arith, ap length next.parts, length-append next.first left, next.some refl)

pub first_all : (file whole rest left : List ℕ) (x y z : Told) → HasAppendedFirst file whole rest x y → Appends file rest left y z false → HasAppended file whole x z
first_all file whole rest left x y z has next =
    subst (λ (t : List ℕ). HasAppended file t x z) (ap (λ (l : List ℕ). has.first ++ l) (sym (next.parts ∙ append-nil next.first)) ∙ sym has.parts)
    (HasAppended-then file has.first next.first x y z has.appended next.appended)

pub first_stopped : (file whole rest : List ℕ) (x y z : Told) (stop : DeskError) → HasAppendedFirst file whole rest x y → HasAppendedPart file rest y z stop → HasAppendedPart file whole x z stop
first_stopped file whole rest x y z stop has part =
    subst (λ (t : List ℕ). HasAppendedPart file t x z stop) (sym has.parts) (HasAppendedPart-then file has.first rest x y z stop has.appended part)
