use Rattle.std.proofs.Common.{◌≡◌, ℕ, ◌+◌, ◌-◌, ◌≤◌, List, ◌++◌, length, take, drop, Option, None, Some, append_assoc, sym, ap, ◌∙◌, arith}
use Rattle.std.proofs.lemmas.List.{length-append, length-take}
use Rattle.std.proofs.Math.Seq.{take-add}
use Rattle.std.specs.Prelude.{IfSome}
use Rattle.std.specs.Io.KnownBytes.{Appends}
use Rattle.gl_desk.specs.Desk.{FilesByName, OnFile, ReadsFrom}

-- the text has this length and is the file's first part
abbrev pub IsFirstPart : List ℕ → ℕ → List ℕ → Type 0
IsFirstPart text n file = (text ≡ take n file) × (n ≤ length file)

of_file : (file : Option (List ℕ)) (text grown buffer : List ℕ) (at n m : ℕ) → grown ≡ text ++ take n buffer → m ≡ at + n
    → IfSome file (IsFirstPart text at) → IfSome file (λ bytes. ReadsFrom bytes at buffer n) → IfSome file (IsFirstPart grown m)
of_file None text grown buffer at n m more longer first reads = tt
of_file (Some file) text grown buffer at n m more longer first reads = (
  more ∙ ap (λ (t : List ℕ). t ++ take n buffer) first.0 ∙ ap (λ (t : List ℕ). take at file ++ t) reads.bytes
      ∙ sym (take-add at n file) ∙ ap (λ (k : ℕ). take k file) (sym longer),
  omega (arith, reads.within),
)

-- a first part of the file, and the bytes that were read behind it, are a first part again
pub first_part_grows : (told : Option FilesByName) (name text grown buffer : List ℕ) (at n m : ℕ)
    → grown ≡ text ++ take n buffer → m ≡ at + n
    → OnFile told name (IsFirstPart text at) → OnFile told name (λ file. ReadsFrom file at buffer n)
    → OnFile told name (IsFirstPart grown m)
first_part_grows None name text grown buffer at n m more longer first reads = tt
first_part_grows (Some files) name text grown buffer at n m more longer first reads =
    of_file (files name) text grown buffer at n m more longer first reads

-- so many bytes more are still few enough, and are counted
pub fits_more : (count n limit : ℕ) → count ≤ limit → n ≤ limit - count → count + n ≤ limit
fits_more count n limit fits few = omega arith

pub counted_more : (count n : ℕ) (text buffer : List ℕ) → count ≡ length text → n ≤ length buffer → count + n ≡ length (text ++ take n buffer)
counted_more count n text buffer counted within = simp (length-append, length-take) (omega arith)

-- a first part of the piece that was written, and what was taken of the rest, are a first part again
pub written_part_grows : (before now after : Option (List ℕ)) (piece : List ℕ) (at n : ℕ)
    → Appends before now (take at piece) → Appends now after (take n (drop at piece))
    → Appends before after (take (at + n) piece)
written_part_grows None now after piece at n first taken = tt
written_part_grows (Some xs) None after piece at n first taken = absurd first
written_part_grows (Some xs) (Some ys) None piece at n first taken = absurd taken
written_part_grows (Some xs) (Some ys) (Some zs) piece at n first taken =
    taken ∙ ap (λ (t : List ℕ). t ++ take n (drop at piece)) first ∙ append_assoc xs (take at piece) (take n (drop at piece))
    ∙ ap (λ (t : List ℕ). xs ++ t) (sym (take-add at n piece))
