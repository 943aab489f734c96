-- Calls that only read leave a desk as it was, and a file of more bytes than the limit was seen.
use Rattle.std.proofs.Common.{◌≡◌, ℕ, ◌+◌, ◌<◌, List, length, replicate, Option, None, Some, refl, ◌∙◌, subst, arith}
use Rattle.std.specs.Prelude.{IsSome, IfSome}
use Rattle.std.proofs.lemmas.List.{length-replicate}
use Rattle.gl_desk.specs.declared.error.DeskError.{DeskError}
use Rattle.gl_desk.specs.Answers.{CountsFaults, OnlyReads}
use Rattle.gl_desk.specs.Desk.{FilesByName, Told, HasFile, IsLongerThan, OnFile, ReadsFrom}
use Rattle.gl_desk.proofs.Pieces.{IsFirstPart}

counts_then : (stop : Option DeskError) (a b c : ℕ) → b ≡ a → CountsFaults stop b c → CountsFaults stop a c
counts_then stop a b c same counts = subst (λ (n : ℕ). CountsFaults stop n c) same counts

-- a call that only reads, and then another
pub OnlyReads-then : (stop : Option DeskError) (a b c : Told) → OnlyReads None a b → OnlyReads stop b c → OnlyReads stop a c
OnlyReads-then stop a b c one two = record {
  folder = two.folder ∙ one.folder;
  said = two.said ∙ one.said;
  outputs = two.outputs ∙ one.outputs;
  faults = counts_then stop a.faults b.faults c.faults one.faults two.faults;
}

longer : (limit : ℕ) (file : Option (List ℕ)) (text buffer : List ℕ) (at n : ℕ) → limit < at + n → IsSome file
    → IfSome file (IsFirstPart text at) → IfSome file (λ bytes. ReadsFrom bytes at buffer n)
    → (bytes : List ℕ) × (limit < length bytes) × (file ≡ Some bytes)
longer limit None text buffer at n more there first reads = cc
longer limit (Some file) text buffer at n more there first reads = (file, omega (arith, reads.within), refl)

-- more bytes than the limit were read
pub seen_longer : (limit : ℕ) (told : Option FilesByName) (name text buffer : List ℕ) (at n : ℕ) → limit < at + n → HasFile told name
    → OnFile told name (IsFirstPart text at) → OnFile told name (λ bytes. ReadsFrom bytes at buffer n) → IsLongerThan limit told name
seen_longer limit None name text buffer at n more there first reads =
    (replicate (limit + 1) 0, omega (arith, length-replicate {A = ℕ} (limit + 1) 0), tt)
seen_longer limit (Some files) name text buffer at n more there first reads =
    longer limit (files name) text buffer at n more there first reads
