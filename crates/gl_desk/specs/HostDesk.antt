use Rattle.std.specs.Prelude.{◌≡◌, ℕ, List, Option, None, Some, IfSome, IsSome, drop}
use Rattle.std.specs.Io.KnownBytes.{Appends}
use Rattle.gl_desk.specs.declared.host.HostDesk.{HostDesk}
use Rattle.gl_desk.specs.declared.made_file.MadeFile.{MadeFile}
use Rattle.gl_desk.specs.Desk.{Told, ReadsFrom}

-- the desk of the real system tells how many errors of the system it counted, and nothing else
abbrev pub told_by : {Rt File Dir : Type 0} → HostDesk Rt File Dir → Told
told_by desk = record { folder = None; said = None; outputs = None; faults = desk.faults }

-- files that tell their bytes and at which place they stand have left what stands from there on
abbrev pub HaveTheRestLeft : {F : Type 0} → (F → Option ℕ) → (F → Option (List ℕ))
    → (F → Option (List ℕ)) → Type 0
HaveTheRestLeft place bytes left = (file : _) (at : ℕ) (all : List ℕ) → place file ≡ Some at
    → bytes file ≡ Some all → left file ≡ Some (drop at all)

-- Where files are so, and the one that was opened tells its bytes and its place, the n bytes at the
-- front of the buffer are what it has from place `at` on, as a desk has to answer it.
abbrev pub IsReadAt : {F : Type 0} → (F → Option ℕ) → (F → Option (List ℕ))
    → (F → Option (List ℕ)) → F → ℕ → List ℕ → ℕ → Type 0
IsReadAt place bytes left opened at buffer n = HaveTheRestLeft place bytes left → (file : List ℕ)
    → IsSome (place opened) → bytes opened ≡ Some file → ReadsFrom file at buffer n

-- The piece was added to the file that is kept open under the name: to the one that was kept open
-- under it before, if there is one, else to one that was just made.
abbrev pub IsAddedTo : {F : Type 0} → (F → Option (List ℕ)) → List ℕ → Option (MadeFile F)
    → Option (MadeFile F) → List ℕ → Type 0
IsAddedTo contents name before after piece = IfSome after (λ made. (made.name ≡ name)
    × ((file : _) × IfSome before (λ kept. kept.name ≡ name → file ≡ kept.file)
    × Appends (contents file) (contents made.file) piece))
