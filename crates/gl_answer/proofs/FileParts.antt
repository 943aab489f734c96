-- The first bytes of a file that is read piece by piece.
use Rattle.std.proofs.Common.{◌≡◌, ℕ, ◌≤◌, List, [], length, take, Option, None, Some, refl, arith}
use Rattle.std.specs.Prelude.{IfSome}
use Rattle.gl_desk.specs.Desk.{FilesByName, OnFile}

none_of : (file : Option (List ℕ)) → IfSome file (λ bytes. ([] ≡ take 0 bytes) × (0 ≤ length bytes))
none_of None = tt
none_of (Some bytes) = (refl, omega arith)

-- no byte is read at first
pub none_read : (folder : Option FilesByName) (name : List ℕ) → OnFile folder name (λ bytes. ([] ≡ take 0 bytes) × (0 ≤ length bytes))
none_read None name = tt
none_read (Some files) name = none_of (files name)
