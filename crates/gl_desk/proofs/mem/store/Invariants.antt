use Rattle.std.proofs.Common.{◌≡◌, ℕ, List, None}
use Rattle.std.specs.Ordering.{nat_cmp, eq_by_cmp}
use Rattle.std.specs.Cmp.Lexicographic.{slice_cmp}
use Rattle.std.specs.Map.{update_all}
use Rattle.gl_desk.specs.MemDesk.{stored}
use Rattle.gl_desk.specs.Code.MemDesk.{given_files}
use Rattle.gl_desk.proofs.mem.store.Given as goal

-- the map has what the files gone over put into it one after another
abbrev pub invariant-loop-name : goal.invariant-loop-name
invariant-loop-name l =
    (name : List ℕ) → stored l.made name ≡ update_all (eq_by_cmp (slice_cmp nat_cmp)) (λ _. None) (given_files l.yielded) name
