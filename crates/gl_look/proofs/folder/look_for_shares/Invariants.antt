use Rattle.std.proofs.Common.{◌≡◌, ◌++◌, length}
use Rattle.gl_look.specs.Folder.{shared_told}
use Rattle.gl_look.proofs.folder.look_for_shares.Given as goal

-- the remarks so far, and those of the rest
abbrev pub invariant-entrants : goal.invariant-entrants
invariant-entrants l = l.remarks ++ shared_told l.rest ≡ l.initial.remarks ++ shared_told l.entrants

abbrev pub decreases-entrants : goal.decreases-entrants
decreases-entrants l = length l.rest
