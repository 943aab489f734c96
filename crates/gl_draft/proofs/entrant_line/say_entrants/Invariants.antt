use Rattle.std.proofs.Common.{◌≡◌, ◌+◌, ◌++◌, length}
use Rattle.gl_draft.specs.Draft.{entrants_lines}
use Rattle.gl_draft.proofs.entrant_line.say_entrants.Given as goal

-- the lines so far, and those of the entrants that are left, are those of all
abbrev pub invariant-entrants : goal.invariant-entrants
invariant-entrants l = record {
  said : l.lines ++ entrants_lines l.n l.left ≡ l.initial.lines ++ entrants_lines 0 l.entrants;
  count : l.n + length l.left ≡ length l.entrants;
}

abbrev pub decreases-entrants : goal.decreases-entrants
decreases-entrants l = length l.left
