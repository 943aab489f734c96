use Rattle.std.proofs.Common.{◌≡◌, map, take}
use Rattle.gl_draft.specs.Late.{known_entrant}
use Rattle.gl_draft.proofs.late.known_entrants.Given as goal

-- the entrants so far
abbrev pub invariant-entrants : goal.invariant-entrants
invariant-entrants l = l.known.items ≡ map known_entrant (take l.entrant-index l.entrants)
