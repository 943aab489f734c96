-- What is known of a text of which some lines were read.
use Rattle.std.specs.Prelude.{ℕ, map, Option}
use Rattle.gl_near.specs.Certificate.{box_of}
use Rattle.gl_near.specs.LineCheck.{Known}
use Rattle.gl_near.specs.declared.claim.NearClaim.{NearClaim}

-- a claim so far, and the least distance
abbrev pub known_by : Option ℕ → NearClaim → Known
known_by total claim =
    record { total = total; best = claim.best; boxes = map box_of claim.closed.items }
