use Rattle.std.proofs.Common.{◌≡◌, List, length}
use Rattle.gl_proof.specs.LineReading.{IsRead, unread}
use Rattle.gl_near.specs.Code.Reading.{known_by}
use Rattle.gl_near.specs.Line.{Line}
use Rattle.gl_near.specs.LineCheck.{known_of}
use Rattle.gl_near.specs.NearLines.{near_rules, place_after}
use Rattle.gl_near.proofs.read.read_lines.Given as goal

-- the lines so far are known
abbrev pub invariant-lines : goal.invariant-lines
invariant-lines l = record {
  known : (lines : List Line) × IsRead near_rules (λ last place. place ≡ place_after last) l.text lines l.reader × (known_by l.total l.claim ≡ known_of lines);
}

abbrev pub decreases-lines : goal.decreases-lines
decreases-lines l = length (unread l.reader)
