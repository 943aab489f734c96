use Rattle.std.proofs.Common.{◌≡◌, ◌∙◌, sym, refl, subst}
use Rattle.gl_box.specs.Cell.{spans_of}
use Rattle.gl_proof.specs.Claim.{box_line}
use Rattle.gl_proof.specs.LineReading.{IsReadBy, last_of, unread}
use Rattle.gl_proof.specs.ProofLines.{place_after, proof_rules}
use Rattle.gl_proof.proofs.Places.{box_behind}
use Rattle.gl_proof.proofs.box_reader.next_box.Goals as goal

pub returns-clause-read : goal.returns-clause-read
returns-clause-read c = λ text lines read.
    let r = c.args.reader.now in
    let taken = c.in_ok-why.ensures in
    let are = subst (IsReadBy proof_rules (λ last place. place ≡ place_after last) text lines (unread r) r.place r.number) c.in-Going.is read in
    c.note_left.ensures.noted text lines (box_line (spans_of c.box_left.new.cell, c.in_ok-why.why)) read refl
    (box_behind (last_of lines) (unread r) taken.0 (spans_of c.box_left.new.cell) c.in_ok-why.why c.in_ok-why.left taken.1 (sym are.is_place ∙ c.in-Within.is) taken.2)
