use Rattle.std.proofs.Common.{◌≡◌, inr, subst, ℕ, length, map, arith}
use Rattle.std.proofs.lemmas.List.{length-map}
use Rattle.gl_box.specs.Closed.{box_of}
use Rattle.gl_proof.specs.Code.Fronts.{said_of}
use Rattle.gl_proof.specs.Code.Passage.{LacksClaim, LacksFixes}
use Rattle.gl_proof.proofs.Refused.{or_weaker}
use Rattle.gl_proof.proofs.Chain.{claim_read}
use Rattle.gl_proof.proofs.claim_lines.claim_at.Goals as goal

pub returns-in-Err-clause-refused : goal.returns-in-Err-clause-refused
returns-in-Err-clause-refused c =
    let error = c.in-Err.error in
    let total = c.in-Some.front.total in
    let rest = c.in-Some.rest.now in
    or_weaker error (LacksFixes total rest c.later.result error) (LacksClaim c.args.text.now c.args.line error)
    (λ lacks. inr (record {
      said = said_of c.in-Some.front;
      rest = rest;
      claim = c.in-Some.ensures;
      lacks = subst (λ (n : ℕ). LacksFixes total rest n error) c.later.ensures lacks;
    }))
    c.in-Err.ensures.refused

pub returns-clause-ok : goal.returns-clause-ok
returns-clause-ok c =
    let cells = c.in_ok-cells.cells in
    let boxes = map box_of cells.items in
    let count : c.later-next.result ≡ _ = c.later-next.ensures in
    let long : c.len.result ≡ length boxes = omega (arith, c.len.ensures, cells.ok.0, length-map cells.items box_of) in
    let front = c.in-Some.front in
    let fixes = c.in-Ok.read.0.items in
    claim_read c.args.text.now c.in-Some.rest.now c.in-Ok.read.1.now c.in_ok-cells.rest.now c.in_ok-name_of.field-0 front.number.now front.kind front.total fixes boxes c.args.line
    c.lines_before_boxes.result c.later-behind_front.result c.later-next.result
    c.in_ok-name_of.ensures c.in-Some.ensures c.in-Ok.ensures.ok c.in_ok-cells.ensures (c.lines_before_boxes.ensures fixes) c.later-behind_front.ensures (omega (arith, c.later-next.ensures, long))
