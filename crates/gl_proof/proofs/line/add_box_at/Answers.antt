use Rattle.gl_proof.proofs.Unique.{box_added}
use Rattle.gl_proof.proofs.line.add_box_at.Goals as goal

pub returns : goal.returns
returns c =
    box_added c.args.text.now c.in-Some.words.now c.in-Some-reason_at.rest.now c.in-Some-reason_at.why c.args.cells.now.items
    c.add_spans_at.new.cells.items c.add_spans_at.result c.in-Some.ensures c.in-Some-reason_at.ensures c.add_spans_at.ensures
