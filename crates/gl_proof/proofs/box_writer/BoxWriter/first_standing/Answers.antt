use Rattle.std.proofs.Common.{◌≡◌, sym, subst, ℕ, List, length, take, arith}
use Rattle.std.proofs.lemmas.List.{length-take-le}
use Rattle.gl_box.specs.declared.span.Span.{Span}
use Rattle.gl_proof.specs.Code.Standing.{StandFrom}
use Rattle.gl_proof.proofs.Stands.{none_stand, noted, same_stand}
use Rattle.gl_proof.proofs.box_writer.BoxWriter.first_standing.Goals as goal

pub returns-then-spans-self-clause-standing : goal.returns-then-spans-self-clause-standing
returns-then-spans-self-clause-standing c =
    let line = c.args.self.now in
    let spans = c.args.spans.now in
    let had : List Span = take line.axes line.spans in
    let long : length had ≡ length spans = omega (arith, length-take-le line.axes line.spans (omega (arith, line.ten_axes, line.ten_spans)), c.if-spans-self.true) in
    subst (λ (starts : List ℕ). StandFrom line.bytes starts spans c.first_same.result) (sym (noted line.bytes line.starts had (length spans) line.standing line.room long))
    (same_stand line.bytes line.starts had spans c.first_same.result line.standing long c.first_same.ensures.same)

pub returns-else-spans-self-clause-standing : goal.returns-else-spans-self-clause-standing
returns-else-spans-self-clause-standing c =
    let line = c.args.self.now in
    let spans = c.args.spans.now in
    none_stand line.bytes line.starts (take line.axes line.spans) spans line.standing line.room c.requires (omega (arith, c.requires, line.places))
