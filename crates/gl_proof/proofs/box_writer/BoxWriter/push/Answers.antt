use Rattle.std.proofs.Common.{◌≡◌, refl, ℕ, List, [], ◌∷◌, length, take, arith}
use Rattle.std.proofs.lemmas.List.{length-take-le}
use Rattle.gl_box.specs.declared.span.Span.{Span}
use Rattle.gl_proof.proofs.Stands.{stand_kept}
use Rattle.gl_proof.proofs.box_writer.BoxWriter.push.Goals as goal

pub invariant_of-self-clause-order : goal.invariant_of-self-clause-order
invariant_of-self-clause-order c =
    let cell = c.args.cell.now in
    let long : length (take cell.axes cell.spans) ≡ cell.axes = length-take-le cell.axes cell.spans (omega (arith, cell.ten_axes, cell.ten_spans)) in
    λ j k from behind within. c.write_words.ensures.order j k from behind (omega (arith, long, within))

pub invariant_of-self-clause-standing : goal.invariant_of-self-clause-standing
invariant_of-self-clause-standing c =
    let cell = c.args.cell.now in
    let spans : List Span = take cell.axes cell.spans in
    let word : List ℕ = 66 ∷ 79 ∷ 88 ∷ 32 ∷ c.args.letter ∷ [] in
    stand_kept c.write_words.new.buffer c.write_front-start.new.buffer word c.write_words.new.starts spans 0 c.write_front-start.result _ c.write_words.ensures.standing c.write_words.ensures.order
    (omega arith) c.write_front-start.ensures.written c.write_front-start.auto.buffer c.write_front-start.ensures.start refl
