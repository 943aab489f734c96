use Rattle.std.proofs.Common.{◌≡◌, ◌∙◌, sym, ap, ℕ, List, ◌∷◌, ◌++◌, map}
use Rattle.std.specs.Prelude.{codes}
use Rattle.std.proofs.lemmas.List.{append_cancel_left}
use Rattle.gl_box.specs.Cell.{spans_of}
use Rattle.gl_proof.specs.Line.{reason_word}
use Rattle.gl_proof.specs.Words.{spaced, span_word}
use Rattle.gl_proof.proofs.Lines.{box_is}
use Rattle.gl_proof.proofs.Unique.{reason_unique}
use Rattle.gl_proof.proofs.line.box_into.Goals as goal

pub returns-in_default : goal.returns-in_default
returns-in_default c = λ box rest at. c.in_default.ensures _ (at.1 ∙ box_is box.1 box.0 rest)

pub returns-in_default-reason_at : goal.returns-in_default-reason_at
returns-in_default-reason_at c = λ box rest at.
    c.in_default-reason_at.ensures box.1 _ (append_cancel_left (codes "BOX ") _ _ (sym c.in-Some.ensures ∙ at.1 ∙ box_is box.1 box.0 rest))

pub returns-in_default-spans_into : goal.returns-in_default-spans_into
returns-in_default-spans_into c = λ box rest at.
    let words : c.in-Some.words.now ≡ reason_word box.1 ++ (spaced (map span_word box.0) ++ 10 ∷ rest) = append_cancel_left (codes "BOX ") _ _ (sym c.in-Some.ensures ∙ at.1 ∙ box_is box.1 box.0 rest) in
    c.in_default-spans_into.ensures box.0 rest
    (record { are_spans = at.0; is = (reason_unique c.in-Some-reason_at.why box.1 c.in-Some-reason_at.tail.now _ (sym c.in-Some-reason_at.ensures ∙ words)).1 })

pub returns : goal.returns
returns c =
    let cell = c.spans_into.new.cell in
    let read = c.in-Some-spans_into.ensures in (
      read.are_spans,
      c.in-Some.ensures ∙ ap (λ (l : List ℕ). codes "BOX " ++ l) c.in-Some-reason_at.ensures
          ∙ ap (λ (l : List ℕ). codes "BOX " ++ (reason_word c.in-Some-reason_at.why ++ l)) read.is ∙ sym (box_is c.in-Some-reason_at.why (spans_of cell) c.in-Some-spans_into.rest.now),
    )
