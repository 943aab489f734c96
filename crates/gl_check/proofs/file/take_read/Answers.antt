use Rattle.std.proofs.Common.{◌≡◌, ◌∙◌, ap, sym, subst, refl, ℕ, List, [], ◌∷◌, ◌++◌, map, append_assoc, arith}
use Rattle.std.proofs.lemmas.List.{append-nil}
use Rattle.gl_box.specs.Cell.{spans_of}
use Rattle.gl_box.specs.declared.closed.Why.{Why}
use Rattle.gl_check.specs.File.{GaveLines}
use Rattle.gl_check.specs.Testing.{HasTaken}
use Rattle.gl_check.proofs.FileLines.{lines_on}
use Rattle.gl_proof.specs.Claim.{box_line}
use Rattle.gl_proof.specs.Line.{Line}
use Rattle.gl_check.proofs.file.take_read.Goals as goal

pub boxes-init : goal.boxes-init
boxes-init g c = record {
  taken = λ folder file most used before gave has. (
    [],
    subst (λ (boxes : List (List (ℕ × ℕ) × Why)). HasTaken g.G.Goal.rule g.G.Goal.are_legs boxes c.args.check.now) (sym (append-nil before)) has,
    subst (λ (lines : List Line). GaveLines folder file most lines c.args.lines.now) (sym (append-nil used)) gave,
  );
  takes = c.requires;
  test = refl;
  shorter = λ most. omega arith;
}

pub boxes-preserved : goal.boxes-preserved
boxes-preserved g c =
    let i = c.boxes.invariant in
    let box : List (ℕ × ℕ) × Why = (spans_of c.next_box_read.new.cell, c.in-Some.why) in
    record {
      taken = λ folder file most used before gave has.
          let taken = i.taken folder file most used before gave has in
          let came = rw c.in-Some.is at (c.next_box_read.ensures.read folder file most taken.2.0 (used ++ map box_line taken.0) taken.2.1) in (
            taken.0 ++ box ∷ [],
            subst (λ (boxes : List (List (ℕ × ℕ) × Why)). HasTaken g.G.Goal.rule g.G.Goal.are_legs boxes c.take.new.self) (append_assoc before taken.0 (box ∷ []))
                (c.in_ok-take.ensures.takes (before ++ taken.0) taken.1),
            subst (λ (lines : List Line). GaveLines folder file most lines c.next_box_read.new.lines) (lines_on used taken.0 box) (taken.2.0, came),
          );
      takes = (i.takes.0 ++ box ∷ [], c.in_ok-take.ensures.takes i.takes.0 i.takes.1);
      test = c.in_ok-take.ensures.test ∙ i.test;
      shorter = λ most. omega (arith, i.shorter most, rw c.in-Some.is at (c.next_box_read.ensures.shorter most));
    }

pub returns-clause-taken : goal.returns-clause-taken
returns-clause-taken g c = λ folder file most used before gave has.
    let taken = c.boxes.invariant.taken folder file most used before gave has in
    let came = rw c.in_default.is at (c.next_box_read.ensures.read folder file most taken.2.0 (used ++ map box_line taken.0) taken.2.1) in
    (taken.0, taken.1, (taken.2.0, came))
