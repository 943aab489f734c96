use Rattle.std.proofs.Common.{◌≡◌, ◌∙◌, sym, ap, subst, refl, ℕ, List, [], ◌∷◌, ◌++◌, map, append_assoc, Err, Option}
use Rattle.gl_answer.specs.Halts.{AreBytes}
use Rattle.std.proofs.lemmas.List.{append-nil}
use Rattle.gl_box.specs.Closed.{box_of}
use Rattle.gl_box.specs.declared.closed.Why.{Why}
use Rattle.gl_check.specs.File.{GaveLines}
use Rattle.gl_check.specs.Testing.{HasTaken}
use Rattle.gl_check.proofs.FileLines.{handed_on, lines_on, taken_on, used_on}
use Rattle.gl_desk.proofs.Reading.{OnlyReads-then}
use Rattle.gl_proof.specs.Claim.{box_line}
use Rattle.gl_proof.specs.Line.{Line}
use Rattle.gl_proof.specs.ProofLines.{place_after, proof_rules}
use Rattle.gl_answer.specs.FileLines.{HasLines}
use Rattle.gl_desk.specs.Desk.{FilesByName}
use Rattle.gl_check.proofs.file.take_boxes.Goals as goal

pub boxes-init : goal.boxes-init
boxes-init g c = record {
  taken = λ used before gave has. (
    [],
    subst (λ (boxes : List (List (ℕ × ℕ) × Why)). HasTaken g.G.Goal.rule g.G.Goal.are_legs boxes c.args.check.now) (sym (append-nil before)) has,
    subst (λ (lines : List Line). GaveLines (g.D.Desk.told c.args.desk.now).folder c.args.file.now c.args.most lines c.args.lines.now) (sym (append-nil used)) gave,
  );
  takes = c.requires.checks;
  goal = refl;
  total = refl;
  reads = record { folder = refl; said = refl; outputs = refl; faults = refl };
}

pub returns-in_err-ahead-clause-halted : goal.returns-in_err-ahead-clause-halted
returns-in_err-ahead-clause-halted g c =
    let folder = (g.D.Desk.told c.args.desk.now).folder in
    let file = c.args.file.now in
    let most = c.args.most in
    handed_on (λ halt. (used : List Line) → GaveLines folder file most used c.args.lines.now → AreBytes folder file most (Err halt)) c.from_residual-in_err-ahead.result c.in_err-ahead.field-0.0
    c.from_residual-in_err-ahead.ensures.1
    (λ used gave.
    let halted = subst (λ (f : Option FilesByName). (text : List ℕ) (said : List Line) → HasLines proof_rules (λ last place. place ≡ place_after last) f file most text said c.take_read.new.lines
    → AreBytes f file most (Err c.in_err-ahead.field-0.0)) c.boxes.invariant.reads.folder c.in_err-ahead.ensures.halted in
    let first = c.boxes.invariant.taken used c.requires.checks.0 gave c.requires.checks.1 in
    let read = c.in_ok-take_read.ensures.taken folder file most _ _ first.2 first.1 in
    halted read.2.0 _ read.2.1)

pub returns-in_default-clause-taken : goal.returns-in_default-clause-taken
returns-in_default-clause-taken g c = λ used before gave has.
    let folder = (g.D.Desk.told c.args.desk.now).folder in
    let first = c.boxes.invariant.taken used before gave has in
    let read = c.in_ok-take_read.ensures.taken folder c.args.file.now c.args.most _ _ first.2 first.1 in
    let all = taken_on (λ boxes. HasTaken g.G.Goal.rule g.G.Goal.are_legs boxes c.take_read.new.check) (λ lines. GaveLines folder c.args.file.now c.args.most lines c.take_read.new.lines) before first.0 read.0 used
    read.1 read.2 in
    let next = rw c.boxes.invariant.reads.folder at c.in_ok-ahead.ensures.next in
    (all.boxes, all.taken, used_on folder c.args.file.now c.args.most (used ++ map box_line all.boxes) c.in_ok-ahead.ahead c.next_file_line.new.lines c.in_default.ensures (next all.gave.0 _ all.gave.1))

pub boxes-preserved-in_ok-take : goal.boxes-preserved-in_ok-take
boxes-preserved-in_ok-take g c =
    let box = box_of c.in-Some.closed in
    let folder = (g.D.Desk.told c.args.desk.now).folder in
    record {
      taken = λ used before gave has.
          let first = c.boxes.invariant.taken used before gave has in
          let read = c.in_ok-take_read.ensures.taken folder c.args.file.now c.args.most _ _ first.2 first.1 in
          let all = taken_on (λ boxes. HasTaken g.G.Goal.rule g.G.Goal.are_legs boxes c.take_read.new.check) (λ lines. GaveLines folder c.args.file.now c.args.most lines c.take_read.new.lines) before first.0 read.0
          used read.1 read.2 in
          let next = rw c.boxes.invariant.reads.folder at c.in_ok-ahead.ensures.next in
          let came = rw c.in-Some.ensures at (next all.gave.0 (used ++ map box_line all.boxes) all.gave.1) in (
            all.boxes ++ box ∷ [],
            subst (λ (boxes : List (List (ℕ × ℕ) × Why)). HasTaken g.G.Goal.rule g.G.Goal.are_legs boxes c.take.new.self) (append_assoc before all.boxes (box ∷ []))
                (c.in_ok-take.ensures.takes (before ++ all.boxes) all.taken),
            subst (λ (lines : List Line). GaveLines folder c.args.file.now c.args.most lines c.next_file_line.new.lines) (lines_on used all.boxes box) came,
          );
      takes = (c.in_ok-take_read.ensures.takes.0 ++ box ∷ [], c.in_ok-take.ensures.takes c.in_ok-take_read.ensures.takes.0 c.in_ok-take_read.ensures.takes.1);
      goal = ap (λ t. t.goal.now) (c.in_ok-take.ensures.test ∙ c.in_ok-take_read.ensures.test) ∙ c.boxes.invariant.goal;
      total = ap (λ t. t.total) (c.in_ok-take.ensures.test ∙ c.in_ok-take_read.ensures.test) ∙ c.boxes.invariant.total;
      reads = OnlyReads-then _ _ _ _ c.boxes.invariant.reads c.in_ok-ahead.ensures.reads;
    }

pub boxes-preserved-in_ok-take-3 : goal.boxes-preserved-in_ok-take-3
boxes-preserved-in_ok-take-3 g c =
    let box = box_of c.in-Some.closed in
    let folder = (g.D.Desk.told c.args.desk.now).folder in
    record {
      taken = λ used before gave has.
          let first = c.boxes.invariant.taken used before gave has in
          let read = c.in_ok-take_read.ensures.taken folder c.args.file.now c.args.most _ _ first.2 first.1 in
          let all = taken_on (λ boxes. HasTaken g.G.Goal.rule g.G.Goal.are_legs boxes c.take_read.new.check) (λ lines. GaveLines folder c.args.file.now c.args.most lines c.take_read.new.lines) before first.0 read.0
          used read.1 read.2 in
          let next = rw c.boxes.invariant.reads.folder at c.in_ok-ahead.ensures.next in
          let came = rw c.in-Some.ensures at (next all.gave.0 (used ++ map box_line all.boxes) all.gave.1) in (
            all.boxes ++ box ∷ [],
            subst (λ (boxes : List (List (ℕ × ℕ) × Why)). HasTaken g.G.Goal.rule g.G.Goal.are_legs boxes c.take.new.self) (append_assoc before all.boxes (box ∷ []))
                (c.in_ok-take.ensures.takes (before ++ all.boxes) all.taken),
            subst (λ (lines : List Line). GaveLines folder c.args.file.now c.args.most lines c.next_file_line.new.lines) (lines_on used all.boxes box) came,
          );
      takes = (c.in_ok-take_read.ensures.takes.0 ++ box ∷ [], c.in_ok-take.ensures.takes c.in_ok-take_read.ensures.takes.0 c.in_ok-take_read.ensures.takes.1);
      goal = ap (λ t. t.goal.now) (c.in_ok-take.ensures.test ∙ c.in_ok-take_read.ensures.test) ∙ c.boxes.invariant.goal;
      total = ap (λ t. t.total) (c.in_ok-take.ensures.test ∙ c.in_ok-take_read.ensures.test) ∙ c.boxes.invariant.total;
      reads = OnlyReads-then _ _ _ _ c.boxes.invariant.reads c.in_ok-ahead.ensures.reads;
    }
