use Rattle.std.proofs.Common.{◌≡◌, sym, subst, refl, ℕ, List, [], ◌++◌, append-nil, Option, Err}
use Rattle.gl_answer.specs.FileLines.{HasLines}
use Rattle.gl_answer.specs.Halts.{AreBytes}
use Rattle.gl_check.specs.File.{GaveLines}
use Rattle.gl_check.proofs.FileLines.{all_given, handed_on, one_more}
use Rattle.gl_desk.proofs.Reading.{OnlyReads-then}
use Rattle.gl_desk.specs.Desk.{FilesByName}
use Rattle.gl_proof.specs.Line.{Line}
use Rattle.gl_proof.specs.ProofLines.{place_after, proof_rules}
use Rattle.gl_check.proofs.claims.read_rest.Goals as goal

pub lines-init : goal.lines-init
lines-init g c = record {
  came = λ used gave. ([], subst (λ (lines : List Line). GaveLines (g.D.Desk.told c.args.desk.now).folder c.args.file.now c.args.most lines c.args.lines.now) (sym (append-nil used)) gave);
  reads = record { folder = refl; said = refl; outputs = refl; faults = refl };
}

pub returns-in_err-line-clause-halted : goal.returns-in_err-line-clause-halted
returns-in_err-line-clause-halted g c =
    let folder = (g.D.Desk.told c.args.desk.now).folder in
    handed_on (λ halt. (used : List Line) → GaveLines folder c.args.file.now c.args.most used c.args.lines.now → AreBytes folder c.args.file.now c.args.most (Err halt)) c.from_residual.result
    c.in_err-line.field-0.0 c.from_residual.ensures.1
    (λ used gave.
    let halted = subst (λ (f : Option FilesByName). (text : List ℕ) (said : List Line)
    → HasLines proof_rules (λ last place. place ≡ place_after last) f c.args.file.now c.args.most text said c.lines.lines
    → AreBytes f c.args.file.now c.args.most (Err c.in_err-line.field-0.0)) c.lines.invariant.reads.folder c.in_err-line.ensures.halted in
    let before = c.lines.invariant.came used gave in
    halted before.1.0 (used ++ before.0) before.1.1)

pub returns-in_default-clause-all : goal.returns-in_default-clause-all
returns-in_default-clause-all g c = λ used gave.
    let folder = (g.D.Desk.told c.args.desk.now).folder in
    let before = c.lines.invariant.came used gave in
    let next = rw c.lines.invariant.reads.folder at c.in_ok-line.ensures.next in
    (before.0, all_given folder c.args.file.now c.args.most (used ++ before.0) c.in_ok-line.line c.next_file_line.new.lines c.in_default.is (next before.1.0 (used ++ before.0) before.1.1))

pub lines-preserved-in-Some : goal.lines-preserved-in-Some
lines-preserved-in-Some g c = record {
  came = λ used gave.
      let folder = (g.D.Desk.told c.args.desk.now).folder in
      let before = c.lines.invariant.came used gave in
      let next = rw c.lines.invariant.reads.folder at c.in_ok-line.ensures.next in
      one_more folder c.args.file.now c.args.most used before.0 c.in-Some._line c.in_ok-line.line c.next_file_line.new.lines c.in-Some.is (next before.1.0 (used ++ before.0) before.1.1);
  reads = OnlyReads-then _ _ _ _ c.lines.invariant.reads c.in_ok-line.ensures.reads;
}

pub lines-preserved-in-Some-2 : goal.lines-preserved-in-Some-2
lines-preserved-in-Some-2 g c = record {
  came = λ used gave.
      let folder = (g.D.Desk.told c.args.desk.now).folder in
      let before = c.lines.invariant.came used gave in
      let next = rw c.lines.invariant.reads.folder at c.in_ok-line.ensures.next in
      one_more folder c.args.file.now c.args.most used before.0 c.in-Some._line c.in_ok-line.line c.next_file_line.new.lines c.in-Some.is (next before.1.0 (used ++ before.0) before.1.1);
  reads = OnlyReads-then _ _ _ _ c.lines.invariant.reads c.in_ok-line.ensures.reads;
}

pub lines-preserved : goal.lines-preserved
lines-preserved g c = record {
  came = λ used gave.
      let folder = (g.D.Desk.told c.args.desk.now).folder in
      let before = c.lines.invariant.came used gave in
      let next = rw c.lines.invariant.reads.folder at c.in_ok-line.ensures.next in
      one_more folder c.args.file.now c.args.most used before.0 c.in-Some._line c.in_ok-line.line c.next_file_line.new.lines c.in-Some.is (next before.1.0 (used ++ before.0) before.1.1);
  reads = OnlyReads-then _ _ _ _ c.lines.invariant.reads c.in_ok-line.ensures.reads;
}
