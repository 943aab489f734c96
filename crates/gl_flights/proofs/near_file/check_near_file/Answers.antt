use Rattle.std.proofs.Common.{◌≡◌, subst, refl, ℕ, List, [], ◌∷◌, ◌++◌, Option, Err}
use Rattle.gl_answer.specs.FileLines.{HasLines}
use Rattle.gl_answer.specs.FileTests.{most_proof_bytes}
use Rattle.gl_answer.specs.Halts.{AreBytes}
use Rattle.gl_desk.specs.Desk.{FilesByName}
use Rattle.gl_desk.proofs.Reading.{OnlyReads-then}
use Rattle.gl_flights.proofs.NearFile.{file_unread}
use Rattle.gl_near.specs.Line.{Line}
use Rattle.gl_near.specs.NearLines.{line_said, near_rules, place_after}
use Rattle.gl_near.specs.Pairs.{pairing_of}
use Rattle.gl_flights.proofs.near_file.check_near_file.Goals as goal

pub lines-init : goal.lines-init
lines-init g c = record {
  taken = ([], ([], c.in_ok-lines.ensures (g.D.Desk.told c.args.desk.now).folder c.args.file.now most_proof_bytes), c.in_ok-check.ensures);
  reads = record { folder = refl; said = refl; outputs = refl; faults = refl };
}

pub returns-in_err-line-clause-checked : goal.returns-in_err-line-clause-checked
returns-in_err-line-clause-checked g c =
    let folder = (g.D.Desk.told c.args.desk.now).folder in
    let file = c.args.file.now in
    let taken = c.lines.invariant.taken in
    let halted = subst (λ (f : Option FilesByName). (text : List ℕ) (given : List Line) → HasLines near_rules (λ last place. place ≡ place_after last) f file most_proof_bytes text given c.lines.lines
    → AreBytes f file most_proof_bytes (Err c.in_err-line.field-0.0)) c.lines.invariant.reads.folder c.in_err-line.ensures.halted in
    file_unread folder file (pairing_of c.args.pairs.now) c.in_err-line.field-0.0 c.from_residual-in_err-line.result c.from_residual-in_err-line.ensures.1
    (halted taken.1.0 taken.0 taken.1.1)

pub returns-in_default-clause-checked : goal.returns-in_default-clause-checked
returns-in_default-clause-checked g c =
    let folder = (g.D.Desk.told c.args.desk.now).folder in
    let taken = c.lines.invariant.taken in
    let next = rw c.lines.invariant.reads.folder at c.in_ok-line.ensures.next in
    c.end_check.ensures.checked folder (pairing_of c.args.pairs.now) taken.0 (rw c.in_default.is at (next taken.1.0 taken.0 taken.1.1)) taken.2

pub end_check-requires : goal.end_check-requires
end_check-requires g c =
    let taken = c.lines.invariant.taken in
    let next = rw c.lines.invariant.reads.folder at c.in_ok-line.ensures.next in
    (rw c.in_default.is at (next taken.1.0 taken.0 taken.1.1)).exhausted

pub take-requires : goal.take-requires
take-requires g c = (pairing_of c.args.pairs.now, c.lines.invariant.taken.0, c.lines.invariant.taken.2)

pub lines-preserved : goal.lines-preserved
lines-preserved g c = record {
  taken =
      let taken = c.lines.invariant.taken in
      let next = rw c.lines.invariant.reads.folder at c.in_ok-line.ensures.next in
      let line = c.in-Some.line in
      (taken.0 ++ line_said line ∷ [], rw c.in-Some.is at (next taken.1.0 taken.0 taken.1.1), c.in_ok-take.ensures (pairing_of c.args.pairs.now) taken.0 taken.2);
  reads = OnlyReads-then _ _ _ _ c.lines.invariant.reads c.in_ok-line.ensures.reads;
}
