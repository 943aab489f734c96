use Rattle.std.proofs.Common.{sym, subst, ℕ, List, [], ◌∷◌, ◌++◌, append-nil, Option, Err}
use Rattle.gl_answer.specs.Halts.{AreBytes}
use Rattle.gl_check.specs.File.{GaveLines}
use Rattle.gl_check.proofs.FileLines.{come_behind, fixes_read, handed_on, if_named}
use Rattle.gl_proof.specs.Claim.{fix_lines}
use Rattle.gl_proof.specs.Line.{ClaimLine, Line}
use Rattle.gl_check.proofs.file.fixes_next.Goals as goal

pub returns-in_default-clause-fixes : goal.returns-in_default-clause-fixes
returns-in_default-clause-fixes g c = λ used number kind gave.
    let folder = (g.D.Desk.told c.args.desk.now).folder in
    let front = used ++ ClaimLine number kind c.args.total ∷ [] in
    subst (λ (total : Option ℕ). GaveLines folder c.args.file.now c.args.most (front ++ fix_lines total c.new.result.items) c.args.lines.now) (sym c.in_default.is)
    (subst (λ (lines : List Line). GaveLines folder c.args.file.now c.args.most lines c.args.lines.now) (sym (append-nil front)) gave)

pub returns-in_err-line-clause-halted : goal.returns-in_err-line-clause-halted
returns-in_err-line-clause-halted g c =
    let folder = (g.D.Desk.told c.args.desk.now).folder in
    handed_on (λ halt. (used : List Line) → GaveLines folder c.args.file.now c.args.most used c.args.lines.now → AreBytes folder c.args.file.now c.args.most (Err halt))
    c.from_residual.result c.in_err-line.field-0.0 c.from_residual.ensures.1 (λ used gave. c.in_err-line.ensures.halted gave.0 used gave.1)

pub returns-clause-fixes : goal.returns-clause-fixes
returns-clause-fixes g c = λ used number kind gave.
    let folder = (g.D.Desk.told c.args.desk.now).folder in
    let front = used ++ ClaimLine number kind c.args.total ∷ [] in
    fixes_read folder c.args.file.now c.args.most used number kind c.args.total c.in-Some._total c.in_ok-line.line c.fixes_of_line.result c.next_file_line.new.lines c.in-Some.is
    c.fixes_of_line.ensures
    (come_behind folder c.args.file.now c.args.most front c.in_ok-line.line c.args.lines.now c.in_ok-line.ensures.comes gave) (c.in_ok-line.ensures.next gave.0 front gave.1)

pub returns-clause-named : goal.returns-clause-named
returns-clause-named g c = if_named c.args.total c.in-Some._total c.fixes_of_line.result c.in-Some.is
