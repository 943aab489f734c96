use Rattle.std.proofs.Common.{◌≡◌, sym, subst, ℕ, List, [], ◌∷◌, Option, None, Err}
use Rattle.std.specs.Prelude.{IfErr, IfOk, IfSome, MatchOption}
use Rattle.gl_answer.specs.FileLines.{HasLines}
use Rattle.gl_answer.specs.Halts.{AreBytes}
use Rattle.gl_check.specs.File.{CameSoFar, GaveAll, GaveLines}
use Rattle.gl_check.proofs.FileLines.{halted_next, handed_on, heading_next, none_came}
use Rattle.gl_desk.specs.Desk.{FilesByName}
use Rattle.gl_proof.specs.Line.{Line}
use Rattle.gl_proof.specs.LineReading.{last_of}
use Rattle.gl_proof.specs.LineRules.{MayCome}
use Rattle.gl_proof.specs.ProofLines.{line_said, place_after, proof_rules}
use Rattle.gl_proof.specs.declared.said_line.ProofLine.{ProofLine}
use Rattle.gl_check.proofs.claims.read_heading.Goals as goal

pub returns-in_err-heading-clause-halted : goal.returns-in_err-heading-clause-halted
returns-in_err-heading-clause-halted g c =
    let folder = (g.D.Desk.told c.args.desk.now).folder in
    handed_on (λ halt. GaveLines folder c.args.file.now c.args.most [] c.args.lines.now → AreBytes folder c.args.file.now c.args.most (Err halt)) c.from_residual.result c.in_err-heading.field-0.0
    c.from_residual.ensures.1 (λ gave. c.in_err-heading.ensures.halted gave.0 [] gave.1)

pub returns-in_default-clause-came : goal.returns-in_default-clause-came
returns-in_default-clause-came g c = λ gave.
    let folder = (g.D.Desk.told c.args.desk.now).folder in
    let lines = c.next_file_line.new.lines in
    none_came folder c.args.file.now c.args.most lines
    (subst (λ (o : Option ProofLine). MatchOption o (GaveAll folder c.args.file.now c.args.most [] lines) (λ line. GaveLines folder c.args.file.now c.args.most (line_said line ∷ []) lines))
    c.in_default.is
    (c.in_ok-heading.ensures.next gave.0 [] gave.1))

pub returns-clause-came : goal.returns-clause-came
returns-clause-came g c =
    let folder = (g.D.Desk.told c.args.desk.now).folder in
    let other = (g.D.Desk.told c.next_file_line.new.desk).folder in
    let file = c.args.file.now in
    let most = c.args.most in
    let lines = c.next_file_line.new.lines in
    let after = c.next_file_line-2.new.lines in
    let heading = line_said c.in-Some._heading in
    let same = c.in_ok-heading.ensures.reads.folder in
    let came : GaveLines folder file most [] c.args.lines.now → MayCome proof_rules None heading × GaveLines other file most (heading ∷ []) lines = λ gave.
    let may = subst (λ (o : Option ProofLine). IfSome o (λ line. (text : List ℕ) (said : List Line)
    → HasLines proof_rules (λ last place. place ≡ place_after last) folder file most text said c.args.lines.now
    → MayCome proof_rules (last_of said) (line_said line))) c.in-Some.is c.in_ok-heading.ensures.comes in
    let first = subst (λ (o : Option ProofLine). MatchOption o (GaveAll folder file most [] lines) (λ line. GaveLines folder file most (line_said line ∷ []) lines)) c.in-Some.is
    (c.in_ok-heading.ensures.next gave.0 [] gave.1) in
    (may gave.0 [] gave.1, subst (λ (f : Option FilesByName). GaveLines f file most (heading ∷ []) lines) (sym same) first) in
    subst (λ (f : Option FilesByName). IfOk c.next_file_line-2.result (λ ahead. GaveLines folder file most [] c.args.lines.now → CameSoFar f file most [] ahead after)) same
    (heading_next {X = GaveLines folder file most [] c.args.lines.now} other file most heading c.next_file_line-2.result lines after came c.next_file_line-2.ensures.next
    c.next_file_line-2.ensures.comes)

pub returns-clause-halted : goal.returns-clause-halted
returns-clause-halted g c =
    let folder = (g.D.Desk.told c.args.desk.now).folder in
    let other = (g.D.Desk.told c.next_file_line.new.desk).folder in
    let file = c.args.file.now in
    let most = c.args.most in
    let lines = c.next_file_line.new.lines in
    let same = c.in_ok-heading.ensures.reads.folder in
    let came : GaveLines folder file most [] c.args.lines.now → GaveLines other file most (line_said c.in-Some._heading ∷ []) lines = λ gave.
    let first = subst (λ (o : Option ProofLine). MatchOption o (GaveAll folder file most [] lines) (λ line. GaveLines folder file most (line_said line ∷ []) lines)) c.in-Some.is
    (c.in_ok-heading.ensures.next gave.0 [] gave.1) in
    subst (λ (f : Option FilesByName). GaveLines f file most (line_said c.in-Some._heading ∷ []) lines) (sym same) first in
    subst (λ (f : Option FilesByName). IfErr c.next_file_line-2.result (λ halt. GaveLines folder file most [] c.args.lines.now → AreBytes f file most (Err halt))) same
    (halted_next {X = GaveLines folder file most [] c.args.lines.now} other file most (line_said c.in-Some._heading ∷ []) c.next_file_line-2.result lines came c.next_file_line-2.ensures.halted)
