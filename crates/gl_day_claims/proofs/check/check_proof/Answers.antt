use Rattle.std.proofs.Common.{◌∙◌, Option, Err, Ok, subst}
use Rattle.std.proofs.lemmas.Result.{err_from_is_err_and}
use Rattle.gl_answer.specs.FileTests.{ProofText}
use Rattle.gl_answer.specs.ReadFiles.{HasReadFile}
use Rattle.gl_answer.proofs.ReadsTwice.{reads_twice}
use Rattle.gl_desk.proofs.Reading.{OnlyReads-then}
use Rattle.gl_desk.specs.Desk.{FilesByName}
use Rattle.gl_words.specs.DayNames.{names_seen}
use Rattle.gl_day_files.specs.DayFiles.{HasTestedDay}
use Rattle.gl_day_claims.specs.Check.{IsTextChecked}
use Rattle.gl_day_claims.proofs.FileFound.{day_said, proof_said}
use Rattle.gl_day_claims.proofs.check.check_proof.Goals as goal

pub returns-in_err-files-clause-checked : goal.returns-in_err-files-clause-checked
returns-in_err-files-clause-checked g c =
    let folder = (g.D.Desk.told c.args.desk.now).folder in
    let names = names_seen c.args.day in
    let halt = c.in_err-files.field-0.0 in
    let tested = subst (λ (f : Option FilesByName). HasTestedDay c.args.most f names (Err halt)) c.in_ok-names.ensures.reads.folder (c.in_err-files.ensures.tested c.args.most) in
    let p = err_from_is_err_and c.from_residual-in_err-files.result c.from_residual-in_err-files.ensures.1 in
    rw (p.1, p.2) (day_said c.args.most folder names halt tested)

pub check_file-requires-clause-listed : goal.check_file-requires-clause-listed
check_file-requires-clause-listed g c = rw c.in_ok-files.ensures.reads.folder c.in_ok-files.ensures.listed

pub returns-clause-checked : goal.returns-clause-checked
returns-clause-checked g c =
    let folder = (g.D.Desk.told c.args.desk.now).folder in
    let names = names_seen c.args.day in
    let files = c.in_ok-files.files in
    let tested = subst (λ (f : Option FilesByName). HasTestedDay c.args.most f names (Ok files)) c.in_ok-names.ensures.reads.folder (c.in_ok-files.ensures.tested c.args.most) in
    let said = subst (λ (f : Option FilesByName). HasReadFile ProofText c.args.most f names.proof (IsTextChecked f files) c.check_file.result)
    (c.in_ok-files.ensures.reads.folder ∙ c.in_ok-names.ensures.reads.folder) c.check_file.ensures.checked in
    proof_said c.args.most folder names files c.check_file.result tested said

pub returns-clause-reads : goal.returns-clause-reads
returns-clause-reads g c =
    OnlyReads-then _ _ _ _ (reads_twice _ _ _ c.in_ok-names.ensures.reads c.in_ok-files.ensures.reads) c.check_file.ensures.reads
