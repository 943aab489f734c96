use Rattle.std.proofs.Common.{◌∙◌, ℕ, List, [], Option, Result, Ok, Err, sym, subst, arith}
use Rattle.std.proofs.lemmas.Result.{err_from_is_err_and}
use Rattle.gl_answer.specs.FileTests.{ProofText, most_proof_bytes}
use Rattle.gl_answer.specs.Halts.{AreBytes}
use Rattle.gl_answer.specs.ReadFiles.{HasReadFile}
use Rattle.gl_answer.specs.declared.halt.Halt.{Halt}
use Rattle.gl_badge.specs.Proved.{IsBadgeChecked}
use Rattle.gl_check.specs.File.{HasSaid, IsTextBehind}
use Rattle.gl_check.specs.declared.claims_file.ClaimsFile.{ClaimsFile}
use Rattle.gl_check.proofs.FileEnds.{unread_file}
use Rattle.gl_desk.specs.Desk.{FilesByName}
use Rattle.gl_igc.specs.declared.recording.Recording.{Recording}
use Rattle.gl_proof.specs.Claim.{Statement}
use Rattle.gl_day.proofs.FileFound.{refused_too, text_found}
use Rattle.gl_day.specs.FileChecked.{HasFound, SaysOfText}
use Rattle.gl_day.specs.declared.fault.Checked.{Checked}
use Rattle.gl_app.proofs.badge_check.check_badge_file.Goals as goal

pub returns-in_err-claims-clause-checked : goal.returns-in_err-claims-clause-checked
returns-in_err-claims-clause-checked g c =
    let folder = (g.D.Desk.told c.args.desk.now).folder in
    let p = err_from_is_err_and c.from_residual.result c.from_residual.ensures.1 in
    rw (p.1, p.2) (unread_file folder c.args.proof.now most_proof_bytes (SaysOfText (IsBadgeChecked c.args.recording.now)) c.in_err-claims.field-0.0 c.in_err-claims.ensures.halted)

pub check_badges-requires : goal.check_badges-requires
check_badges-requires g c = rw (c.in_ok-claims.ensures.reads.folder, c.in_ok-claims.ensures.opens.file_is) c.requires

pub returns-in_err-said-clause-checked : goal.returns-in_err-said-clause-checked
returns-in_err-said-clause-checked g c =
    let folder = (g.D.Desk.told c.args.desk.now).folder in
    let halt = c.in_err-said.field-0.0 in
    let halted = subst (λ (f : Option FilesByName). (file : List ℕ) (most : ℕ) → HasSaid f file most [] c.in_ok-claims.claims → AreBytes f file most (Err halt)) c.in_ok-claims.ensures.reads.folder
    c.in_err-said.ensures.halted in
    let p = err_from_is_err_and c.from_residual-in_err-said.result c.from_residual-in_err-said.ensures.1 in
    rw (p.1, p.2) (unread_file folder c.args.proof.now most_proof_bytes (SaysOfText (IsBadgeChecked c.args.recording.now)) halt
    (halted c.args.proof.now most_proof_bytes c.in_ok-claims.ensures.opens))

-- what was found is found in the folder where the check began
abbrev Found : Option FilesByName → Recording → ClaimsFile → Checked → ClaimsFile → Type 0
Found folder recording old said new =
    (file : List ℕ) (most : ℕ) → HasSaid folder file most [] old → HasFound folder file most (λ statements. IsBadgeChecked recording statements said) new

pub end-requires-clause-came : goal.end-requires-clause-came
end-requires-clause-came g c =
    let new = c.check_badges.new.file in
    let all = subst (λ (f : Option FilesByName). Found f c.args.recording.now c.in_ok-claims.claims c.in_ok-said.said new) c.in_ok-claims.ensures.reads.folder c.in_ok-said.ensures.checked in
    let found = all c.args.proof.now most_proof_bytes c.in_ok-claims.ensures.opens in
    let back = sym (c.in_ok-said.ensures.reads.folder ∙ c.in_ok-claims.ensures.reads.folder) in
    (c.args.proof.now, most_proof_bytes, found.said, subst (λ (f : Option FilesByName). HasSaid f c.args.proof.now most_proof_bytes found.said new) back found.has)

-- a file was read to its end, or refused, in the folder where the check began
abbrev Ended : Option FilesByName → ClaimsFile → Result (Unit {0}) Halt → Type 0
Ended folder new result =
    (file : List ℕ) (most : ℕ) (said : List Statement) → HasSaid folder file most said new → HasReadFile ProofText most folder file (λ text _. IsTextBehind said new text) result

pub returns-in_err-end-clause-checked : goal.returns-in_err-end-clause-checked
returns-in_err-end-clause-checked g c =
    let folder = (g.D.Desk.told c.args.desk.now).folder in
    let new = c.check_badges.new.file in
    let halt = c.in_err-end.field-0.0 in
    let all = subst (λ (f : Option FilesByName). Found f c.args.recording.now c.in_ok-claims.claims c.in_ok-said.said new) c.in_ok-claims.ensures.reads.folder c.in_ok-said.ensures.checked in
    let found = all c.args.proof.now most_proof_bytes c.in_ok-claims.ensures.opens in
    let ended = subst (λ (f : Option FilesByName). Ended f new (Err halt)) (c.in_ok-said.ensures.reads.folder ∙ c.in_ok-claims.ensures.reads.folder) c.in_err-end.ensures.ended in
    let p = err_from_is_err_and c.from_residual-in_err-end.result c.from_residual-in_err-end.ensures.1 in
    rw (p.1, p.2) (refused_too {X = Unit {0}} folder c.args.proof.now most_proof_bytes (λ text _. IsTextBehind found.said new text) (SaysOfText (IsBadgeChecked c.args.recording.now)) halt
    (ended c.args.proof.now most_proof_bytes found.said found.has))

pub returns-clause-checked : goal.returns-clause-checked
returns-clause-checked g c =
    let folder = (g.D.Desk.told c.args.desk.now).folder in
    let new = c.check_badges.new.file in
    let all = subst (λ (f : Option FilesByName). Found f c.args.recording.now c.in_ok-claims.claims c.in_ok-said.said new) c.in_ok-claims.ensures.reads.folder c.in_ok-said.ensures.checked in
    let found = all c.args.proof.now most_proof_bytes c.in_ok-claims.ensures.opens in
    let ended = subst (λ (f : Option FilesByName). Ended f new (Ok c.in_ok-end.field-0)) (c.in_ok-said.ensures.reads.folder ∙ c.in_ok-claims.ensures.reads.folder) c.in_ok-end.ensures.ended in
    text_found folder c.args.proof.now most_proof_bytes (IsBadgeChecked c.args.recording.now) new c.in_ok-said.said c.in_ok-end.field-0 (omega arith) found
    (ended c.args.proof.now most_proof_bytes found.said found.has)
