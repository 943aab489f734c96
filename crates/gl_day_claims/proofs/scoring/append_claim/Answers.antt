use Rattle.std.proofs.Common.{subst, ℕ, List}
use Rattle.std.specs.Prelude.{IfErr, OnOk}
use Rattle.std.proofs.lemmas.Result.{err_from_is_err_and}
use Rattle.gl_answer.specs.Appending.{HasAppended, HasAppendedPart}
use Rattle.gl_answer.proofs.Appended.{none_memory}
use Rattle.gl_proof.specs.Claim.{claim_text, statement_of}
use Rattle.gl_day_claims.proofs.scoring.append_claim.Goals as goal

pub returns-in_err-lines-clause-stopped : goal.returns-in_err-lines-clause-stopped
returns-in_err-lines-clause-stopped g c =
    let p = err_from_is_err_and c.from_residual.result c.from_residual.ensures.1 in
    rw (p.1, p.2) (none_memory c.args.proof.now (claim_text (statement_of c.args.claim.now)) (g.D.Desk.told c.args.desk.now))

pub returns-clause-appended : goal.returns-clause-appended
returns-clause-appended g c =
    subst (λ (text : List ℕ). OnOk c.append_lines.result (HasAppended c.args.proof.now text (g.D.Desk.told c.args.desk.now) (g.D.Desk.told c.append_lines.new.desk))) c.in_ok-lines.ensures
    c.append_lines.ensures.appended

pub returns-clause-stopped : goal.returns-clause-stopped
returns-clause-stopped g c =
    subst (λ (text : List ℕ). IfErr c.append_lines.result (HasAppendedPart c.args.proof.now text (g.D.Desk.told c.args.desk.now) (g.D.Desk.told c.append_lines.new.desk))) c.in_ok-lines.ensures
    c.append_lines.ensures.stopped
