use Rattle.std.proofs.Common.{refl, ℕ, List, Err}
use Rattle.gl_answer.specs.Halts.{AreBytes}
use Rattle.gl_check.specs.File.{HasSaid}
use Rattle.gl_check.specs.declared.claims_file.ClaimsFile.{ClaimsFile}
use Rattle.gl_check.proofs.ClaimsSaid.{said_halted, said_next}
use Rattle.gl_check.proofs.FileLines.{handed_on}
use Rattle.gl_proof.specs.Claim.{Statement}
use Rattle.gl_check.proofs.claims_file.ClaimsFile.check_next.Goals as goal

pub returns-in_err-said-clause-halted : goal.returns-in_err-said-clause-halted
returns-in_err-said-clause-halted g c =
    let folder = (g.D.Desk.told c.args.desk.now).folder in
    handed_on (λ halt. (file : List ℕ) (most : ℕ) (said : List Statement) → HasSaid folder file most said c.args.self.now → AreBytes folder file most (Err halt)) c.from_residual.result
    c.in_err-said.field-0.0 c.from_residual.ensures.1
    (λ file most said has. said_halted folder file most said c.args.self.now c.take-ahead.result c.in_err-said.field-0.0 c.take-ahead.ensures.value has c.in_err-said.ensures.halted)

pub returns-clause-next : goal.returns-clause-next
returns-clause-next g c = λ file most said has.
    let folder = (g.D.Desk.told c.args.desk.now).folder in
    let after : ClaimsFile = record { file = c.args.self.now.file; most = c.args.self.now.most; lines = c.claim_next.new.lines; ahead = c.in_ok-said.ahead } in
    said_next folder file most said c.args.self.now after (g.G.Goal.rule c.args.goal.now) c.take-ahead.result c.in_ok-said.said c.take-ahead.ensures.value has refl refl c.in_ok-said.ensures.next
