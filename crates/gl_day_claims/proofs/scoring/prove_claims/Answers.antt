use Rattle.std.proofs.Common.{arith}
use Rattle.std.proofs.lemmas.Result.{err_from_is_err_and}
use Rattle.gl_proof.specs.Claim.{statement_of}
use Rattle.gl_day_claims.proofs.Claiming.{AreClaimed-more, claimed_memory, claimed_partly}
use Rattle.gl_day_claims.proofs.Runs.{ClaimRun}
use Rattle.gl_day_claims.proofs.scoring.prove_claims.Goals as goal

pub returns-in_err-claim-clause-stopped : goal.returns-in_err-claim-clause-stopped
returns-in_err-claim-clause-stopped g c =
    let p = err_from_is_err_and c.from_residual.result c.from_residual.ensures.1 in
    let run : ClaimRun = record { number = c.args.number.now; goals = c.args.goals.now; proof = c.args.proof.now; before = g.D.Desk.told c.args.desk.now } in
    rw (p.1, p.2) (claimed_memory run c.loop-goal.goal-index c.loop-goal.totals (g.D.Desk.told c.loop-goal.desk) c.loop-goal.invariant)

pub returns-in_err-append_claim-clause-stopped : goal.returns-in_err-append_claim-clause-stopped
returns-in_err-append_claim-clause-stopped g c =
    let p = err_from_is_err_and c.from_residual-in_err-append_claim.result c.from_residual-in_err-append_claim.ensures.1 in
    let run : ClaimRun = record { number = c.args.number.now; goals = c.args.goals.now; proof = c.args.proof.now; before = g.D.Desk.told c.args.desk.now } in
    rw (p.1, p.2) (claimed_partly run c.loop-goal.goal-index c.goal-item.result (statement_of c.in_ok-claim.claim) c.loop-goal.totals (g.D.Desk.told c.loop-goal.desk)
    (g.D.Desk.told c.append_claim.new.desk) c.in_err-append_claim.field-0.0
    (record { below = omega arith; is = c.goal-item.is; proves = c.in_ok-claim.ensures.proves }) c.loop-goal.invariant c.in_err-append_claim.ensures.stopped)

pub loop-goal-preserved : goal.loop-goal-preserved
loop-goal-preserved g c =
    let run : ClaimRun = record { number = c.args.number.now; goals = c.args.goals.now; proof = c.args.proof.now; before = g.D.Desk.told c.args.desk.now } in
    AreClaimed-more run c.loop-goal.goal-index c.goal-item.result (statement_of c.in_ok-claim.claim) c.loop-goal.totals c.note.new.self (g.D.Desk.told c.loop-goal.desk)
    (g.D.Desk.told c.append_claim.new.desk) (record { below = omega arith; is = c.goal-item.is; proves = c.in_ok-claim.ensures.proves }) c.loop-goal.invariant
    c.in_ok-append_claim.ensures.appended c.note.ensures
