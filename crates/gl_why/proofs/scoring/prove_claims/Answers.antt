use Rattle.gl_proof.specs.Claim.{statement_of}
use Rattle.gl_why.proofs.ProvenLemmas.{proven-more}
use Rattle.gl_why.proofs.scoring.prove_claims.Goals as goal

pub loop-goal-preserved : goal.loop-goal-preserved
loop-goal-preserved c =
    proven-more c.args.number.now c.args.goals.now c.loop-goal.goal-index c.goal-item.result (statement_of c.in_ok-claim.claim) c.loop-goal.totals c.note.new.self c.loop-goal.credited.items
    c.push_credited.new.credited.items c.loop-goal-test.true c.goal-item.is c.in_ok-claim.ensures.proves c.loop-goal.invariant c.note.ensures c.in_ok-push_credited.ensures
