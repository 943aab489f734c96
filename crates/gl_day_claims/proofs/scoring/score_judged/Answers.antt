use Rattle.std.proofs.Common.{sym, subst, inr, List}
use Rattle.std.specs.Prelude.{IsSome}
use Rattle.std.proofs.lemmas.Result.{err_from_is_err_and}
use Rattle.gl_goal.specs.declared.any.AnyGoal.{AnyGoal}
use Rattle.gl_proof.specs.declared.claim.ClaimKind.{ClaimKind}
use Rattle.gl_day.specs.Expected.{expected_of}
use Rattle.gl_judge.specs.Claimed.{rules_of_claims}
use Rattle.gl_day.proofs.Distances.{distance_claimed}
use Rattle.gl_day_claims.specs.Code.Scoring.{AreClaimed, AreClaimedPartly}
use Rattle.gl_day_claims.proofs.Flights.{recorded_asked}
use Rattle.gl_day_claims.proofs.scoring.score_judged.Goals as goal

pub returns-in_err-totals-clause-stopped : goal.returns-in_err-totals-clause-stopped
returns-in_err-totals-clause-stopped g c =
    let p = err_from_is_err_and c.from_residual.result c.from_residual.ensures.1 in
    let number = c.args.entrant.now.number in
    let goals = c.args.judged.now.claims.items in
    let x = g.D.Desk.told c.args.desk.now in
    let z = g.D.Desk.told c.prove_claims.new.desk in
    let partly = subst (λ (l : List (ClaimKind × AnyGoal)). AreClaimedPartly (expected_of number (rules_of_claims l)) c.args.proof.now x z c.in_err-totals.field-0.0) c.as_slice.ensures.value
    c.in_err-totals.ensures.stopped in
    rw (p.1, p.2) (inr (λ bytes seen. record {
      expected = expected_of number (rules_of_claims goals);
      asked = recorded_asked c.args.files.now.task c.args.files.now.airspace c.args.entrant.now c.args.rec.now bytes (rules_of_claims goals) seen c.requires.expected;
      partly = partly;
    }))

pub finish_flight-requires-clause-distance : goal.finish_flight-requires-clause-distance
finish_flight-requires-clause-distance g c chosen =
    let number = c.args.entrant.now.number in
    let claimed = subst (λ (l : List (ClaimKind × AnyGoal)). AreClaimed (expected_of number (rules_of_claims l)) c.in_ok-totals.totals c.args.proof.now (g.D.Desk.told c.args.desk.now)
    (g.D.Desk.told c.prove_claims.new.desk)) c.as_slice.ensures.value c.in_ok-totals.ensures.claimed in
    subst IsSome (sym claimed.totals_are.distance)
    (distance_claimed c.args.files.now.task c.args.files.now.airspace c.args.rec.now c.args.judged.now.outcome number c.args.judged.now.claims.items claimed.statements
    c.requires.judged c.requires.expected c.requires.legal claimed.each chosen)

pub returns-clause-scored : goal.returns-clause-scored
returns-clause-scored g c bytes seen =
    let number = c.args.entrant.now.number in
    let goals = c.args.judged.now.claims.items in
    let claimed = subst (λ (l : List (ClaimKind × AnyGoal)). AreClaimed (expected_of number (rules_of_claims l)) c.in_ok-totals.totals c.args.proof.now (g.D.Desk.told c.args.desk.now)
    (g.D.Desk.told c.prove_claims.new.desk)) c.as_slice.ensures.value c.in_ok-totals.ensures.claimed in
    record {
      statements = claimed.statements;
      is = c.finish_flight.ensures.flight c.args.files.now.airspace bytes claimed.statements seen c.requires.judged (record {
        claims = rules_of_claims goals;
        expected = c.requires.expected;
        proved = claimed.each;
        totals_are = claimed.totals_are;
      });
      appended = claimed.appended;
    }
