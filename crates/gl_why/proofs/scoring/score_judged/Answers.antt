use Rattle.std.proofs.Common.{sym, subst, List}
use Rattle.std.specs.Prelude.{IsSome}
use Rattle.gl_day.proofs.Distances.{distance_claimed}
use Rattle.gl_day.specs.Expected.{expected_of}
use Rattle.gl_goal.specs.declared.any.AnyGoal.{AnyGoal}
use Rattle.gl_judge.specs.Claimed.{rules_of_claims}
use Rattle.gl_proof.specs.declared.claim.ClaimKind.{ClaimKind}
use Rattle.gl_why.specs.Code.Scoring.{AreProven}
use Rattle.gl_why.proofs.scoring.score_judged.Goals as goal

pub finish-requires-clause-judged : goal.finish-requires-clause-judged
finish-requires-clause-judged c = (c.args.air.now, c.requires.judged)

pub finish-requires-clause-distance : goal.finish-requires-clause-distance
finish-requires-clause-distance c chosen =
    let number = c.args.entrant.now.number in
    let proven = subst (λ (l : List (ClaimKind × AnyGoal)). AreProven (expected_of number (rules_of_claims l)) c.in_ok-proven.proven.totals c.in_ok-proven.proven.credited.items) c.as_slice.ensures.value
    c.in_ok-proven.ensures in
    subst IsSome (sym proven.totals_are.distance)
    (distance_claimed c.args.task.now c.args.air.now c.args.rec.now c.args.judged.outcome number c.args.judged.claims.items proven.statements c.requires.judged c.requires.expected c.requires.legal
    proven.each chosen)

pub returns : goal.returns
returns c =
    let number = c.args.entrant.now.number in
    let proven = subst (λ (l : List (ClaimKind × AnyGoal)). AreProven (expected_of number (rules_of_claims l)) c.in_ok-proven.proven.totals c.in_ok-proven.proven.credited.items) c.as_slice.ensures.value
    c.in_ok-proven.ensures in
    record {
      judged_is = c.requires.judged;
      statements = proven.statements;
      flight_is = λ bytes seen. c.in_ok-flight.ensures c.args.air.now bytes proven.statements seen c.requires.judged
          (record { claims = rules_of_claims c.args.judged.claims.items; expected = c.requires.expected; proved = proven.each; totals_are = proven.totals_are });
      credited_are = proven.credited_are;
    }
