use Rattle.std.proofs.Common.{[]}
use Rattle.gl_day_claims.proofs.Flights.{begun_seen, refused_seen, scored_seen}
use Rattle.gl_day_claims.proofs.scoring.score_entrant.Goals as goal

pub returns-in-Recorded-clause-scored : goal.returns-in-Recorded-clause-scored
returns-in-Recorded-clause-scored g c =
    let seen = c.in_ok-rec.ensures.seen in
    scored_seen (record { files = c.args.files.now; stewards = _; names = c.args.names.now; proof = c.args.proof.now; entrant = c.args.entrant.now; before = g.D.Desk.told c.args.desk.now })
    c.in_ok-rec.field-0 c.in-Recorded.rec (g.D.Desk.told c.see_entrant.new.desk) (g.D.Desk.told c.score_recorded.new.desk) c.score_recorded.result
    (record { there = seen.0; among = seen.1; is = seen.2; reads = c.in_ok-rec.ensures.reads }) c.in-Recorded.is c.score_recorded.ensures.scored

pub returns-in-Recorded-clause-stopped : goal.returns-in-Recorded-clause-stopped
returns-in-Recorded-clause-stopped g c =
    let seen = c.in_ok-rec.ensures.seen in
    begun_seen (record { files = c.args.files.now; stewards = []; names = c.args.names.now; proof = c.args.proof.now; entrant = c.args.entrant.now; before = g.D.Desk.told c.args.desk.now })
    c.in_ok-rec.field-0 c.in-Recorded.rec (g.D.Desk.told c.see_entrant.new.desk) (g.D.Desk.told c.score_recorded.new.desk) c.score_recorded.result
    (record { there = seen.0; among = seen.1; is = seen.2; reads = c.in_ok-rec.ensures.reads }) c.in-Recorded.is c.score_recorded.ensures.stopped

pub returns-in-Refused-clause-scored : goal.returns-in-Refused-clause-scored
returns-in-Refused-clause-scored g c =
    let seen = c.in_ok-rec.ensures.seen in
    refused_seen (record { files = c.args.files.now; stewards = _; names = c.args.names.now; proof = c.args.proof.now; entrant = c.args.entrant.now; before = g.D.Desk.told c.args.desk.now })
    c.in_ok-rec.field-0 c.in-Refused.flight (g.D.Desk.told c.see_entrant.new.desk)
    (record { there = seen.0; among = seen.1; is = seen.2; reads = c.in_ok-rec.ensures.reads }) c.in-Refused.is

pub returns-in-Recorded-clause-kept : goal.returns-in-Recorded-clause-kept
returns-in-Recorded-clause-kept g c = c.score_recorded.ensures.kept
