use Rattle.std.proofs.lemmas.Result.{IfOk-weaker}
use Rattle.gl_judge.specs.Claimed.{rules_of_claims}
use Rattle.gl_day_claims.proofs.Flights.{asked_recorded, asked_refused}
use Rattle.gl_day_claims.proofs.Runs.{reads_memory}
use Rattle.gl_day_claims.proofs.checking.asked_of.Goals as goal

pub returns-in-Recorded-clause-asked : goal.returns-in-Recorded-clause-asked
returns-in-Recorded-clause-asked g c =
    let seen = c.in_ok-rec.ensures.seen in
    IfOk-weaker c.claims_of_recording.result _ _ (λ goals expected.
    asked_recorded (g.D.Desk.told c.args.desk.now).folder c.args.names.now c.args.files.now.task c.args.files.now.airspace c.args.entrant.now seen.0 c.in_ok-rec.field-0 c.in-Recorded.rec
    (rules_of_claims goals.items) c.requires seen.1 seen.2 c.in-Recorded.is expected)
    c.claims_of_recording.ensures.expected

pub returns-in-Recorded-clause-reads : goal.returns-in-Recorded-clause-reads
returns-in-Recorded-clause-reads g c =
    reads_memory (g.D.Desk.told c.args.desk.now) (g.D.Desk.told c.see_entrant.new.desk) c.claims_of_recording.result c.claims_of_recording.ensures.memory c.in_ok-rec.ensures.reads

pub returns-in-Refused-clause-asked : goal.returns-in-Refused-clause-asked
returns-in-Refused-clause-asked g c =
    let seen = c.in_ok-rec.ensures.seen in
    rw c.new.ensures.items (asked_refused (g.D.Desk.told c.args.desk.now).folder c.args.names.now c.args.files.now.task c.args.files.now.airspace c.args.entrant.now seen.0 c.in_ok-rec.field-0
    c.in-Refused.field-0 c.requires seen.1 seen.2 c.in-Refused.is)
