use Rattle.std.proofs.Common.{◌≡◌, ◌∙◌, true, Err, None, Some, ap, rules, subst, w32, to_z, of_z, ℤ}
use Rattle.std.proofs.lemmas.Int.{to_z-of_z}
use Rattle.std.proofs.lemmas.Result.{IfOk-weaker}
use Rattle.gl_igc.specs.Recording.{IsReadAs}
use Rattle.gl_answer.proofs.Listing.{is_named}
use Rattle.gl_day_claims.proofs.Flights.{entrant_seen}
use Rattle.gl_day_claims.proofs.Runs.{reads_memory}
use Rattle.gl_day_claims.proofs.seeing.see_entrant.Goals as goal

pub returns-then-not-contains-clause-seen : goal.returns-then-not-contains-clause-seen
returns-then-not-contains-clause-seen g c =
    (None, search rules, c.absent_flight.ensures)

pub returns-in-Ok-clause-seen : goal.returns-in-Ok-clause-seen
returns-in-Ok-clause-seen g c =
    let has : c.contains.result ≡ true = search rules in
    let listed = is_named c.args.names.now c.args.entrant.now.file c.contains.result c.contains.ensures.value has in
    let read = c.in-Ok.ensures.read in
    let date : ℤ = to_z w32 (of_z w32 c.args.task.now.date) in
    let same : date ≡ c.args.task.now.date = to_z-of_z w32 c.args.task.now.date (search rules) in
    let says = subst (λ (day : ℤ). IsReadAs read.bytes (Some day) c.in-Ok.read) same read.says in
    IfOk-weaker c.see_read.result _ _
    (λ seen is. (Some read.bytes, (listed, read.seen), entrant_seen c.args.task.now c.args.entrant.now read.bytes seen (is read.bytes read.small says)))
    c.see_read.ensures.seen

pub returns-in-Ok-clause-reads : goal.returns-in-Ok-clause-reads
returns-in-Ok-clause-reads g c =
    let reads = rw c.in-Ok.is at c.read_recording_file.ensures.reads in
    reads_memory (g.D.Desk.told c.args.desk.now) (g.D.Desk.told c.read_recording_file.new.desk) c.see_read.result c.see_read.ensures.memory reads

pub returns-in-Err-TooLarge-clause-seen : goal.returns-in-Err-TooLarge-clause-seen
returns-in-Err-TooLarge-clause-seen g c =
    let has : c.contains.result ≡ true = search rules in
    let listed = is_named c.args.names.now c.args.entrant.now.file c.contains.result c.contains.ensures.value has in
    let large = c.read_recording_file.ensures.too_large (c.in-Err-TooLarge.is ∙ ap Err c.in-Err-TooLarge.field-0-is) in
    (Some large.0, (listed, large.2), λ air stewards. c.large_flight.ensures air stewards large.0 large.1)
