use Rattle.std.proofs.Common.{◌∙◌, List, ap, length, subst}
use Rattle.std.proofs.lemmas.Result.{err_from_is_err_and}
use Rattle.gl_day.specs.declared.flight.Flight.{Flight}
use Rattle.gl_day.specs.Day.{IsSheetOf}
use Rattle.gl_day_claims.proofs.Flights.{day_done, day_memory, end_stopped, flights_count}
use Rattle.gl_day_claims.proofs.Runs.{day_run}
use Rattle.gl_day_claims.proofs.scoring.score_day.Goals as goal

pub sheet_of-requires : goal.sheet_of-requires
sheet_of-requires g c =
    ap length c.as_slice.ensures.value ∙ flights_count (day_run c.args.files.now _ c.args.names.now c.args.proof.now (g.D.Desk.told c.args.desk.now) c.requires.names c.requires.proof_is_new)
    c.args.files.now.task.entrants (g.D.Desk.told c.score_entrants.new.desk) c.in_ok-flights.flights.items c.in_ok-flights.ensures.scored

pub returns-in_err-sheet-clause-stopped : goal.returns-in_err-sheet-clause-stopped
returns-in_err-sheet-clause-stopped g c =
    let p = err_from_is_err_and c.from_residual-in_err-sheet.result c.from_residual-in_err-sheet.ensures.1 in
    rw (p.1, p.2) (day_memory (day_run c.args.files.now _ c.args.names.now c.args.proof.now (g.D.Desk.told c.args.desk.now) c.requires.names c.requires.proof_is_new)
    (g.D.Desk.told c.score_entrants.new.desk) c.in_ok-flights.flights.items c.in_ok-flights.ensures.scored)

pub returns-in_err-append_piece-clause-stopped : goal.returns-in_err-append_piece-clause-stopped
returns-in_err-append_piece-clause-stopped g c =
    let p = err_from_is_err_and c.from_residual-in_err-append_piece.result c.from_residual-in_err-append_piece.ensures.1 in
    rw (p.1, p.2) (end_stopped (day_run c.args.files.now _ c.args.names.now c.args.proof.now (g.D.Desk.told c.args.desk.now) c.requires.names c.requires.proof_is_new)
    c.end_line.result.now (g.D.Desk.told c.score_entrants.new.desk)
    (g.D.Desk.told c.append_piece.new.desk) c.in_ok-flights.flights.items c.in_err-append_piece.field-0.0 c.end_line.ensures c.in_ok-flights.ensures.scored c.in_err-append_piece.ensures.stopped)

pub returns-clause-scored : goal.returns-clause-scored
returns-clause-scored g c =
    let said = subst (λ (l : List Flight). IsSheetOf c.args.files.now.task l c.in_ok-sheet.sheet.items) c.as_slice.ensures.value c.in_ok-sheet.ensures in
    day_done (day_run c.args.files.now _ c.args.names.now c.args.proof.now (g.D.Desk.told c.args.desk.now) c.requires.names c.requires.proof_is_new)
    c.end_line.result.now c.in_ok-sheet.sheet.items (g.D.Desk.told c.score_entrants.new.desk)
    (g.D.Desk.told c.append_piece.new.desk) c.in_ok-flights.flights.items c.end_line.ensures c.in_ok-flights.ensures.scored said c.in_ok-append_piece.ensures.appended
