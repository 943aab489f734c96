use Rattle.std.proofs.Common.{◌≡◌, ◌∙◌, ◌<◌, ◌≤◌, ◌+◌, ◌++◌, ◌∷◌, List, [], get_or, length, refl, subst}
use Rattle.std.proofs.lemmas.Result.{err_from_is_err_and}
use Rattle.gl_task.specs.declared.task.Entrant.{Entrant}
use Rattle.gl_day.specs.Flight.{StewardRules}
use Rattle.gl_day_claims.specs.Scored.{statements_of_all, text_so_far}
use Rattle.gl_day_claims.specs.Code.Scoring.{IsEntrantScored}
use Rattle.gl_day_claims.proofs.Flights.{entrants_all, entrants_memory, entrants_more, have_files, heading_stopped, none_scored, stopped_either}
use Rattle.gl_day_claims.proofs.Runs.{day_run}
use Rattle.gl_day_claims.proofs.scoring.score_entrants.Goals as goal

pub returns-in_err-append_piece-clause-stopped : goal.returns-in_err-append_piece-clause-stopped
returns-in_err-append_piece-clause-stopped g c =
    let p = err_from_is_err_and c.from_residual.result c.from_residual.ensures.1 in
    rw (p.1, p.2) (heading_stopped c.args.files.now c.args.proof.now c.heading_line.result.now (g.D.Desk.told c.args.desk.now)
    (g.D.Desk.told c.append_piece.new.desk) c.in_err-append_piece.field-0.0 c.heading_line.ensures c.in_err-append_piece.ensures.stopped)

pub loop-entrant-init : goal.loop-entrant-init
loop-entrant-init g c = record {
  kept = refl;
  scored = rw c.new-flights.ensures.items (none_scored (day_run c.args.files.now _ c.args.names.now c.args.proof.now (g.D.Desk.told c.args.desk.now) c.requires.names c.requires.proof_is_new)
      c.heading_line.result.now (g.D.Desk.told c.append_piece.new.desk) c.heading_line.ensures c.in_ok-append_piece.ensures.appended);
}

pub score_entrant-requires-clause-names : goal.score_entrant-requires-clause-names
score_entrant-requires-clause-names g c =
    let so = c.loop-entrant.invariant.scored in
    have_files c.args.names.now c.args.proof.now (text_so_far (statements_of_all so.scored)) (g.D.Desk.told c.args.desk.now)
    (g.D.Desk.told c.loop-entrant.desk) c.requires.names c.requires.proof_is_new so.appended

pub returns-in_err-score_entrant-clause-stopped : goal.returns-in_err-score_entrant-clause-stopped
returns-in_err-score_entrant-clause-stopped g c =
    let p = err_from_is_err_and c.from_residual-in_err-score_entrant.result c.from_residual-in_err-score_entrant.ensures.1 in
    let i = c.loop-entrant.entrant-index in
    let e = c.entrant-item.result in
    let below = subst (λ (l : List Entrant). i < length l) c.as_slice-entrant-items.ensures c.loop-entrant-test.true in
    let item = subst (λ (l : List Entrant). e ≡ get_or l i e) c.as_slice-entrant-items.ensures c.entrant-item.is in
    rw (p.1, p.2) (stopped_either (day_run c.args.files.now _ c.args.names.now c.args.proof.now (g.D.Desk.told c.args.desk.now) c.requires.names c.requires.proof_is_new)
    i e (g.D.Desk.told c.loop-entrant.desk) (g.D.Desk.told c.score_entrant.new.desk) c.loop-entrant.flights.items c.in_err-score_entrant.field-0.0 (record { below = below; is = item })
    c.loop-entrant.invariant.scored
    c.in_err-score_entrant.ensures.stopped)

pub returns-in_err-push-clause-stopped : goal.returns-in_err-push-clause-stopped
returns-in_err-push-clause-stopped g c =
    let p = err_from_is_err_and c.from_residual-in_err-push.result c.from_residual-in_err-push.ensures.1 in
    let i = c.loop-entrant.entrant-index in
    let e = c.entrant-item.result in
    let flight = c.in_ok-score_entrant.field-0 in
    let below = subst (λ (l : List Entrant). i < length l) c.as_slice-entrant-items.ensures c.loop-entrant-test.true in
    let item = subst (λ (l : List Entrant). e ≡ get_or l i e) c.as_slice-entrant-items.ensures c.entrant-item.is in
    let scored = c.in_ok-score_entrant.ensures.scored in
    let is = subst (λ (r : List StewardRules). IsEntrantScored c.args.files.now r e scored.0 c.args.proof.now (g.D.Desk.told c.loop-entrant.desk) (g.D.Desk.told c.score_entrant.new.desk) flight)
    c.loop-entrant.invariant.kept scored.2 in
    rw (p.1, p.2) (entrants_memory (day_run c.args.files.now _ c.args.names.now c.args.proof.now (g.D.Desk.told c.args.desk.now) c.requires.names c.requires.proof_is_new)
    (i + 1) (g.D.Desk.told c.score_entrant.new.desk) (c.loop-entrant.flights.items ++ flight ∷ [])
    (entrants_more (day_run c.args.files.now _ c.args.names.now c.args.proof.now (g.D.Desk.told c.args.desk.now) c.requires.names c.requires.proof_is_new)
    i e scored.0 (g.D.Desk.told c.loop-entrant.desk) (g.D.Desk.told c.score_entrant.new.desk) c.loop-entrant.flights.items flight (record { below = below; is = item })
    c.loop-entrant.invariant.scored scored.1 is))

pub loop-entrant-preserved : goal.loop-entrant-preserved
loop-entrant-preserved g c =
    let i = c.loop-entrant.entrant-index in
    let e = c.entrant-item.result in
    let flight = c.in_ok-score_entrant.field-0 in
    let below = subst (λ (l : List Entrant). i < length l) c.as_slice-entrant-items.ensures c.loop-entrant-test.true in
    let item = subst (λ (l : List Entrant). e ≡ get_or l i e) c.as_slice-entrant-items.ensures c.entrant-item.is in
    let scored = c.in_ok-score_entrant.ensures.scored in
    let is = subst (λ (r : List StewardRules). IsEntrantScored c.args.files.now r e scored.0 c.args.proof.now (g.D.Desk.told c.loop-entrant.desk) (g.D.Desk.told c.score_entrant.new.desk) flight)
    c.loop-entrant.invariant.kept scored.2 in
    record {
      kept = c.in_ok-score_entrant.ensures.kept ∙ c.loop-entrant.invariant.kept;
      scored = rw c.in_ok-push.ensures.items (entrants_more (day_run c.args.files.now _ c.args.names.now c.args.proof.now (g.D.Desk.told c.args.desk.now) c.requires.names c.requires.proof_is_new)
          i e scored.0 (g.D.Desk.told c.loop-entrant.desk) (g.D.Desk.told c.score_entrant.new.desk) c.loop-entrant.flights.items flight (record { below = below; is = item })
          c.loop-entrant.invariant.scored scored.1 is);
    }

pub returns-clause-scored : goal.returns-clause-scored
returns-clause-scored g c =
    let last : length c.args.files.now.task.entrants ≤ c.loop-entrant.entrant-index =
    subst (λ (l : List Entrant). length l ≤ c.loop-entrant.entrant-index) c.as_slice-entrant-items.ensures c.loop-entrant-test.false in
    entrants_all (day_run c.args.files.now _ c.args.names.now c.args.proof.now (g.D.Desk.told c.args.desk.now) c.requires.names c.requires.proof_is_new)
    c.loop-entrant.entrant-index (g.D.Desk.told c.loop-entrant.desk) c.loop-entrant.flights.items last c.loop-entrant.invariant.scored
