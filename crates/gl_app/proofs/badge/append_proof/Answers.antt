use Rattle.std.proofs.Common.{map}
use Rattle.std.proofs.lemmas.Result.{err_from_is_err_and}
use Rattle.gl_proof.specs.Claim.{statement_of}
use Rattle.gl_app.proofs.Badges.{claims_part, end_stopped, heading_stopped, proof_appended}
use Rattle.gl_app.proofs.badge.append_proof.Goals as goal

pub returns-in_err-append_piece-clause-stopped : goal.returns-in_err-append_piece-clause-stopped
returns-in_err-append_piece-clause-stopped g c =
    let p = err_from_is_err_and c.from_residual.result c.from_residual.ensures.1 in
    rw (p.1, p.2) (heading_stopped c.args.proof.now c.heading_line.result.now (map statement_of c.args.claims.now) (g.D.Desk.told c.args.desk.now)
    (g.D.Desk.told c.append_piece.new.desk) c.in_err-append_piece.field-0.0 c.heading_line.ensures c.in_err-append_piece.ensures.stopped)

pub returns-in_err-append_claims-clause-stopped : goal.returns-in_err-append_claims-clause-stopped
returns-in_err-append_claims-clause-stopped g c =
    let p = err_from_is_err_and c.from_residual-in_err-append_claims.result c.from_residual-in_err-append_claims.ensures.1 in
    rw (p.1, p.2) (claims_part c.args.proof.now c.heading_line.result.now (map statement_of c.args.claims.now) (g.D.Desk.told c.args.desk.now) (g.D.Desk.told c.append_piece.new.desk)
    (g.D.Desk.told c.append_claims.new.desk) c.in_err-append_claims.field-0.0 c.heading_line.ensures c.in_ok-append_piece.ensures.appended c.in_err-append_claims.ensures.stopped)

pub returns-clause-appended : goal.returns-clause-appended
returns-clause-appended g c =
    proof_appended c.args.proof.now c.heading_line.result.now c.end_line.result.now (map statement_of c.args.claims.now) (g.D.Desk.told c.args.desk.now) (g.D.Desk.told c.append_piece.new.desk)
    (g.D.Desk.told c.append_claims.new.desk) (g.D.Desk.told c.append_piece-2.new.desk) c.append_piece-2.result c.heading_line.ensures c.end_line.ensures c.in_ok-append_piece.ensures.appended
    c.in_ok-append_claims.ensures.appended c.append_piece-2.ensures.appended

pub returns-clause-stopped : goal.returns-clause-stopped
returns-clause-stopped g c =
    end_stopped c.args.proof.now c.heading_line.result.now c.end_line.result.now (map statement_of c.args.claims.now) (g.D.Desk.told c.args.desk.now) (g.D.Desk.told c.append_piece.new.desk)
    (g.D.Desk.told c.append_claims.new.desk) (g.D.Desk.told c.append_piece-2.new.desk) c.append_piece-2.result c.heading_line.ensures c.end_line.ensures c.in_ok-append_piece.ensures.appended
    c.in_ok-append_claims.ensures.appended c.append_piece-2.ensures.stopped
