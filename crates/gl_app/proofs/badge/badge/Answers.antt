use Rattle.std.proofs.lemmas.Result.{err_from_is_err_and}
use Rattle.gl_words.specs.BadgeWords.{badge_seen}
use Rattle.gl_app.proofs.Badges.{badge_refused, badge_right, badge_stopped}
use Rattle.gl_app.proofs.badge.badge.Goals as goal

pub returns-in-Err-clause-right : goal.returns-in-Err-clause-right
returns-in-Err-clause-right g c =
    badge_refused (badge_seen c.args.words) (g.D.Desk.told c.args.desk.now) (g.D.Desk.told c.names.new.self)
    (g.D.Desk.told c.test_badge_files.new.desk) c.in-Err.halt c.answer_halt.result c.in_ok-names.ensures.reads c.in-Err.ensures.tested c.in-Err.ensures.reads c.answer_halt.ensures

pub returns-in_err-append_proof-clause-stopped : goal.returns-in_err-append_proof-clause-stopped
returns-in_err-append_proof-clause-stopped g c =
    let p = err_from_is_err_and c.from_residual-in_err-append_proof.result c.from_residual-in_err-append_proof.ensures.1 in
    rw (p.1, p.2) (badge_stopped (badge_seen c.args.words) (g.D.Desk.told c.args.desk.now) (g.D.Desk.told c.names.new.self) (g.D.Desk.told c.test_badge_files.new.desk)
    (g.D.Desk.told c.append_proof.new.desk) c.in-Ok.recording c.in_ok-badges.badges.lines.items c.in_ok-badges.badges.claims.items c.as_slice.result.now c.in_err-append_proof.field-0.0
    c.in_ok-names.ensures.reads c.in-Ok.ensures.tested c.in-Ok.ensures.reads c.in_ok-badges.ensures c.as_slice.ensures.value c.in_err-append_proof.ensures.stopped)

pub returns-clause-right : goal.returns-clause-right
returns-clause-right g c =
    badge_right (badge_seen c.args.words) (g.D.Desk.told c.args.desk.now) (g.D.Desk.told c.names.new.self) (g.D.Desk.told c.test_badge_files.new.desk)
    (g.D.Desk.told c.append_proof.new.desk) c.in-Ok.recording c.in_ok-badges.badges.lines.items c.in_ok-badges.badges.claims.items c.as_slice.result.now c.in_ok-names.ensures.reads
    c.in-Ok.ensures.tested c.in-Ok.ensures.reads c.in_ok-badges.ensures c.as_slice.ensures.value c.in_ok-append_proof.ensures.appended
