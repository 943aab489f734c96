use Rattle.std.proofs.Common.{ℕ, List, subst}
use Rattle.std.proofs.lemmas.Result.{err_from_is_err_and}
use Rattle.gl_words.specs.NearWords.{near_seen}
use Rattle.gl_near.specs.Line.{near_text}
use Rattle.gl_near.specs.Search.{boxes_of}
use Rattle.gl_answer.specs.Appending.{HasAppended, HasAppendedPart}
use Rattle.gl_flights.proofs.Nears.{near_refused, near_right, near_stopped}
use Rattle.gl_flights.proofs.near.near.Goals as goal

pub returns-in-Err-clause-right : goal.returns-in-Err-clause-right
returns-in-Err-clause-right g c =
    near_refused (near_seen c.args.words) (g.D.Desk.told c.args.desk.now) (g.D.Desk.told c.names.new.self)
    (g.D.Desk.told c.test_near_files.new.desk) c.in-Err.halt c.answer_halt.result c.in_ok-names.ensures.reads c.in-Err.ensures.tested c.in-Err.ensures.reads c.answer_halt.ensures

pub returns-in_err-append_lines-clause-stopped : goal.returns-in_err-append_lines-clause-stopped
returns-in_err-append_lines-clause-stopped g c =
    let p = err_from_is_err_and c.from_residual-in_err-append_lines.result c.from_residual-in_err-append_lines.ensures.1 in
    let found = c.in_ok-said.found in
    rw (p.1, p.2) (near_stopped (near_seen c.args.words) (g.D.Desk.told c.args.desk.now) (g.D.Desk.told c.names.new.self) (g.D.Desk.told c.test_near_files.new.desk)
    (g.D.Desk.told c.append_lines.new.desk) c.in-Ok.flights c.in_ok-said.said.items (near_text found.best (boxes_of found)) c.in_err-append_lines.field-0.0 c.in_ok-names.ensures.reads
    c.in-Ok.ensures.tested c.in-Ok.ensures.reads c.in_ok-said.ensures (subst (λ (l : List ℕ). HasAppendedPart c.args.words.proof.now l (g.D.Desk.told c.test_near_files.new.desk)
    (g.D.Desk.told c.append_lines.new.desk) c.in_err-append_lines.field-0.0) c.in_ok-lines.ensures c.in_err-append_lines.ensures.stopped))

pub returns-clause-right : goal.returns-clause-right
returns-clause-right g c =
    let found = c.in_ok-said.found in
    near_right (near_seen c.args.words) (g.D.Desk.told c.args.desk.now) (g.D.Desk.told c.names.new.self) (g.D.Desk.told c.test_near_files.new.desk)
    (g.D.Desk.told c.append_lines.new.desk) c.in-Ok.flights c.in_ok-said.said.items (near_text found.best (boxes_of found)) c.in_ok-names.ensures.reads c.in-Ok.ensures.tested
    c.in-Ok.ensures.reads c.in_ok-said.ensures (subst (λ (l : List ℕ). HasAppended c.args.words.proof.now l (g.D.Desk.told c.test_near_files.new.desk) (g.D.Desk.told c.append_lines.new.desk))
    c.in_ok-lines.ensures c.in_ok-append_lines.ensures.appended)
