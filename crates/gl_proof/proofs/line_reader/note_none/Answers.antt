use Rattle.std.proofs.Common.{◌∙◌, sym, subst, ap, ◌++◌, length}
use Rattle.std.proofs.lemmas.Bool.{eqb-false}
use Rattle.gl_proof.specs.LineRefusal.{HasLine}
use Rattle.gl_proof.specs.LineReading.{IsReadBy, last_of, unread}
use Rattle.gl_proof.specs.LineRules.{IsTextRefused}
use Rattle.gl_proof.proofs.LinesRead.{after_fed, wrong_fed}
use Rattle.gl_proof.proofs.line_reader.note_none.Goals as goal

pub returns-then-not-is_empty-clause-none : goal.returns-then-not-is_empty-clause-none
returns-then-not-is_empty-clause-none g c = λ text lines read none more.
    let r = c.args.reader.now in
    let rules = g.L.TextLine.rules in
    let are = subst (IsReadBy rules g.L.TextLine.is_place text lines (unread r) r.place r.number) c.requires read in
    let ended = (g.met.L.TextLine.laws.ended (last_of lines) r.place are.is_place).0 (sym c.has_ended.ensures ∙ c.if-has_ended.true) in
    subst (IsTextRefused rules (text ++ more)) (sym c.fault_at.ensures) (after_fed rules g.L.TextLine.is_place text lines (unread r) r.place r.number more are ended
    (λ empty. eqb-false _ _ (sym c.is_empty.ensures ∙ c.if-not-is_empty.true) (ap length (c.unread-text.ensures ∙ empty))))

pub returns-then-has_line-clause-none : goal.returns-then-has_line-clause-none
returns-then-has_line-clause-none g c = λ text lines read none more.
    let r = c.args.reader.now in
    let rules = g.L.TextLine.rules in
    let are = subst (IsReadBy rules g.L.TextLine.is_place text lines (unread r) r.place r.number) c.requires read in
    subst (IsTextRefused rules (text ++ more)) (sym c.fault_at-then-has_line.ensures) (wrong_fed rules g.L.TextLine.is_place text lines (unread r) r.place r.number more
    (g.met.L.TextLine.laws.unbroken (last_of lines)) are (subst HasLine c.unread-text.ensures (c.has_line.ensures.0 c.if-has_line.true)) none)
