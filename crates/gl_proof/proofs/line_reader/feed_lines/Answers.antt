use Rattle.std.proofs.Common.{◌∙◌, sym, subst, ℕ, ◌++◌, List, append_assoc}
use Rattle.std.proofs.lemmas.Bool.{false≢true}
use Rattle.gl_proof.specs.LineReading.{IsReadBy, last_of, unread}
use Rattle.gl_proof.specs.LineRules.{IsTextRefused}
use Rattle.gl_proof.proofs.LinesRead.{long_fed, long_told}
use Rattle.gl_proof.proofs.line_reader.feed_lines.Goals as goal

pub returns-then-has_line-clause-fed : goal.returns-then-has_line-clause-fed
returns-then-has_line-clause-fed g c = λ text lines read more.
    let r = c.args.reader.now in
    let rules = g.L.TextLine.rules in
    let long = subst (IsReadBy rules g.L.TextLine.is_place text lines (unread r) r.place r.number) c.in-Long.is read in
    subst (IsTextRefused rules ((text ++ c.args.piece.now) ++ more)) (sym c.fault_at.ensures)
    (long_told rules g.L.TextLine.is_place text lines r.place r.number c.args.piece.now more (g.met.L.TextLine.laws.short (last_of lines)) long (c.has_line.ensures.0 c.if-has_line.true))

pub returns-else-has_line-clause-fed : goal.returns-else-has_line-clause-fed
returns-else-has_line-clause-fed g c = λ text lines read.
    let r = c.args.reader.now in
    let rules = g.L.TextLine.rules in
    let long = subst (IsReadBy rules g.L.TextLine.is_place text lines (unread r) r.place r.number) c.in-Long.is read in
    subst (IsReadBy rules g.L.TextLine.is_place (text ++ c.args.piece.now) lines (unread r) r.place r.number) (sym c.in-Long.is)
    (long_fed rules g.L.TextLine.is_place text lines r.place r.number c.args.piece.now long (λ has. false≢true (sym c.if-has_line.false ∙ c.has_line.ensures.1 has)))

pub returns-in-Wrong-clause-fed : goal.returns-in-Wrong-clause-fed
returns-in-Wrong-clause-fed g c = λ text lines read.
    let r = c.args.reader.now in
    let rules = g.L.TextLine.rules in
    let wrong = subst (IsReadBy rules g.L.TextLine.is_place text lines (unread r) r.place r.number) c.in-Wrong.is read in
    subst (IsReadBy rules g.L.TextLine.is_place (text ++ c.args.piece.now) lines (unread r) r.place r.number) (sym c.in-Wrong.is)
    (λ more. subst (λ (l : List ℕ). IsTextRefused rules l c.in-Wrong.field-0) (sym (append_assoc text c.args.piece.now more)) (wrong (c.args.piece.now ++ more)))
