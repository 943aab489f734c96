use Rattle.std.proofs.Common.{◌∙◌, sym, subst, ℕ, List, [], inl, inr}
use Rattle.std.proofs.lemmas.Bool.{false≢true}
use Rattle.std.proofs.lemmas.List.{append-nil}
use Rattle.gl_proof.specs.LineReading.{IsExhaustedBy, IsReadBy, last_of, unread}
use Rattle.gl_proof.specs.LineRules.{IsTextRefused}
use Rattle.gl_proof.proofs.LinesRead.{cut_told}
use Rattle.gl_proof.proofs.line_reader.end_lines.Goals as goal

pub returns-else-has_ended : goal.returns-else-has_ended
returns-else-has_ended g c = λ text lines read.
    let r = c.args.reader.now in
    let rules = g.L.TextLine.rules in
    let are = subst (IsReadBy rules g.L.TextLine.is_place text lines (unread r) r.place r.number) c.in-Going.is read in
    let not_ended = sym c.has_ended.ensures ∙ c.if-has_ended.false in
    let spent = subst (IsExhaustedBy g.L.TextLine.ends (unread r) r.place) c.in-Going.is c.requires in
    subst (IsTextRefused rules text) (sym c.cut_at.ensures) (cut_told rules g.L.TextLine.is_place text lines (unread r) r.place r.number are
    (elim spent [ inl at ↦ λ has. false≢true (sym not_ended ∙ at.0) | inr at ↦ at.1 ])
    (λ ended. false≢true (sym not_ended ∙ (g.met.L.TextLine.laws.ended (last_of lines) r.place are.is_place).1 ended)))

pub returns-in-Long : goal.returns-in-Long
returns-in-Long g c = λ text lines read.
    let r = c.args.reader.now in
    let rules = g.L.TextLine.rules in
    let long = subst (IsReadBy rules g.L.TextLine.is_place text lines (unread r) r.place r.number) c.in-Long.is read in
    subst (IsTextRefused rules text) (sym c.cut_at-in-Long.ensures) (cut_told rules g.L.TextLine.is_place text lines long.rest r.place r.number long.are long.broken long.open_)

pub returns-in-Wrong : goal.returns-in-Wrong
returns-in-Wrong g c = λ text lines read.
    let r = c.args.reader.now in
    let rules = g.L.TextLine.rules in
    let wrong = subst (IsReadBy rules g.L.TextLine.is_place text lines (unread r) r.place r.number) c.in-Wrong.is read in
    subst (λ (l : List ℕ). IsTextRefused rules l c.in-Wrong.error) (append-nil text) (wrong [])
