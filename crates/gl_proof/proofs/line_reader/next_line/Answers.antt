use Rattle.std.proofs.Common.{subst}
use Rattle.std.specs.Prelude.{MatchOption}
use Rattle.gl_proof.specs.LineReading.{IsReadBy, LeavesBehind, NoneComes, last_of, unread}
use Rattle.gl_proof.proofs.line_reader.next_line.Goals as goal

pub returns-in_default-2-clause-read : goal.returns-in_default-2-clause-read
returns-in_default-2-clause-read g c = λ text lines read.
    let r = c.args.reader.now in
    let rules = g.L.TextLine.rules in
    let are = subst (IsReadBy rules g.L.TextLine.is_place text lines (unread r) r.place r.number) c.in-Going.is read in
    c.note_none.ensures.none text lines read (subst
    (λ found. MatchOption found (NoneComes rules (last_of lines) (unread r)) (λ taken. LeavesBehind rules (last_of lines) (unread r) (g.L.TextLine.said taken.0) taken.1)) c.in_default-2.is
    (c.in_ok-line.ensures.found (last_of lines) are.is_place))

pub returns-clause-read : goal.returns-clause-read
returns-clause-read g c = λ text lines read.
    let r = c.args.reader.now in
    let rules = g.L.TextLine.rules in
    let are = subst (IsReadBy rules g.L.TextLine.is_place text lines (unread r) r.place r.number) c.in-Going.is read in
    c.note_left.ensures.noted text lines (g.L.TextLine.said c.in-Some.line) read c.place.ensures (subst
    (λ found. MatchOption found (NoneComes rules (last_of lines) (unread r)) (λ taken. LeavesBehind rules (last_of lines) (unread r) (g.L.TextLine.said taken.0) taken.1)) c.in-Some.is
    (c.in_ok-line.ensures.found (last_of lines) are.is_place))

pub returns-clause-comes : goal.returns-clause-comes
returns-clause-comes g c = λ text lines read.
    let r = c.args.reader.now in
    let rules = g.L.TextLine.rules in
    let are = subst (IsReadBy rules g.L.TextLine.is_place text lines (unread r) r.place r.number) c.in-Going.is read in
    let left = subst
    (λ found. MatchOption found (NoneComes rules (last_of lines) (unread r)) (λ taken. LeavesBehind rules (last_of lines) (unread r) (g.L.TextLine.said taken.0) taken.1)) c.in-Some.is
    (c.in_ok-line.ensures.found (last_of lines) are.is_place) in
    left.next.0
