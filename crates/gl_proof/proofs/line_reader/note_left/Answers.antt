use Rattle.std.proofs.Common.{arith, ◌≡◌, ◌∙◌, sym, subst, ap, ℕ, ◌-◌, ◌++◌, ◌∷◌, List, [], drop, length}
use Rattle.gl_proof.specs.LineReading.{AreRead, IsReadBy, unread}
use Rattle.gl_proof.proofs.LinesRead.{left_behind, read_more}
use Rattle.gl_proof.proofs.line_reader.note_left.Goals as goal

pub returns-clause-noted : goal.returns-clause-noted
returns-clause-noted g c = λ text lines said read placed leaves.
    let r = c.args.reader.now in
    let rules = g.L.TextLine.rules in
    let are = subst (IsReadBy rules g.L.TextLine.is_place text lines (unread r) r.place r.number) c.requires read in
    let rest = drop (length (unread r) - c.args.left) (unread r) in
    let at = c.saturating_sub-reader.result in
    let behind : rest ≡ drop at r.bytes.items =
    left_behind r.bytes.items r.at c.args.left (omega (arith, r.within, r.bytes.ok.0)) leaves.within ∙ ap (λ (n : ℕ). drop n r.bytes.items) (omega (arith, c.saturating_sub-reader.ensures, c.len.ensures, r.bytes.ok.0)) in
    let more = read_more rules g.L.TextLine.is_place text lines (unread r) r.place c.args.place r.number c.later-reader.result said rest are leaves.next placed
    c.later-reader.ensures in
    subst (IsReadBy rules g.L.TextLine.is_place text (lines ++ said ∷ []) (drop at r.bytes.items) c.args.place c.later-reader.result) (sym c.requires)
    (subst (λ (l : List ℕ). AreRead rules g.L.TextLine.is_place text (lines ++ said ∷ []) l c.args.place c.later-reader.result) behind more)
