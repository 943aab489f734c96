use Rattle.std.proofs.Common.{◌∙◌, sym, ap, ℕ, List, ◌∷◌}
use Rattle.gl_box.specs.Cell.{spans_of}
use Rattle.gl_box.specs.Walk.{open_cells}
use Rattle.gl_box.proofs.Frontiers.{covers_both, open_push}
use Rattle.gl_pool.proofs.trail.resume.Goals as goal

pub returns-then-covers-2-clause-first : goal.returns-then-covers-2-clause-first
returns-then-covers-2-clause-first c first =
    let next = c.in-Some.next in
    let cell = c.args.cell.now in
    let rest = c.pop.new.self.items in
    let same = covers_both (spans_of next) (spans_of cell) (c.covers.ensures.0 c.if-covers.true) (c.covers-then-covers.ensures.0 c.if-covers-2.true) in
    ap open_cells c.in-Some.ensures.items ∙ open_push rest next ∙ ap (λ (spans : List (ℕ × ℕ)). spans ∷ open_cells rest) same ∙ sym (open_push rest cell)
