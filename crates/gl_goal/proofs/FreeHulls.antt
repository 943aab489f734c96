-- The hulls that a free goal keeps.
use Rattle.std.proofs.Common.{◌≡◌, ◌∙◌, sym, ap, ℕ, suc, ◌-◌, ◌<◌, List, [], ◌∷◌, length, get_or, arith}
use Rattle.gl_box.specs.Cell.{Covers, ends, spans_of}
use Rattle.gl_box.specs.declared.cell.Cell.{Cell}
use Rattle.gl_box.specs.declared.span.Span.{Span}
use Rattle.gl_igc.specs.declared.fix.Fix.{Fix}
use Rattle.gl_goal.specs.Box.{Box, fixes_in, hull_of}
use Rattle.gl_goal.specs.declared.free.FreeGoal.{FreeGoal}
use Rattle.gl_goal.specs.Goal.{whole_cell}
use Rattle.gl_goal.specs.Chain.{fixes_at, hulls_of}
use Rattle.gl_goal.specs.Free.{five_axes, numbers_between}
use Rattle.gl_goal.specs.Lemmas.Chain.{length-fixes_at}
use Rattle.gl_goal.specs.Lemmas.Free.{length-numbers_between, numbers_between-named}
use Rattle.gl_goal.proofs.Fives.{five-hi_within, five-spans}

pub length-hulls : (g : FreeGoal) → length g.hulls ≡ suc (g.last - g.first)
length-hulls g =
    ap length g.hulled ∙ length-fixes_at g.fixes.items (numbers_between g.first g.last) (numbers_between-named g.fixes.items g.first g.last g.in_order g.within)
    ∙ length-numbers_between g.first g.last

-- the spans of a cell lie within them
pub hull-fits : (g : FreeGoal) (cell : Cell) (k : ℕ) (d : Span) → Covers (whole_cell (five_axes g.first g.last)) (spans_of cell) → k < 5 → (get_or cell.spans k d).hi < length g.hulls
hull-fits g cell k d covers below = omega (arith, five-hi_within g.first g.last cell k d covers below, length-hulls g)

-- the boxes of the five spans are the hulls of the cell
pub hulls_of-five : (g : FreeGoal) (cell : Cell) (a b c d e : Span) (p q r s t : Box) → Covers (whole_cell (five_axes g.first g.last)) (spans_of cell)
    → p ≡ hull_of (fixes_in g.hulls (ends (get_or cell.spans 0 a))) → q ≡ hull_of (fixes_in g.hulls (ends (get_or cell.spans 1 b))) → r ≡ hull_of (fixes_in g.hulls (ends (get_or cell.spans 2 c)))
    → s ≡ hull_of (fixes_in g.hulls (ends (get_or cell.spans 3 d))) → t ≡ hull_of (fixes_in g.hulls (ends (get_or cell.spans 4 e)))
    → p ∷ q ∷ r ∷ s ∷ t ∷ [] ≡ hulls_of g.fixes.items (five_axes g.first g.last) (spans_of cell)
hulls_of-five g cell a b c d e p q r s t covers p_is q_is r_is s_is t_is =
    let over : (span : Span) (box : Box) → box ≡ hull_of (fixes_in g.hulls (ends span)) → box ≡ hull_of (fixes_in (fixes_at g.fixes.items (numbers_between g.first g.last)) (ends span)) =
    λ span box is. is ∙ ap (λ (fixes : List Fix). hull_of (fixes_in fixes (ends span))) g.hulled in
    let boxes : p ∷ q ∷ r ∷ s ∷ t ∷ [] ≡ hulls_of g.fixes.items (five_axes g.first g.last)
    (ends (get_or cell.spans 0 a) ∷ ends (get_or cell.spans 1 b) ∷ ends (get_or cell.spans 2 c) ∷ ends (get_or cell.spans 3 d) ∷ ends (get_or cell.spans 4 e) ∷ []) =
    λ i. over (get_or cell.spans 0 a) p p_is i ∷ over (get_or cell.spans 1 b) q q_is i ∷ over (get_or cell.spans 2 c) r r_is i ∷ over (get_or cell.spans 3 d) s s_is i ∷ over
    (get_or cell.spans 4 e) t t_is i ∷ [] in
    boxes ∙ sym (ap (hulls_of g.fixes.items (five_axes g.first g.last)) (five-spans g.first g.last cell a b c d e covers))
