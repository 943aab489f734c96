-- What the first and the last of five fixes, and of five hulls, lose.
use Rattle.std.proofs.Common.{◌≡◌, ◌∙◌, sym, ap, refl, subst, ℕ, zero, suc, ◌+◌, ◌<◌, List, [], ◌∷◌, ◌++◌, length, map, get_or, Option, Some, slice_get, ℤ, pos, ◌-ℤ◌, ◌≤ℤ◌, arith}
use Rattle.std.specs.Prelude.{IsTrue, int_le}
use Rattle.std.specs.List.{cons_option, filter_map}
use Rattle.std.proofs.lemmas.Int.{ints}
use Rattle.gl_box.specs.Cell.{Covers, ends, spans_of}
use Rattle.gl_box.specs.declared.cell.Cell.{Cell}
use Rattle.gl_box.specs.declared.span.Span.{Span}
use Rattle.gl_igc.specs.declared.fix.Fix.{Fix}
use Rattle.gl_goal.specs.Box.{Box, fixes_in, hull_of}
use Rattle.gl_goal.specs.declared.free.FreeGoal.{FreeGoal}
use Rattle.gl_goal.specs.Goal.{IsInTimeOrder, IsLegal, IsTuple, chosen, whole_cell}
use Rattle.gl_goal.specs.Chain.{fixes_at, hulls_of}
use Rattle.gl_goal.specs.Free.{five_axes, free_goal, least_loss, loss_over, numbers_from}
use Rattle.gl_goal.specs.FreeGoal.{rule_of}
use Rattle.gl_goal.specs.Lemmas.Chain.{named}
use Rattle.gl_goal.proofs.Fives.{AreFive, five_places}
use Rattle.gl_goal.proofs.FreeHulls.{hulls_of-five}

fixes_at-five : (fixes : List Fix) (a b c d e : ℕ) (fa fb fc fd fe : Fix) → slice_get fixes a ≡ Some fa → slice_get fixes b ≡ Some fb → slice_get fixes c ≡ Some fc → slice_get fixes d ≡ Some fd
    → slice_get fixes e ≡ Some fe → fixes_at fixes (a ∷ b ∷ c ∷ d ∷ e ∷ []) ≡ fa ∷ fb ∷ fc ∷ fd ∷ fe ∷ []
fixes_at-five fixes a b c d e fa fb fc fd fe ha hb hc hd he =
    λ i. cons_option (ha i) (cons_option (hb i) (cons_option (hc i) (cons_option (hd i) (cons_option (he i) []))))

-- the loss over the fixes of a tuple, by the first and the last of them
loss-five : (g : FreeGoal) (tuple : List ℕ) (fa fe : Fix) → AreFive g.first g.last tuple → slice_get g.fixes.items (g.first + get_or tuple 0 0) ≡ Some fa
    → slice_get g.fixes.items (g.first + get_or tuple 4 0) ≡ Some fe → loss_over (fixes_at g.fixes.items (chosen (five_axes g.first g.last) tuple)) ≡ fa.alt -ℤ fe.alt
loss-five g tuple fa fe five ha he =
    let at : (k : ℕ) → k < 5 → (fix : Fix) × (slice_get g.fixes.items (g.first + get_or tuple k 0) ≡ Some fix) =
    λ k below. named g.fixes.items (g.first + get_or tuple k 0) (omega (arith, five.within k below, g.within)) in
    let b = at 1 (omega arith) in
    let c = at 2 (omega arith) in
    let d = at 3 (omega arith) in
    ap loss_over (ap (fixes_at g.fixes.items) five.chosen ∙ fixes_at-five g.fixes.items _ _ _ _ _ fa b.0 c.0 d.0 fe ha b.1 c.1 d.1 he)

-- a tuple in time order is legal exactly where the last fix isn't too low
pub legal-by_loss : (g : FreeGoal) (tuple numbers : List ℕ) (fa fe : Fix) → IsTuple (five_axes g.first g.last) tuple → numbers ≡ chosen (five_axes g.first g.last) tuple → IsInTimeOrder numbers
    → slice_get g.fixes.items (get_or numbers 0 0) ≡ Some fa → slice_get g.fixes.items (get_or numbers 4 0) ≡ Some fe
    → (IsTrue (int_le (fa.alt -ℤ fe.alt) g.loss) → IsLegal (rule_of g) tuple) × (IsLegal (rule_of g) tuple → IsTrue (int_le (fa.alt -ℤ fe.alt) g.loss))
unfolding free_goal
legal-by_loss g tuple numbers fa fe fits is order ha he =
    let five = five_places g.first g.last tuple g.in_order fits in
    let same = is ∙ five.chosen in
    let first = ap (λ (n : ℕ). slice_get g.fixes.items n) (sym (ap (λ (xs : List ℕ). get_or xs 0 0) same)) ∙ ha in
    let last = ap (λ (n : ℕ). slice_get g.fixes.items n) (sym (ap (λ (xs : List ℕ). get_or xs 4 0) same)) ∙ he in
    let loss = loss-five g tuple fa fe five first last in
    let P : ℤ → Type 0 = λ z. IsTrue (int_le z g.loss) in (
      λ within. record { is_tuple = fits; in_order = subst IsInTimeOrder is order; allowed = subst P (sym loss) within },
      λ legal. subst P loss legal.allowed,
    )

-- what a cell's fixes lose at least, by the hulls of its first and its last span
pub least_loss-five : (g : FreeGoal) (cell : Cell) (a e : Span) (p t : Box) → Covers (whole_cell (five_axes g.first g.last)) (spans_of cell)
    → p ≡ hull_of (fixes_in g.hulls (ends (get_or cell.spans 0 a))) → t ≡ hull_of (fixes_in g.hulls (ends (get_or cell.spans 4 e)))
    → least_loss (hulls_of g.fixes.items (five_axes g.first g.last) (spans_of cell)) ≡ p.alt.0 -ℤ t.alt.1
least_loss-five g cell a e p t covers p_is t_is =
    ap least_loss (sym (hulls_of-five g cell a a a a e p _ _ _ t covers p_is refl refl refl t_is))

pub numbers_from-more : (first count : ℕ) → numbers_from first (suc count) ≡ numbers_from first count ++ (first + count) ∷ []
numbers_from-more first zero = ap (λ (n : ℕ). n ∷ []) (omega arith)
numbers_from-more first (suc count) =
    let next : suc first + count ≡ first + suc count = omega arith in
    ap (λ (ns : List ℕ). first ∷ ns) (numbers_from-more (suc first) count ∙ ap (λ (n : ℕ). numbers_from (suc first) count ++ n ∷ []) next)

-- what is found for each of some keys is what those give that are found
pub filter_map-found : {X Y : Type 0} (h : X → Option Y) (keys : List X) (found : List Y) → map Some found ≡ map h keys → found ≡ filter_map h keys
filter_map-found h [] [] same = refl
filter_map-found h [] (y ∷ found) same = absurd (cc)
filter_map-found h (x ∷ keys) [] same = absurd (cc)
filter_map-found h (x ∷ keys) (y ∷ found) same =
    let here : Some y ≡ h x = cc in
    let rest : map Some found ≡ map h keys = cc in
    ap (λ ys. y ∷ ys) (filter_map-found h keys found rest) ∙ ap (λ o. cons_option o (filter_map h keys)) here

no_loss : (z loss : ℤ) → pos 0 ≤ℤ loss → IsTrue (int_le (z -ℤ z) loss)
no_loss z loss low = grind (arith, ints)

-- staying at the first fix is legal
pub stay_legal : (fixes : List Fix) (first last : ℕ) (loss : ℤ) → first < length fixes → pos 0 ≤ℤ loss → IsLegal (free_goal fixes first last loss) (0 ∷ 0 ∷ 0 ∷ 0 ∷ 0 ∷ [])
unfolding free_goal
stay_legal fixes first last loss below low =
    let fix = named fixes first below in
    let P : ℤ → Type 0 = λ z. IsTrue (int_le z loss) in
    record {
      is_tuple = (omega arith, (omega arith, (omega arith, (omega arith, (omega arith, tt)))));
      in_order = (omega arith, (omega arith, (omega arith, (omega arith, tt))));
      allowed = subst P (sym (ap loss_over (fixes_at-five fixes first first first first first fix.0 fix.0 fix.0 fix.0 fix.0 fix.1 fix.1 fix.1 fix.1 fix.1))) (no_loss fix.0.alt loss low);
    }
