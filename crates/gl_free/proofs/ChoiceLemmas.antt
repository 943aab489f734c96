-- The tuples of a free goal, as choices of five places.
use Rattle.std.proofs.Common.{◌≡◌, ◌∙◌, ap, sym, subst, ℕ, suc, true, false, ⊎_elim, ◌+◌, ◌-◌, ◌*◌, ◌<◌, ◌≤◌, ◌^◌, List, [], ◌∷◌, length, get_or, Some, slice_get, ℤ, ◌-ℤ◌, ◌≤ℤ◌, ◌<ℤ◌, arith}
use Rattle.std.specs.Prelude.{IsTrue, int_le, unsigned_abs}
use Rattle.std.specs.List.{cons_option}
use Rattle.std.proofs.lemmas.Bool.{cases_Bool, cases_lt}
use Rattle.std.proofs.lemmas.Int.{ints}
use Rattle.std.proofs.lemmas.Option.{get_or_from_slice_get}
use Rattle.gl_box.specs.Tuple.{places_of}
use Rattle.gl_goal.specs.declared.best.Best.{Best}
use Rattle.gl_igc.specs.declared.fix.Fix.{Fix}
use Rattle.gl_sphere.specs.declared.place.Vec3.{Vec3}
use Rattle.gl_sphere.specs.Distance.{squared_chord, squared_gap, written_distance}
use Rattle.gl_goal.specs.declared.free.FreeGoal.{FreeGoal}
use Rattle.gl_goal.specs.Chain.{fixes_at, legs, points_of}
use Rattle.gl_goal.specs.Free.{five_axes, fixes_between, free_goal, numbers_between}
use Rattle.gl_goal.specs.FreeGoal.{rule_of}
use Rattle.gl_goal.specs.Goal.{IsInTimeOrder, IsLegal, IsOptimum, IsTuple, chosen, value}
use Rattle.gl_goal.specs.Lemmas.Chain.{named, named_at}
use Rattle.gl_goal.specs.Lemmas.Free.{free_goal-is_goal, get_or-numbers_from, length-numbers_between, numbers_between-named}
use Rattle.gl_goal.proofs.Fives.{five_places}
use Rattle.gl_goal.proofs.FreeLosses.{legal-by_loss, stay_legal}
use Rattle.gl_free.specs.Code.Arms.{arm_length}
use Rattle.gl_free.specs.Code.Choices.{AreInOrder}
use Rattle.gl_free.specs.Code.Places.{altitude_at, leg}
use Rattle.gl_free.specs.Code.Ranges.{IsBetterChoice}
use Rattle.gl_free.specs.Code.Search.{IsValid}
use Rattle.gl_free.proofs.PlaceLemmas.{altitude-is, chord-is}
use Rattle.gl_goal.proofs.FreeHulls.{length-hulls}

-- the fix at a place, in the goal's list and in its hulls
fix-at : (g : FreeGoal) (place : ℕ) → place < length g.hulls → (fix : Fix) × (slice_get g.fixes.items (g.first + place) ≡ Some fix) × (slice_get g.hulls place ≡ Some fix)
fix-at g place below =
    let all = numbers_between-named g.fixes.items g.first g.last g.in_order g.within in
    let inside : place < length (numbers_between g.first g.last) = omega (arith, length-hulls g, length-numbers_between g.first g.last) in
    let fix = named_at g.fixes.items (numbers_between g.first g.last) place all inside in
    let number = get_or-numbers_from g.first (suc (g.last - g.first)) place 0 (omega (arith, length-hulls g)) in
    let other = named g.hulls place below in
    let same : other.0 ≡ fix.0 = sym (get_or_from_slice_get g.hulls place other.0 fix.0 other.1) ∙ ap (λ (list : List Fix). get_or list place fix.0) g.hulled ∙ fix.2 in
    (fix.0, ap (λ (n : ℕ). slice_get g.fixes.items n) (sym number) ∙ fix.1, other.1 ∙ ap Some same)

-- five places are a tuple
pub within-tuple : (g : FreeGoal) (a b c d e : ℕ) → a < length g.hulls → b < length g.hulls → c < length g.hulls → d < length g.hulls → e < length g.hulls
    → IsTuple (rule_of g).axes (a ∷ b ∷ c ∷ d ∷ e ∷ [])
unfolding free_goal
within-tuple g a b c d e ha hb hc hd he =
    let size : length (numbers_between g.first g.last) ≡ length g.hulls = omega (arith, length-hulls g, length-numbers_between g.first g.last) in
    (omega arith, (omega arith, (omega arith, (omega arith, (omega arith, tt)))))

-- and so are five places in time order
pub order-tuple : (g : FreeGoal) (a b c d e : ℕ) → AreInOrder (length g.hulls) a b c d e → IsTuple (rule_of g).axes (a ∷ b ∷ c ∷ d ∷ e ∷ [])
order-tuple g a b c d e order =
    within-tuple g a b c d e
    (omega (arith, order.second_later, order.third_later, order.fourth_later, order.last_later, order.within))
    (omega (arith, order.third_later, order.fourth_later, order.last_later, order.within))
    (omega (arith, order.fourth_later, order.last_later, order.within))
    (omega (arith, order.last_later, order.within))
    order.within

-- the distance of two places that is the leg between them
leg-is : (g : FreeGoal) (i j : ℕ) (f h : Fix) → slice_get g.hulls i ≡ Some f → slice_get g.hulls j ≡ Some h → written_distance (squared_chord f.at h.at) ≡ leg g.hulls i j
unfolding leg
leg-is g i j f h fi hj = ap written_distance (sym (chord-is g.hulls i j f h fi hj))

four_legs : (a b c d p q r s : ℕ) → a ≡ p → b ≡ q → c ≡ r → d ≡ s → a + (b + (c + (d + 0))) ≡ p + q + (r + s)
four_legs a b c d p q r s ap_is bq cr ds = omega arith

-- what a tuple is worth
pub value-legs : (g : FreeGoal) (tuple : List ℕ) → IsTuple (rule_of g).axes tuple
    → value (rule_of g) tuple ≡ leg g.hulls (get_or tuple 0 0) (get_or tuple 1 0) + leg g.hulls (get_or tuple 1 0) (get_or tuple 2 0)
    + (leg g.hulls (get_or tuple 2 0) (get_or tuple 3 0) + leg g.hulls (get_or tuple 3 0) (get_or tuple 4 0))
unfolding free_goal
value-legs g tuple fits =
    let five = five_places g.first g.last tuple g.in_order fits in
    let at : (k : ℕ) → k < 5 → (fix : Fix) × (slice_get g.fixes.items (g.first + get_or tuple k 0) ≡ Some fix) × (slice_get g.hulls (get_or tuple k 0) ≡ Some fix) =
    λ k below. fix-at g (get_or tuple k 0) (omega (arith, five.within k below, length-hulls g)) in
    let a = at 0 (omega arith) in
    let b = at 1 (omega arith) in
    let c = at 2 (omega arith) in
    let d = at 3 (omega arith) in
    let e = at 4 (omega arith) in
    let fixes : fixes_at g.fixes.items (chosen (five_axes g.first g.last) tuple) ≡ a.0 ∷ b.0 ∷ c.0 ∷ d.0 ∷ e.0 ∷ [] =
    ap (fixes_at g.fixes.items) five.chosen ∙ (λ i. cons_option (a.1 i) (cons_option (b.1 i) (cons_option (c.1 i) (cons_option (d.1 i) (cons_option (e.1 i) []))))) in
    ap (λ (list : List Fix). legs (points_of list)) fixes
    ∙ four_legs _ _ _ _ _ _ _ _ (leg-is g _ _ a.0 b.0 a.2 b.2) (leg-is g _ _ b.0 c.0 b.2 c.2) (leg-is g _ _ c.0 d.0 c.2 d.2) (leg-is g _ _ d.0 e.0 d.2 e.2)

-- no tuple is worth as much as 2 ^ 63
pub value-limited : (g : FreeGoal) (tuple : List ℕ) → IsTuple (rule_of g).axes tuple → value (rule_of g) tuple < 2 ^ 63
value-limited g tuple fits = (free_goal-is_goal g.fixes.items g.first g.last g.loss g.in_order g.within).limited tuple fits

-- the leg between two places is the same both ways
squared_gap-turned : (a b : ℤ) → squared_gap a b ≡ squared_gap b a
unfolding squared_gap
squared_gap-turned a b =
    let same : unsigned_abs (a -ℤ b) ≡ unsigned_abs (b -ℤ a) = omega (arith, ints) in
    ap (λ (n : ℕ). n * n) same

squared_chord-turned : (a b : Vec3) → squared_chord a b ≡ squared_chord b a
unfolding squared_chord
squared_chord-turned a b =
    let x = squared_gap-turned a.x b.x in
    let y = squared_gap-turned a.y b.y in
    let z = squared_gap-turned a.z b.z in
    cc

pub leg-turned : (fixes : List Fix) (i j : ℕ) → i < length fixes → j < length fixes → leg fixes i j ≡ leg fixes j i
unfolding leg
leg-turned fixes i j below under =
    let f = named fixes i below in
    let h = named fixes j under in
    ap written_distance (chord-is fixes i j f.0 h.0 f.1 h.1 ∙ squared_chord-turned f.0.at h.0.at ∙ sym (chord-is fixes j i h.0 f.0 h.1 f.1))

past-limit : (lost limit : ℤ) → int_le lost limit ≡ false → limit <ℤ lost
past-limit lost limit past = grind (arith, ints)

within-limit : (lost limit : ℤ) → IsTrue (int_le lost limit) → lost ≤ℤ limit
within-limit lost limit within = grind (arith, ints)

-- five places in time order that aren't a legal tuple lose too much
pub illegal-low : (g : FreeGoal) (a b c d e : ℕ) → AreInOrder (length g.hulls) a b c d e → (IsLegal (rule_of g) (a ∷ b ∷ c ∷ d ∷ e ∷ []) → ⊥)
    → g.loss <ℤ (altitude_at g.hulls a -ℤ altitude_at g.hulls e)
unfolding free_goal
illegal-low g a b c d e order illegal =
    let fits = order-tuple g a b c d e order in
    let five = five_places g.first g.last (a ∷ b ∷ c ∷ d ∷ e ∷ []) g.in_order fits in
    let first = fix-at g a (omega (arith, order.second_later, order.third_later, order.fourth_later, order.last_later, order.within)) in
    let last = fix-at g e order.within in
    let numbers = (g.first + a) ∷ (g.first + b) ∷ (g.first + c) ∷ (g.first + d) ∷ (g.first + e) ∷ [] in
    let in_order : IsInTimeOrder numbers = (omega (arith, order.second_later), (omega (arith, order.third_later), (omega (arith, order.fourth_later), (omega (arith, order.last_later), tt)))) in
    let by_loss = legal-by_loss g (a ∷ b ∷ c ∷ d ∷ e ∷ []) numbers first.0 last.0 fits (sym five.chosen) in_order first.1 last.1 in
    let lost : g.loss <ℤ (first.0.alt -ℤ last.0.alt) = ⊎_elim
    (λ (within : int_le (first.0.alt -ℤ last.0.alt) g.loss ≡ true). absurd (illegal (by_loss.0 within)))
    (λ (past : int_le (first.0.alt -ℤ last.0.alt) g.loss ≡ false). past-limit (first.0.alt -ℤ last.0.alt) g.loss past)
    (cases_Bool (int_le (first.0.alt -ℤ last.0.alt) g.loss)) in
    subst (λ (z : ℤ). g.loss <ℤ z) (λ i. sym (altitude-is g.hulls a first.0 first.2) i -ℤ sym (altitude-is g.hulls e last.0 last.2) i) lost

-- five places in time order are worth the two arms from the third
pub chosen-worth : (g : FreeGoal) (a b c d e : ℕ) → AreInOrder (length g.hulls) a b c d e → value (rule_of g) (a ∷ b ∷ c ∷ d ∷ e ∷ []) ≡ arm_length g.hulls c b a + arm_length g.hulls c d e
chosen-worth g a b c d e order =
    omega (
      arith,
      value-legs g (a ∷ b ∷ c ∷ d ∷ e ∷ []) (order-tuple g a b c d e order),
      leg-turned g.hulls c d (omega (arith, order.fourth_later, order.last_later, order.within)) (omega (arith, order.last_later, order.within)),
      leg-turned g.hulls d e (omega (arith, order.last_later, order.within)) order.within,
    )

-- staying at the first fix is legal
pub stay-valid : (g : FreeGoal) (best : Best) → places_of best.tuple ≡ 0 ∷ 0 ∷ 0 ∷ 0 ∷ 0 ∷ [] → best.total ≡ value (rule_of g) (places_of best.tuple) → IsValid (rule_of g) best
stay-valid g best is worth =
    let legal = stay_legal g.fixes.items g.first g.last g.loss (omega (arith, g.in_order, g.within)) g.loss_from_zero in
    let here = subst (IsLegal (rule_of g)) (sym is) legal in
    record {
      reached = record { legal = here; worth = sym worth };
      limited = omega (arith, worth, value-limited g (places_of best.tuple) here.is_tuple);
    }

-- a legal tuple that is worth more than what was found is a better choice
pub legal-better : (g : FreeGoal) (found : ℕ) (tuple : List ℕ) → IsLegal (rule_of g) tuple → found < value (rule_of g) tuple → IsBetterChoice g.hulls g.loss found
unfolding free_goal
legal-better g found tuple legal more =
    let five = five_places g.first g.last tuple g.in_order legal.is_tuple in
    let a = get_or tuple 0 0 in
    let b = get_or tuple 1 0 in
    let c = get_or tuple 2 0 in
    let d = get_or tuple 3 0 in
    let e = get_or tuple 4 0 in
    let count = length-hulls g in
    let in_order : IsInTimeOrder ((g.first + a) ∷ (g.first + b) ∷ (g.first + c) ∷ (g.first + d) ∷ (g.first + e) ∷ []) = subst IsInTimeOrder five.chosen legal.in_order in
    let order : AreInOrder (length g.hulls) a b c d e = record {
      second_later = omega (arith, in_order.0);
      third_later = omega (arith, in_order.1.0);
      fourth_later = omega (arith, in_order.1.1.0);
      last_later = omega (arith, in_order.1.1.1.0);
      within = omega (arith, five.within 4 (omega arith), count);
    } in
    let first = fix-at g a (omega (arith, five.within 0 (omega arith), count)) in
    let last = fix-at g e (omega (arith, five.within 4 (omega arith), count)) in
    let numbers = (g.first + a) ∷ (g.first + b) ∷ (g.first + c) ∷ (g.first + d) ∷ (g.first + e) ∷ [] in
    let by_loss = legal-by_loss g tuple numbers first.0 last.0 legal.is_tuple (sym five.chosen) in_order first.1 last.1 in
    let lost = within-limit (first.0.alt -ℤ last.0.alt) g.loss (by_loss.1 legal) in
    record {
      first = a;
      second = b;
      third = c;
      fourth = d;
      last = e;
      order = order;
      within = subst (λ (z : ℤ). z ≤ℤ g.loss) (λ i. sym (altitude-is g.hulls a first.0 first.2) i -ℤ sym (altitude-is g.hulls e last.0 last.2) i) lost;
      more = omega (
        arith,
        more,
        value-legs g tuple legal.is_tuple,
        leg-turned g.hulls c d (omega (arith, order.fourth_later, order.last_later, order.within))
            (omega (arith, order.last_later, order.within)),
        leg-turned g.hulls d e (omega (arith, order.last_later, order.within)) order.within,
      );
    }

-- where no better choice is left, what was found is the optimum
pub optimum-found : (g : FreeGoal) (best : Best) → IsValid (rule_of g) best → (IsBetterChoice g.hulls g.loss best.total → ⊥) → IsOptimum (rule_of g) (Some best.total)
optimum-found g best valid none = (
  (places_of best.tuple, valid.reached),
  λ tuple legal. ⊎_elim
      (λ (more : best.total < value (rule_of g) tuple). absurd (none (legal-better g best.total tuple legal more)))
      (λ (less : value (rule_of g) tuple ≤ best.total). less)
      (cases_lt best.total (value (rule_of g) tuple)),
)

-- a goal has some places, and not too many
pub count-bounds : (g : FreeGoal) (hulls : List Fix) → hulls ≡ fixes_between g.fixes.items g.first g.last → (0 < length hulls) × (length hulls ≤ 90000)
count-bounds g hulls is =
    let same = ap length (is ∙ sym g.hulled) in
    (omega (arith, same, length-hulls g), omega (arith, same, length-hulls g, g.within, g.in_order, g.at_most_90000))
