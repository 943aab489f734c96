-- Each goal has a certificate: its single tuples will do.
use Rattle.std.proofs.Common.{◌≡◌, sym, ap, refl, subst, ℕ, zero, suc, ◌<◌, ◌≤◌, ◌⊎◌, inl, inr, List, [], ◌∷◌, length, get_or, map, Option, Some, None, arith}
use Rattle.std.specs.Prelude.{All, IsSomeAnd}
use Rattle.std.proofs.lemmas.Bool.{cases_lt, cases_Bool}
use Rattle.std.proofs.lemmas.List.{get_or-map, length-map}
use Rattle.gl_box.specs.declared.closed.Why.{Why}
use Rattle.gl_box.specs.declared.closed.Why.TheVariants.{Disordered, Shut, Bound}
use Rattle.gl_box.specs.Cell.{Covers, point}
use Rattle.gl_box.specs.Frontier.{IsFrontier}
use Rattle.gl_box.proofs.Nodes.{covers_node, member_node, point_holds, spread}
use Rattle.gl_box.proofs.Singles.{AreOrdered, singles_within}
use Rattle.gl_goal.specs.Goal.{Goal, IsGoal, IsLegal, IsOpen, IsTuple, chosen, value, whole_cell}
use Rattle.gl_goal.specs.Certificate.{IsCertificate, IsClaimed, IsClosedFor}
use Rattle.gl_goal.proofs.Order.{covered_tuple, disordered_out, length-whole, whole_covers_point}
use Rattle.gl_goal.specs.Lemmas.Points.{decide_order, point_disordered}
use Rattle.gl_goal.proofs.Optimum.{closed_within}

-- each tuple is legal, or its cell can be closed without a total
pub legal_or_closed : (rule : Goal) (tuple : List ℕ) (total : Option ℕ) → IsGoal rule → IsTuple rule.axes tuple → IsLegal rule tuple ⊎ ((why : Why) × IsClosedFor rule total (point tuple) why)
legal_or_closed rule tuple total goal fits = elim (decide_order (chosen rule.axes tuple)) [
  | inr at ↦ inr (Disordered, point_disordered rule.axes tuple at.0 fits at.1 at.2)
  | inl order ↦ elim (cases_Bool (rule.allows (chosen rule.axes tuple))) [
    | inl allowed ↦ inl (record { is_tuple = fits; in_order = order; allowed = allowed })
    | inr refused ↦ elim (cases_Bool (rule.shut (point tuple))) [
      | inl shut ↦ inr (Shut, shut)
      | inr not_shut ↦
          let covers = whole_covers_point rule.axes tuple fits in
          let open_ : IsOpen rule (point tuple) = record {
            ordered = λ disordered. disordered_out rule.axes (point tuple) tuple goal.rising covers disordered (point_holds tuple) fits order;
            not_shut = λ shut. absurd (cc);
          } in
          let legal = goal.single_legal tuple fits open_ in
          absurd (let yes = legal.allowed in cc)
    ]
  ]
]

-- what was found among some tuples, and that no legal one of them is worth more
pub record IsBestOf (rule : Goal) (tuples : List (List ℕ)) (total : Option ℕ) (fixes : List ℕ) : Type 0 where
  pub claimed : IsClaimed rule total fixes
  pub greatest : (k : ℕ) → k < length tuples → IsLegal rule (get_or tuples k []) → IsSomeAnd total (λ most. value rule (get_or tuples k []) ≤ most)

pub AreTuples : Goal → List (List ℕ) → Type 0
AreTuples rule tuples = (k : ℕ) → k < length tuples → IsTuple rule.axes (get_or tuples k [])

compare : (total : Option ℕ) (value : ℕ) → IsSomeAnd total (λ most. value ≤ most) ⊎ ((old : ℕ) → IsSomeAnd total (λ most. old ≤ most) → old ≤ value)
compare None value = inr (λ old was. absurd was)
compare (Some total) value = elim (cases_lt total value) [
  | inl less ↦ inr (λ old was. omega arith)
  | inr most ↦ inl most
]

pub best_of : (rule : Goal) (tuples : List (List ℕ)) → IsGoal rule → AreTuples rule tuples → (total : Option ℕ) × (fixes : List ℕ) × IsBestOf rule tuples total fixes
unfolding AreTuples
best_of rule [] goal fit = (None, [], record { claimed = refl; greatest = λ k below legal. absurd (omega arith) })
best_of rule (tuple ∷ tuples) goal fit =
    let rest = best_of rule tuples goal (λ k below. fit (suc k) (omega arith)) in
    let total = rest.0 in
    elim (legal_or_closed rule tuple total goal (fit 0 (omega arith))) [
      | inr closed ↦ (
        total,
        rest.1,
        record {
          claimed = rest.2.claimed;
          greatest = elim [
            | zero ↦ λ below this. closed_within rule total (point tuple) closed.0 tuple goal (whole_covers_point rule.axes tuple (fit 0 (omega arith))) closed.1
                (point_holds tuple) this
            | suc k ↦ λ below this. rest.2.greatest k (omega arith) this
          ];
        },
      )
      | inl legal ↦ elim (compare total (value rule tuple)) [
        | inl less ↦ (
          total,
          rest.1,
          record {
            claimed = rest.2.claimed;
            greatest = elim [ zero ↦ λ below this. less | suc k ↦ λ below this. rest.2.greatest k (omega arith) this ];
          },
        )
        | inr more ↦ (
          Some (value rule tuple),
          chosen rule.axes tuple,
          record {
            claimed = (tuple, record { legal = legal; worth = refl }, refl);
            greatest = elim [ zero ↦ λ below this. omega arith | suc k ↦ λ below this. more _ (rest.2.greatest k (omega arith) this) ];
          },
        )
      ]
    ]

bound_closed : (rule : Goal) (tuple : List ℕ) (total : Option ℕ) → rule.bound (point tuple) ≡ value rule tuple → IsSomeAnd total (λ most. value rule tuple ≤ most)
    → IsSomeAnd total (λ most. rule.bound (point tuple) ≤ most)
bound_closed rule tuple None same most = most
bound_closed rule tuple (Some total) same most = omega arith

-- the cells of a frontier of single tuples are those of tuples
all_tuples : (rule : Goal) (tuples : List (List ℕ)) → IsGoal rule → IsFrontier (whole_cell rule.axes) (map point tuples) → AreTuples rule tuples
unfolding AreTuples
all_tuples rule tuples goal frontier k below =
    let cell = whole_cell rule.axes in
    let inside : k < length (map point tuples) = omega (arith, below, length-map tuples point) in
    let covers = covers_node cell (get_or (map point tuples) k []) (member_node cell (map point tuples) k frontier inside) in
    covered_tuple rule.axes (get_or tuples k []) goal.some_fix (subst (Covers cell) (get_or-map point tuples k [] [] below) covers)

-- single tuples as boxes, each closed for a total that none of them exceeds
pub boxes_of : (rule : Goal) (tuples : List (List ℕ)) (total : Option ℕ) → IsGoal rule → AreTuples rule tuples
    → ((k : ℕ) → k < length tuples → IsLegal rule (get_or tuples k []) → IsSomeAnd total (λ most. value rule (get_or tuples k []) ≤ most))
    → (boxes : List (List (ℕ × ℕ) × Why)) × (map (λ box. box.0) boxes ≡ map point tuples) × All (λ box. IsClosedFor rule total box.0 box.1) boxes
unfolding AreTuples
boxes_of rule [] total goal fit within = ([], refl, λ k d below. absurd (omega arith))
boxes_of rule (tuple ∷ tuples) total goal fit within =
    let rest = boxes_of rule tuples total goal (λ k below. fit (suc k) (omega arith)) (λ k below. within (suc k) (omega arith)) in
    let closed : (why : Why) × IsClosedFor rule total (point tuple) why =
    elim (legal_or_closed rule tuple total goal (fit 0 (omega arith))) [
      | inl legal ↦ (Bound, bound_closed rule tuple total (goal.single_bound tuple legal) (within 0 (omega arith) legal))
      | inr closed ↦ closed
    ] in (
      (point tuple, closed.0) ∷ rest.0,
      ap (λ (cells : List (List (ℕ × ℕ))). point tuple ∷ cells) rest.1,
      elim [ zero ↦ λ d below. closed.1 | suc k ↦ λ d below. rest.2 k d (omega arith) ],
    )

whole_ordered : (axes : List (List ℕ)) → AreOrdered (whole_cell axes)
unfolding AreOrdered
whole_ordered [] = tt
whole_ordered (axis ∷ axes) = (omega arith, whole_ordered axes)

-- each goal has a certificate
pub some_certificate : (rule : Goal) → IsGoal rule → (total : Option ℕ) × (fixes : List ℕ) × (boxes : List (List (ℕ × ℕ) × Why)) × IsCertificate rule total fixes boxes
some_certificate rule goal =
    let cell = whole_cell rule.axes in
    let singles = singles_within (spread cell) cell (omega (arith, length-whole rule.axes, goal.some_axis)) (whole_ordered rule.axes) (omega arith) in
    let tuples = singles.0 in
    let fit : AreTuples rule tuples = all_tuples rule tuples goal singles.1 in
    let best = best_of rule tuples goal fit in
    let boxes = boxes_of rule tuples best.0 goal fit best.2.greatest in (
      best.0,
      best.1,
      boxes.0,
      record {
        claimed = best.2.claimed;
        frontier = subst (IsFrontier cell) (sym boxes.1) singles.1;
        closed = boxes.2;
      },
    )
