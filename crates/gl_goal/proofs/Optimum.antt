-- The total of a certificate is the optimum.
use Rattle.std.proofs.Common.{◌≡◌, subst, ℕ, ◌<◌, ◌≤◌, List, [], length, get_or, map, Option, Some, None, arith}
use Rattle.std.specs.Prelude.{All, IsSomeAnd}
use Rattle.std.proofs.lemmas.List.{get_or-map, length-map}
use Rattle.gl_box.specs.declared.closed.Why.{Why}
use Rattle.gl_box.specs.declared.closed.Why.TheVariants.{Disordered, Shut, Bound}
use Rattle.gl_box.specs.Cell.{Covers, Holds}
use Rattle.gl_box.specs.Frontier.{IsFrontier}
use Rattle.gl_box.proofs.Nodes.{covers_node, member_node, some_holds}
use Rattle.gl_goal.specs.Goal.{Goal, IsDisordered, IsGoal, IsLegal, IsOptimum, value, whole_cell}
use Rattle.gl_goal.specs.Certificate.{IsCertificate, IsClaimed, IsClosedFor}
use Rattle.gl_goal.proofs.Order.{disordered_out, tuple_held}

-- a disordered cell holds no legal tuple
pub disordered_none : (rule : Goal) (cell : List (ℕ × ℕ)) (tuple : List ℕ) → IsGoal rule → Covers (whole_cell rule.axes) cell → IsDisordered rule.axes cell → Holds cell tuple → IsLegal rule tuple → ⊥
disordered_none rule cell tuple goal covers disordered held legal = disordered_out rule.axes cell tuple goal.rising covers disordered held legal.is_tuple legal.in_order

-- what a closed cell holds is worth no more than the total
pub closed_within : (rule : Goal) (total : Option ℕ) (cell : List (ℕ × ℕ)) (why : Why) (tuple : List ℕ) → IsGoal rule → Covers (whole_cell rule.axes) cell → IsClosedFor rule total cell why
    → Holds cell tuple → IsLegal rule tuple → IsSomeAnd total (λ greatest. value rule tuple ≤ greatest)
closed_within rule total cell Disordered tuple goal covers closed held legal = absurd (disordered_none rule cell tuple goal covers closed held legal)
closed_within rule total cell Shut tuple goal covers closed held legal = absurd (goal.shut_out cell tuple covers closed held legal)
closed_within rule None cell Bound tuple goal covers closed held legal = absurd closed
closed_within rule (Some greatest) cell Bound tuple goal covers closed held legal = omega (arith, goal.bounded cell tuple covers held legal, closed)

-- boxes of a certificate leave out no legal tuple
pub certified_within : (rule : Goal) (total : Option ℕ) (boxes : List (List (ℕ × ℕ) × Why)) (tuple : List ℕ) → IsGoal rule → IsFrontier (whole_cell rule.axes) (map (λ box. box.0) boxes)
    → All (λ box. IsClosedFor rule total box.0 box.1) boxes → IsLegal rule tuple → IsSomeAnd total (λ greatest. value rule tuple ≤ greatest)
certified_within rule total boxes tuple goal frontier closed legal =
    let cells = map (λ (box : List (ℕ × ℕ) × Why). box.0) boxes in
    let at = some_holds (whole_cell rule.axes) cells tuple frontier (tuple_held rule.axes tuple legal.is_tuple) in
    let some : List (ℕ × ℕ) × Why = ([], Bound) in
    let below : at.0 < length boxes = omega (arith, at.1, length-map boxes (λ (box : List (ℕ × ℕ) × Why). box.0)) in
    let box = get_or boxes at.0 some in
    let is : get_or cells at.0 [] ≡ box.0 = get_or-map (λ (box : List (ℕ × ℕ) × Why). box.0) boxes at.0 some [] below in
    let covers = subst (Covers (whole_cell rule.axes)) is (covers_node (whole_cell rule.axes) (get_or cells at.0 []) (member_node (whole_cell rule.axes) cells at.0 frontier at.1)) in
    let held = subst (λ (cell : List (ℕ × ℕ)). Holds cell tuple) is at.2 in
    closed_within rule total box.0 box.1 tuple goal covers (closed at.0 some below) held legal

pub optimum_from : (rule : Goal) (total : Option ℕ) (fixes : List ℕ) → IsClaimed rule total fixes → ((tuple : List ℕ) → IsLegal rule tuple → IsSomeAnd total (λ greatest. value rule tuple ≤ greatest))
    → IsOptimum rule total
optimum_from rule None fixes claimed within = λ tuple legal. absurd (within tuple legal)
optimum_from rule (Some greatest) fixes claimed within = ((claimed.0, claimed.1), within)

-- the total of a certificate is the optimum
pub certificate_optimum : (rule : Goal) (total : Option ℕ) (fixes : List ℕ) (boxes : List (List (ℕ × ℕ) × Why)) → IsGoal rule → IsCertificate rule total fixes boxes → IsOptimum rule total
certificate_optimum rule total fixes boxes goal certificate =
    optimum_from rule total fixes certificate.claimed (λ tuple legal. certified_within rule total boxes tuple goal certificate.frontier certificate.closed legal)
