-- What proves a claim has a text.
use Rattle.std.proofs.Common.{◌≡◌, sym, subst, ℕ, zero, suc, ◌+◌, ◌-◌, ◌/◌, ◌<◌, ◌≤◌, List, [], ◌∷◌, length, map, get_or, Option, None, Some, arith, inl, inr}
use Rattle.std.specs.Prelude.{◌^◌, IsTrue, IfSome, MatchOption, All}
use Rattle.std.specs.List.Sorted.{IsStrictlyIncreasing}
use Rattle.std.proofs.lemmas.List.{get_or-map, get_or_default, length-map}
use Rattle.std.proofs.lemmas.List.Kept.{AllPairs-from_increasing}
use Rattle.gl_box.specs.declared.closed.Why.{Why}
use Rattle.gl_box.specs.Frontier.{IsFrontier, IsNode}
use Rattle.gl_box.specs.Frontier.IsNode.{whole, half}
use Rattle.gl_box.specs.Halves.{AreHalves, IsHalf, span_at}
use Rattle.gl_box.proofs.Held.{covers_at, length-covers}
use Rattle.gl_box.proofs.Nodes.{covers_node, member_node}
use Rattle.gl_box.proofs.Singles.{AreOrdered, ordered-set, ordered_at}
use Rattle.gl_goal.specs.Certificate.{IsClaimed}
use Rattle.gl_goal.specs.Lemmas.Points.{length-chosen}
use Rattle.gl_goal.proofs.Order.{length-whole, span_at-whole}
use Rattle.gl_goal.specs.Goal.{IsGoal, IsTuple, Goal, chosen, whole_cell}
use Rattle.gl_proof.specs.declared.claim.ClaimKind.{ClaimKind}
use Rattle.gl_proof.specs.Claim.{IsStatement, Statement}
use Rattle.gl_proof.specs.Line.{AreFixes, AreSpans, IsSpan}
use Rattle.gl_text.specs.Forms.{is_number}
use Rattle.gl_day.specs.Expected.{Proves}

-- the lists of fixes to choose from name numbers of 32 bits
abbrev pub AreShort : List (List ℕ) → Type 0
AreShort axes = All (λ axis. All (λ fix. fix < 2 ^ 32) axis) axes

-- rising numbers are at least their places
at_least : (axis : List ℕ) → IsStrictlyIncreasing axis → (k : ℕ) → k < length axis → k ≤ get_or axis k 0
at_least axis rising zero below = omega arith
at_least axis rising (suc k) below =
    let before = at_least axis rising k (omega arith) in
    let step = AllPairs-from_increasing axis rising k (suc k) 0 (omega arith) below in
    omega (arith, before, step)

-- the last place in a list of rising numbers below a limit is below it, too
last_place : (limit : ℕ) (axis : List ℕ) → IsStrictlyIncreasing axis → All (λ fix. fix < limit) axis → 0 < length axis → length axis - 1 < limit
last_place limit axis rising small some =
    let last = at_least axis rising (length axis - 1) (omega arith) in
    let below = small (length axis - 1) 0 (omega arith) in
    omega (arith, last, below)

-- the halves of a cell whose spans have places have places
ordered_lower : (cell lower upper : List (ℕ × ℕ)) → AreHalves cell lower upper → AreOrdered cell → AreOrdered lower
ordered_lower cell lower upper halves each =
    let span = span_at cell halves.axis in
    let wide : 0 < span.1 - span.0 = halves.wide in
    subst AreOrdered (sym halves.lower_is) (ordered-set cell halves.axis (span.0, (span.0 + span.1) / 2) each (omega arith))

ordered_upper : (cell lower upper : List (ℕ × ℕ)) → AreHalves cell lower upper → AreOrdered cell → AreOrdered upper
ordered_upper cell lower upper halves each =
    let span = span_at cell halves.axis in
    let wide : 0 < span.1 - span.0 = halves.wide in
    subst AreOrdered (sym halves.upper_is) (ordered-set cell halves.axis ((span.0 + span.1) / 2 + 1, span.1) each (omega arith))

ordered_half : (cell part : List (ℕ × ℕ)) → IsHalf cell part → AreOrdered cell → AreOrdered part
ordered_half cell part is_half each = elim is_half.either [
  | inl low ↦ subst AreOrdered (sym low) (ordered_lower cell is_half.lower is_half.upper is_half.halves each)
  | inr high ↦ subst AreOrdered (sym high) (ordered_upper cell is_half.lower is_half.upper is_half.halves each)
]

ordered_node : (cell node : List (ℕ × ℕ)) → IsNode cell node → AreOrdered cell → AreOrdered node
ordered_node _ _ (whole cell) each = each
ordered_node _ _ (half cell node part below is_half) each =
    ordered_half node part is_half (ordered_node cell node below each)

ordered_whole : (axes : List (List ℕ)) → AreOrdered (whole_cell axes)
unfolding AreOrdered
ordered_whole [] = tt
ordered_whole (axis ∷ axes) = (omega arith, ordered_whole axes)

-- the spans of a node of the whole cell can be written
node_spans : (rule : Goal) (box : List (ℕ × ℕ)) → IsGoal rule → AreShort rule.axes → IsNode (whole_cell rule.axes) box → AreSpans box
node_spans rule box goal short node =
    let covers = covers_node (whole_cell rule.axes) box node in
    let long = length-covers (whole_cell rule.axes) box covers in
    let size = length-whole rule.axes in
    let some = goal.some_axis in
    let ten = goal.ten_axes in
    record {
      some = omega (arith, long, size, some);
      most = omega (arith, long, size, ten);
      each = λ k d below.
          let inside : k < length rule.axes = omega (arith, long, size, below) in
          let within = covers_at (whole_cell rule.axes) box k covers (omega (arith, size, inside)) in
          let end : (span_at (whole_cell rule.axes) k).1 ≡ length (get_or rule.axes k []) - 1 = λ i. (span_at-whole rule.axes k inside i).1 in
          let last = last_place (2 ^ 32) (get_or rule.axes k []) (goal.rising k [] inside) (short k [] inside) (goal.some_fix k [] inside) in
          let high : (span_at box k).1 < 2 ^ 32 = omega (arith, within.1, end, last) in
          let order : (span_at box k).0 ≤ (span_at box k).1 = ordered_at box k (ordered_node (whole_cell rule.axes) box node (ordered_whole rule.axes)) in
          subst IsSpan (sym (get_or_default box k d (0, 0) below)) (order, high);
    }

boxes_spans : (rule : Goal) (boxes : List (List (ℕ × ℕ) × Why)) → IsGoal rule → AreShort rule.axes → IsFrontier (whole_cell rule.axes) (map (λ box. box.0) boxes) → All (λ box. AreSpans box.0) boxes
boxes_spans rule boxes goal short frontier = λ k d below.
    let cells = map (λ (box : List (ℕ × ℕ) × Why). box.0) boxes in
    let inside : k < length cells = omega (arith, below, length-map boxes (λ (box : List (ℕ × ℕ) × Why). box.0)) in
    let is : get_or cells k [] ≡ (get_or boxes k d).0 = get_or-map (λ (box : List (ℕ × ℕ) × Why). box.0) boxes k d [] below in
    subst AreSpans is (node_spans rule (get_or cells k []) goal short (member_node (whole_cell rule.axes) cells k frontier inside))

chosen_short : (axes : List (List ℕ)) (tuple : List ℕ) → IsTuple axes tuple → AreShort axes → (k d : ℕ) → k < length (chosen axes tuple) → get_or (chosen axes tuple) k d < 2 ^ 32
chosen_short [] tuple fits short k d below = absurd (omega arith)
chosen_short (axis ∷ axes) [] fits short k d below = absurd fits
chosen_short (axis ∷ axes) (place ∷ places) fits short zero d below = short 0 [] (omega arith) place 0 fits.0
chosen_short (axis ∷ axes) (place ∷ places) fits short (suc k) d below =
    chosen_short axes places fits.1 (λ j e inside. short (suc j) e (omega arith)) k d (omega arith)

claimed_fixes : (rule : Goal) (total : Option ℕ) (fixes : List ℕ) → IsGoal rule → AreShort rule.axes → IsClaimed rule total fixes → MatchOption total (fixes ≡ []) (λ _. AreFixes fixes)
claimed_fixes rule None fixes goal short claimed = claimed
claimed_fixes rule (Some greatest) fixes goal short (tuple, reached, are) =
    let fits = reached.legal.is_tuple in
    let long = length-chosen rule.axes tuple fits in
    let some = goal.some_axis in
    let ten = goal.ten_axes in
    let named : AreFixes (chosen rule.axes tuple) = record {
      some = omega (arith, long, some);
      most = omega (arith, long, ten);
      each = chosen_short rule.axes tuple fits short;
    } in
    subst AreFixes (sym are) named

claimed_size : (rule : Goal) (total : Option ℕ) (fixes : List ℕ) → IsGoal rule → IsClaimed rule total fixes → IfSome total (λ greatest. greatest < 2 ^ 64)
claimed_size rule None fixes goal claimed = tt
claimed_size rule (Some greatest) fixes goal (tuple, reached, are) =
    let limit = goal.limited tuple reached.legal.is_tuple in
    let worth = reached.worth in
    omega (arith, limit, worth)

-- what proves a claim of a goal over fixes with numbers of 32 bits has a text
pub certificate_statement : (number : List ℕ) (kind : ClaimKind) (rule : Goal) (statement : Statement) → IsTrue (is_number number) → IsGoal rule → AreShort rule.axes
    → Proves (record { number = number; kind = kind; rule = rule }) statement → IsStatement statement
certificate_statement number kind rule statement numbered goal short proves = record {
  number = subst (λ (n : List ℕ). IsTrue (is_number n)) (sym proves.number) numbered;
  total = claimed_size rule statement.total statement.fixes goal proves.certificate.claimed;
  fixes = claimed_fixes rule statement.total statement.fixes goal short proves.certificate.claimed;
  boxes = boxes_spans rule statement.boxes goal short proves.certificate.frontier;
}
