-- What is answered once all cells are closed.
use Rattle.std.proofs.Common.{◌≡◌, sym, ap, refl, subst, ℕ, zero, suc, ◌<◌, ◌≤◌, List, Option, None, Some, add-one, arith}
use Rattle.std.specs.List.Sorted.{IsPermutation}
use Rattle.std.proofs.lemmas.List.Elements.{All-weaker}
use Rattle.std.proofs.lemmas.List.Sorted.{All-permutation}
use Rattle.gl_box.specs.declared.cell.Cell.{Cell}
use Rattle.gl_box.specs.declared.closed.Why.{Why}
use Rattle.gl_box.specs.Cell.{spans_of}
use Rattle.gl_box.specs.Frontier.{IsFrontier}
use Rattle.gl_box.proofs.Parts.{mult-held}
use Rattle.gl_goal.specs.Goal.{Goal, IsGoal, whole_cell}
use Rattle.gl_goal.specs.Certificate.{IsClosedFor}
use Rattle.gl_goal.proofs.Optimum.{certificate_optimum}
use Rattle.gl_goal.specs.declared.best.Best.{Best}
use Rattle.gl_plain.specs.declared.found.Found.{Found}
use Rattle.gl_plain.specs.Answer.{IsAnswer}
use Rattle.gl_plain.specs.Found.{boxes_of}
use Rattle.gl_order.specs.Order.{AreParts, cells_of}
use Rattle.gl_goal.specs.Best.{fixes_of, total_of as found_total}
use Rattle.gl_plain.specs.Search.{IsNeeded}
use Rattle.gl_plain.proofs.Stack.{certificate_made}
use Rattle.gl_goal.proofs.Totals.{none_exactly}
use Rattle.gl_best.specs.declared.word.BestWord.{BestWord}
use Rattle.gl_best.specs.Rule.{sixteen, times}
use Rattle.gl_best.specs.Seats.{HasAll, total_of, view_of}
use Rattle.gl_deal.specs.declared.place.Place.{Place}
use Rattle.gl_pool.specs.declared.tally.Tally.{Tally}
use Rattle.gl_pool.specs.Code.Crew.{WorkedAll}
use Rattle.gl_pool.specs.Code.Many.{ComesToAll}
use Rattle.gl_pool.specs.Code.Tally.{IsTally, word_of}
use Rattle.gl_pool.specs.Kept.{seen_by}
use Rattle.gl_pool.proofs.Hearing.{closed_longer}
use Rattle.gl_pool.proofs.Together.{closed_needed, closed_parts}
use Rattle.gl_order.specs.Runs.{boxes_in_runs}

-- the word for what was found says its total
total_of-word : (best : Option Best) → total_of (word_of best) ≡ found_total best
total_of-word None = refl
total_of-word (Some best) = ap total_of (add-one best.total)

pub parts_to_order : (rule : Goal) (all : Cell) (tally_after : Tally) → spans_of all ≡ whole_cell rule.axes → ComesToAll rule tally_after
    → AreParts (spans_of all) (cells_of (boxes_in_runs tally_after.closed.items))
parts_to_order rule all tally_after is comes = subst (λ (c : List (ℕ × ℕ)). AreParts c (cells_of (boxes_in_runs tally_after.closed.items))) (sym is)
    (closed_parts rule comes.first comes.taken comes.put (boxes_in_runs tally_after.closed.items) comes.strange comes.all)

pub answered : (rule : Goal) (word : BestWord) (all : Cell) (tally_after : Tally) (found : Found) → IsGoal rule → spans_of all ≡ whole_cell rule.axes → IsTally rule word tally_after
    → ComesToAll rule tally_after → (view_of tally_after.seat).seen ≤ (view_of tally_after.seat).raised → found.best ≡ tally_after.best → IsFrontier (spans_of all) (cells_of (boxes_of found))
    → IsPermutation (boxes_in_runs tally_after.closed.items) (boxes_of found) → IsAnswer rule found
answered rule word all tally_after found goal is is_tally comes seen best frontier same =
    let best_found = tally_after.best in
    let closed = boxes_in_runs tally_after.closed.items in
    let heard : (view_of tally_after.seat).seen ≤ word_of best_found = omega (arith, seen, is_tally.raised) in
    let each = All-weaker (λ (b : List (ℕ × ℕ) × Why). IsClosedFor rule (seen_by tally_after.seat) b.0 b.1) (λ (b : List (ℕ × ℕ) × Why). IsClosedFor rule (found_total best_found) b.0 b.1)
    (λ b is_closed. subst (λ (total : Option ℕ). IsClosedFor rule total b.0 b.1) (total_of-word best_found)
    (closed_longer rule (view_of tally_after.seat).seen (word_of best_found) b.0 b.1 heard is_closed)) closed is_tally.closed in
    let certificate = certificate_made rule best_found (boxes_of found) is_tally.sound (subst (λ (c : List (ℕ × ℕ)). IsFrontier c (cells_of (boxes_of found))) is frontier)
    (All-permutation (λ (b : List (ℕ × ℕ) × Why). IsClosedFor rule (found_total best_found) b.0 b.1) closed (boxes_of found) same each) in
    let optimum = certificate_optimum rule (found_total best_found) (fixes_of rule best_found) _ goal certificate in
    let needed = All-permutation (λ (b : List (ℕ × ℕ) × Why). IsNeeded rule b.0) closed (boxes_of found) same
    (closed_needed rule comes.first comes.taken comes.put closed comes.strange comes.all) in
    subst (λ (b : Option Best). IsAnswer rule (record { best = b; closed = found.closed })) (sym best) (record {
      certificate = certificate;
      once = λ tuple held. mult-held (whole_cell rule.axes) (cells_of (boxes_of found)) tuple certificate.frontier held;
      reached = is_tally.sound;
      optimum = optimum;
      none = none_exactly rule best_found optimum;
      needed = needed;
    })

-- each number below 16 stands with the first seat
pub sixteen_there : (number : ℕ) → number < 16 → 0 < times number sixteen
sixteen_there zero below = omega arith
sixteen_there (suc zero) below = omega arith
sixteen_there (suc (suc zero)) below = omega arith
sixteen_there (suc (suc (suc zero))) below = omega arith
sixteen_there (suc (suc (suc (suc zero)))) below = omega arith
sixteen_there (suc (suc (suc (suc (suc zero))))) below = omega arith
sixteen_there (suc (suc (suc (suc (suc (suc zero)))))) below = omega arith
sixteen_there (suc (suc (suc (suc (suc (suc (suc zero))))))) below = omega arith
sixteen_there (suc (suc (suc (suc (suc (suc (suc (suc zero)))))))) below = omega arith
sixteen_there (suc (suc (suc (suc (suc (suc (suc (suc (suc zero))))))))) below = omega arith
sixteen_there (suc (suc (suc (suc (suc (suc (suc (suc (suc (suc zero)))))))))) below = omega arith
sixteen_there (suc (suc (suc (suc (suc (suc (suc (suc (suc (suc (suc zero))))))))))) below = omega arith
sixteen_there (suc (suc (suc (suc (suc (suc (suc (suc (suc (suc (suc (suc zero)))))))))))) below = omega arith
sixteen_there (suc (suc (suc (suc (suc (suc (suc (suc (suc (suc (suc (suc (suc zero))))))))))))) below = omega arith
sixteen_there (suc (suc (suc (suc (suc (suc (suc (suc (suc (suc (suc (suc (suc (suc zero)))))))))))))) below = omega arith
sixteen_there (suc (suc (suc (suc (suc (suc (suc (suc (suc (suc (suc (suc (suc (suc (suc zero))))))))))))))) below = omega arith
sixteen_there (suc (suc (suc (suc (suc (suc (suc (suc (suc (suc (suc (suc (suc (suc (suc (suc number)))))))))))))))) below = absurd (omega arith)

-- the seat has all numbers again
pub has_all : (rule : Goal) (before after : List Place) (first tally tally_after : Tally) → (view_of first.seat).numbers ≡ sixteen → WorkedAll rule before after first tally
    → (view_of tally_after.seat).numbers ≡ (view_of tally.seat).numbers → HasAll tally_after.seat
has_all rule before after first tally tally_after all worked same = λ number below.
    let there = sixteen_there number below in
    omega (arith, there, ap (times number) all, worked.numbers number, ap (times number) same)
