-- The places are worked at in turn, once their passes are settled.
use Rattle.std.proofs.Common.{◌≡◌, ◌∙◌, sym, ap, refl, subst, ℕ, ◌+◌, ◌<◌, ◌≤◌, List, [], ◌++◌, length, get_or, drop, slice_set, None, arith}
use Rattle.std.specs.List.{sum_by}
use Rattle.std.proofs.lemmas.List.{drop-drop, drop-set-lt, drop_all, get_or-drop, length-map, length-set, nil_from_length}
use Rattle.std.proofs.lemmas.List.Sums.{sum_by-append, sum_by-cons, sum_by-drop_more}
use Rattle.gl_box.specs.declared.cell.Cell.{Cell}
use Rattle.gl_box.specs.declared.closed.Why.{Why}
use Rattle.gl_box.specs.Cell.{spans_of}
use Rattle.gl_goal.specs.Goal.{Goal, whole_cell}
use Rattle.gl_best.specs.Seats.{view_of}
use Rattle.gl_deal.specs.declared.place.Place.{Place}
use Rattle.gl_deal.specs.Rule.{HasSettledAll}
use Rattle.gl_deal.specs.Tokens.{hand_view}
use Rattle.gl_pool.specs.declared.tally.Tally.{Tally}
use Rattle.gl_pool.specs.Code.Crew.{got_weight, put_weight}
use Rattle.gl_pool.specs.Code.Many.{ComesToAll, IsLeft}
use Rattle.gl_pool.specs.Parts.{ArePartedInto}
use Rattle.gl_pool.specs.Taken.{duty_of, ends_of, stolen_weight, taken_weight}
use Rattle.gl_pool.specs.Code.Tally.{Turns}
use Rattle.gl_pool.proofs.Together.{worked_both}
use Rattle.gl_order.specs.Runs.{boxes_in_runs}

-- the first places are worked at
pub record Finishing (rule : Goal) (before places : List Place) (tally tally_now : Tally) (count : ℕ) : Type 0 where
  pub left : IsLeft rule before tally
  pub first : Cell
  pub taken : List Cell
  pub put : List Cell
  pub strange : List Cell
  pub is_whole : spans_of first ≡ whole_cell rule.axes
  pub parts : ArePartedInto rule None taken (boxes_in_runs tally_now.closed.items) put strange
  pub balanced : (weight : Cell → ℕ) → sum_by weight taken + put_weight weight (drop count places) ≡ weight first + sum_by weight put + got_weight weight (drop count places)
  pub same : drop count places ≡ drop count before
  pub long : length places ≡ length before
  pub numbers : (view_of tally_now.seat).numbers ≡ (view_of tally.seat).numbers

pub finishing_start : (rule : Goal) (places : List Place) (tally : Tally) → IsLeft rule places tally → Finishing rule places places tally tally 0
finishing_start rule places tally left = record {
  left = left;
  first = left.first;
  taken = left.taken;
  put = left.put;
  strange = left.strange;
  is_whole = left.is_whole;
  parts = left.parts;
  balanced = λ weight. omega (arith, left.puts weight, left.got weight);
  same = refl;
  long = refl;
  numbers = refl;
}

-- without passes, what a hand put weighs what it took and gathered
turn_balanced : (rule : Goal) (place after : Place) (tally tally_after : Tally) (turn : Turns rule place after tally tally_after) (weight : Cell → ℕ) → ends_of place ≡ []
    → ((w : Cell → ℕ) → sum_by w (hand_view after.hand).put ≡ sum_by w (hand_view after.hand).taken + sum_by w (hand_view after.hand).gathered)
    → sum_by weight (hand_view place.hand).put + sum_by weight turn.put ≡ taken_weight weight place + sum_by weight (hand_view place.hand).gathered + sum_by weight turn.taken
turn_balanced rule place after tally tally_after turn weight none whole =
    let moves = turn.moves in
    let few : length (ends_of after) ≡ 0 = sym (length-map (ends_of after) duty_of) ∙ ap length moves.passes ∙ length-map (ends_of place) duty_of ∙ ap length none in
    let empty : ends_of after ≡ [] = nil_from_length (ends_of after) few in
    let stolen : stolen_weight weight (ends_of after) ≡ 0 = ap (stolen_weight weight) empty in
    let puts : sum_by weight (hand_view after.hand).put ≡ sum_by weight (hand_view place.hand).put + sum_by weight turn.put = ap (sum_by weight) moves.puts
    ∙ sum_by-append weight (hand_view place.hand).put turn.put in
    let gathered : sum_by weight (hand_view after.hand).gathered ≡ sum_by weight (hand_view place.hand).gathered = ap (sum_by weight) moves.gathered in
    omega (arith, whole weight, moves.took weight)

plus_nothing : (k : ℕ) → k + 0 ≡ k
plus_nothing k = omega arith

abbrev HasSettled : Place → Type 0
HasSettled place = HasSettledAll (hand_view place.hand)

-- what is left behind an element, where two lists go on alike from it
drop_same : (xs ys : List Place) (count : ℕ) → count < length xs → length xs ≡ length ys → drop count xs ≡ drop count ys → drop (count + 1) xs ≡ drop (count + 1) ys
drop_same xs ys count inside long same = sym (drop-drop 1 count xs) ∙ ap (λ (l : List Place). drop 1 l) same ∙ drop-drop 1 count ys

pub finishing_more : (rule : Goal) (before places : List Place) (tally tally_now tally_after : Tally) (count : ℕ) (place after : Place) → count < length places
    → ((e : Place) → get_or places count e ≡ place) → Turns rule place after tally_now tally_after → Finishing rule before places tally tally_now count
    → Finishing rule before (slice_set places count after) tally tally_after (count + 1)
finishing_more rule before places tally tally_now tally_after count place after inside is turn so_far =
    let there : (e : Place) → get_or before count e ≡ place = λ e.
    sym (get_or-drop count before 0 e ∙ ap (λ (k : ℕ). get_or before k e) (plus_nothing count)) ∙ ap (λ (l : List Place). get_or l 0 e) (sym so_far.same)
    ∙ (get_or-drop count places 0 e ∙ ap (λ (k : ℕ). get_or places k e) (plus_nothing count)) ∙ is e in
    let none : ends_of place ≡ [] = ap ends_of (sym (there place)) ∙ so_far.left.none_left count place (omega (arith, so_far.long)) in
    let settled = so_far.left.settled count place (omega (arith, so_far.long)) in
    let whole = turn.all_put (subst (λ (p : Place). HasSettled p) (there place) settled) in
    let rest : drop (count + 1) (slice_set places count after) ≡ drop (count + 1) places = drop-set-lt (count + 1) places count after (omega arith) in
    record {
      left = so_far.left;
      first = so_far.first;
      taken = so_far.taken ++ turn.taken;
      put = so_far.put ++ turn.put;
      strange = so_far.strange ++ turn.strange;
      is_whole = so_far.is_whole;
      parts = subst (λ (l : List (List (ℕ × ℕ) × Why)). ArePartedInto rule None (so_far.taken ++ turn.taken) l (so_far.put ++ turn.put) (so_far.strange ++ turn.strange)) (sym turn.joined)
          (worked_both rule so_far.taken so_far.put (boxes_in_runs tally_now.closed.items) so_far.strange turn.taken turn.put turn.closed turn.strange so_far.parts turn.parts);
      balanced = λ weight.
          let put_of : Place → ℕ = λ p. sum_by weight (hand_view p.hand).put in
          let got_of : Place → ℕ = λ p. taken_weight weight p + sum_by weight (hand_view p.hand).gathered in
          let puts : put_weight weight (drop count places) ≡ put_of place + put_weight weight (drop (count + 1) places) = sum_by-drop_more put_of places count place inside
          ∙ ap (λ (p : Place). put_of p + put_weight weight (drop (count + 1) places)) (is place) in
          let got : got_weight weight (drop count places) ≡ got_of place + got_weight weight (drop (count + 1) places) = sum_by-drop_more got_of places count place inside
          ∙ ap (λ (p : Place). got_of p + got_weight weight (drop (count + 1) places)) (is place) in
          let own = turn_balanced rule place after tally_now tally_after turn weight none whole in
          omega (arith, so_far.balanced weight, ap (put_weight weight) rest, ap (got_weight weight) rest, sum_by-append weight so_far.taken turn.taken, sum_by-append weight so_far.put turn.put);
      same = rest ∙ drop_same places before count inside so_far.long so_far.same;
      long = length-set places count after ∙ so_far.long;
      numbers = turn.numbers ∙ so_far.numbers;
    }

pub comes_to_all : (rule : Goal) (before places : List Place) (tally tally_now : Tally) (count : ℕ) → length places ≤ count → Finishing rule before places tally tally_now count
    → ComesToAll rule tally_now
comes_to_all rule before places tally tally_now count all so_far =
    let none : drop count places ≡ [] = drop_all count places all in
    record {
      first = so_far.first;
      taken = so_far.taken;
      put = so_far.put;
      strange = so_far.strange;
      all = record {
        is_whole = so_far.is_whole;
        balanced = record { weighs = λ weight. omega (arith, so_far.balanced weight, ap (put_weight weight) none, ap (got_weight weight) none, sum_by-cons weight so_far.first so_far.put) };
        worked = so_far.parts;
      };
    }
