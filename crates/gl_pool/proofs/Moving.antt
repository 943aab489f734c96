-- One move of a place after another.
use Rattle.std.proofs.Common.{◌≡◌, ◌∙◌, sym, ap, refl, subst, ℕ, ◌<◌, List, [], ◌∷◌, ◌++◌, Vec, Global, length, get_or, map, set, append_assoc, arith}
use Rattle.std.proofs.Math.Seq.{map-set_same}
use Rattle.std.proofs.lemmas.List.{append-nil}
use Rattle.std.proofs.lemmas.List.Sums.{sum_by-append, sum_by-set}
use Rattle.std.specs.List.{sum_by}
use Rattle.gl_box.specs.declared.cell.Cell.{Cell}
use Rattle.gl_deal.specs.declared.pass.Pass.{Pass}
use Rattle.gl_deal.specs.declared.place.Place.{Place}
use Rattle.gl_deal.specs.declared.view.HandView.{HandView}
use Rattle.gl_deal.specs.declared.view.PassView.{PassView}
use Rattle.gl_deal.specs.Tokens.{Deque, end_of, hand_deque, hand_view}
use Rattle.gl_deal.specs.Views.{with_put, with_stolen}
use Rattle.gl_pool.specs.Taken.{Moves, duty_of, ends_of, stolen_weight}
use Rattle.gl_pool.specs.Code.Taken.{Steals}

-- nothing moved
pub moves_none : (place : Place) → Moves place place [] []
moves_none place = record {
  took = λ weight. omega arith;
  puts = sym (append-nil (hand_view place.hand).put);
  deque = refl;
  owner = refl;
  workers = refl;
  gathered = refl;
  settled = refl;
  passes = refl;
}

pub moves_on : (one two three : Place) (taken put more_taken more_put : List Cell) → Moves one two taken put → Moves two three more_taken more_put
    → Moves one three (taken ++ more_taken) (put ++ more_put)
moves_on one two three taken put more_taken more_put first next = record {
  took = λ weight. omega (arith, first.took weight, next.took weight, sum_by-append weight taken more_taken);
  puts = next.puts ∙ ap (λ (cells : List Cell). cells ++ more_put) first.puts ∙ append_assoc (hand_view one.hand).put put more_put;
  deque = next.deque ∙ first.deque;
  owner = next.owner ∙ first.owner;
  workers = next.workers ∙ first.workers;
  gathered = next.gathered ∙ first.gathered;
  settled = next.settled ∙ first.settled;
  passes = next.passes ∙ first.passes;
}

-- a cell was taken, and none put
pub moves_taken : (one two three : Place) (taken put : List Cell) (cell : Cell) → Moves one two taken put → Moves two three (cell ∷ []) [] → Moves one three (taken ++ cell ∷ []) put
moves_taken one two three taken put cell first next = subst (Moves one three (taken ++ cell ∷ [])) (append-nil put) (moves_on one two three taken put (cell ∷ []) [] first next)

-- a cell was put, and none taken
pub moves_put : (one two three : Place) (taken put : List Cell) (cell : Cell) → Moves one two taken put → Moves two three [] (cell ∷ []) → Moves one three taken (put ++ cell ∷ [])
moves_put one two three taken put cell first next = subst (λ (cells : List Cell). Moves one three cells (put ++ cell ∷ [])) (append-nil taken)
    (moves_on one two three taken put [] (cell ∷ []) first next)

-- the hand put a cell
pub moves_by_put : (before after : Place) (cell : Cell) → after.passes ≡ before.passes → hand_deque after.hand ≡ hand_deque before.hand
    → hand_view after.hand ≡ with_put (hand_view before.hand) (cell ∷ []) → Moves before after [] (cell ∷ [])
moves_by_put before after cell passes deque hand = record {
  took = λ weight. omega (arith, ap (λ (h : HandView). sum_by weight h.taken) hand, ap (λ (p : Vec Pass Global). stolen_weight weight (map end_of p.items)) passes);
  puts = ap (λ (h : HandView). h.put) hand;
  deque = deque;
  owner = ap (λ (h : HandView). h.owner) hand;
  workers = ap (λ (h : HandView). h.workers) hand;
  gathered = ap (λ (h : HandView). h.gathered) hand;
  settled = ap (λ (h : HandView). h.settled) hand;
  passes = ap (λ (p : Vec Pass Global). map duty_of (map end_of p.items)) passes;
}

-- a pass took a cell, and the hand none
pub moves_by_steal : (before after : Place) (cell : Cell) → Steals (ends_of before) (ends_of after) cell → hand_deque after.hand ≡ hand_deque before.hand → hand_view after.hand ≡ hand_view before.hand
    → Moves before after (cell ∷ []) []
moves_by_steal before after cell stolen deque hand = record {
  took = λ weight. omega (arith, ap (λ (h : HandView). sum_by weight h.taken) hand, stolen.took weight);
  puts = ap (λ (h : HandView). h.put) hand ∙ sym (append-nil (hand_view before.hand).put);
  deque = deque;
  owner = ap (λ (h : HandView). h.owner) hand;
  workers = ap (λ (h : HandView). h.workers) hand;
  gathered = ap (λ (h : HandView). h.gathered) hand;
  settled = ap (λ (h : HandView). h.settled) hand;
  passes = stolen.passes;
}

-- one pass of some took a cell
pub steals_at : (ends : List (Deque × PassView)) (index : ℕ) (before : Deque × PassView) (cell : Cell) → index < length ends → before ≡ get_or ends index before
    → Steals ends (set ends index (before.0, with_stolen before.1 (cell ∷ []))) cell
steals_at ends index before cell within is = record {
  took = λ weight.
      omega (
        arith,
        sum_by-set (λ (pass : Deque × PassView). sum_by weight pass.1.taken) ends index (before.0, with_stolen before.1 (cell ∷ [])) before within,
        sum_by-append weight before.1.taken (cell ∷ []),
        ap (λ (pass : Deque × PassView). sum_by weight pass.1.taken) is,
      );
  passes = map-set_same duty_of ends index (before.0, with_stolen before.1 (cell ∷ [])) before (ap duty_of is);
}
