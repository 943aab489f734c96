-- A worker that is under way is so after each step.
use Rattle.std.proofs.Common.{◌≡◌, ◌∙◌, sym, ap, refl, subst, ℕ, ◌+◌, ◌<◌, List, [], ◌∷◌, ◌++◌, length, map, max, arith}
use Rattle.std.specs.Prelude.{Contains, Option, Some, None}
use Rattle.std.proofs.lemmas.List.Elements.{All-nil, All-push, All-same}
use Rattle.std.specs.List.{sum_by}
use Rattle.gl_box.specs.declared.cell.Cell.{Cell}
use Rattle.gl_box.specs.declared.closed.Why.{Why}
use Rattle.gl_box.specs.Cell.{Covers, spans_of}
use Rattle.gl_box.specs.Halves.{AreHalves}
use Rattle.gl_box.specs.Tuple.{places_of}
use Rattle.gl_goal.specs.Goal.{Goal, IsReached, whole_cell}
use Rattle.gl_goal.specs.Certificate.{IsClosedFor}
use Rattle.gl_goal.specs.declared.best.Best.{Best}
use Rattle.gl_plain.specs.CellVerdict.{Promises}
use Rattle.gl_best.specs.declared.word.BestWord.{BestWord}
use Rattle.gl_best.specs.declared.word.Seat.{Seat}
use Rattle.gl_best.specs.Seats.{view_of}
use Rattle.gl_deal.specs.declared.place.Place.{Place}
use Rattle.gl_deal.specs.declared.view.HandView.{HandView}
use Rattle.gl_deal.specs.Rule.{HasSettledAll}
use Rattle.gl_deal.specs.Tokens.{hand_view}
use Rattle.gl_pool.specs.declared.bench.Bench.{Bench}
use Rattle.gl_pool.specs.declared.share.Haul.{Haul}
use Rattle.gl_pool.specs.Kept.{IsKept, KeepsSeat, seen_by}
use Rattle.gl_pool.specs.Code.Taken.{FindsNone}
use Rattle.gl_pool.specs.Taken.{Moves, duty_of, stolen_weight}
use Rattle.gl_pool.specs.Code.UnderWay.{AreBeingParted, Call, IsUnderWay}
use Rattle.gl_pool.specs.Work.{HasHauled}
use Rattle.gl_pool.proofs.Hearing.{above_before, all_closed_longer, keeps_on, kept_new, kept_on, word_below}
use Rattle.gl_pool.proofs.Moving.{moves_none, moves_put, moves_taken}
use Rattle.gl_pool.proofs.Parting.{parted_closed, parted_cut, parted_done, parted_inside, parted_outside, parted_put, parted_start}
use Rattle.gl_pool.specs.Trail.{boxes_in}

-- the same lists by other names
parted_along : (rule : Goal) (seen : Option ℕ) (taken cells cells_too : List Cell) (closed closed_too : List (List (ℕ × ℕ) × Why)) (put strange strange_too : List Cell) → cells ≡ cells_too
    → closed ≡ closed_too → strange ≡ strange_too → AreBeingParted rule seen taken cells closed put strange → AreBeingParted rule seen taken cells_too closed_too put strange_too
parted_along rule seen taken cells cells_too closed closed_too put strange strange_too a b c way =
    subst (λ (s : List Cell). AreBeingParted rule seen taken cells_too closed_too put s) c
    (subst (λ (s : List (List (ℕ × ℕ) × Why)). AreBeingParted rule seen taken cells_too s put strange) b
    (subst (λ (s : List Cell). AreBeingParted rule seen taken s closed put strange) a way))

-- two benches with the same share and cells
pub record HasSame (bench after : Bench) : Type 0 where
  pub cells : after.cells.items ≡ bench.cells.items
  pub closed : (boxes_in after.share.closed) ≡ (boxes_in bench.share.closed)
  pub strange : after.share.strange.items ≡ bench.share.strange.items

module _ (rule : Goal) (word : BestWord) (call : Call) (place : Place) (seat : Seat) (bench after : Bench) (way : IsUnderWay rule word call place seat bench) where
  pub going_closed : (cell : Cell) (why : Why) → bench.cells.items ≡ after.cells.items ++ cell ∷ []
      → (boxes_in after.share.closed) ≡ (boxes_in bench.share.closed) ++ (spans_of cell, why) ∷ [] → after.share.strange.items ≡ bench.share.strange.items
      → after.share.kept ≡ bench.share.kept → after.seen ≡ bench.seen → IsClosedFor rule bench.seen (spans_of cell) why → IsUnderWay rule word call place seat after
  going_closed cell why top box strange kept seen reason =
      let closed : List (ℕ × ℕ) × Why = (spans_of cell, why) in
      let parts = parted_closed rule (seen_by call.seat) way.taken after.cells.items cell why (boxes_in bench.share.closed) way.put bench.share.strange.items
      (subst (λ (cells : List Cell). AreBeingParted rule (seen_by call.seat) way.taken cells (boxes_in bench.share.closed) way.put bench.share.strange.items) top way.parts) in
      record {
        taken = way.taken;
        put = way.put;
        moves = way.moves;
        parts = parted_along rule (seen_by call.seat) way.taken _ _ _ _ way.put _ _ refl (sym box) (sym strange) parts;
        same_seat = way.same_seat;
        reasons = All-same (λ (b : List (ℕ × ℕ) × Why). IsClosedFor rule (seen_by seat) b.0 b.1) _ _ box
            (All-push (λ (b : List (ℕ × ℕ) × Why). IsClosedFor rule (seen_by seat) b.0 b.1) (boxes_in bench.share.closed) closed way.reasons
            (subst (λ (total : Option ℕ). IsClosedFor rule total (spans_of cell) why) way.seen reason));
        kept = subst (IsKept rule (view_of call.seat) (view_of seat)) (sym kept) way.kept;
        seen = seen ∙ way.seen;
      }

  -- what is above all that the seat has seen is above all that it had seen at the call
  above_seen : (limit : ℕ) → ((found : ℕ) → bench.seen ≡ Some found → found < limit) → (total : ℕ) → seen_by call.seat ≡ Some total → total < limit
  above_seen limit above =
      above_before (view_of call.seat).seen (view_of seat).seen limit way.same_seat.no_less (λ total is. above total (way.seen ∙ is))

  pub going_cut : (rest : List Cell) (cell lower upper : Cell) (bound : ℕ) → bench.cells.items ≡ rest ++ cell ∷ [] → after.cells.items ≡ (rest ++ upper ∷ []) ++ lower ∷ []
      → (boxes_in after.share.closed) ≡ (boxes_in bench.share.closed) → after.share.strange.items ≡ bench.share.strange.items → after.share.kept ≡ bench.share.kept → after.seen ≡ bench.seen
      → AreHalves (spans_of cell) (spans_of lower) (spans_of upper) → Promises rule bench.seen (spans_of cell) bound → IsUnderWay rule word call place seat after
  going_cut rest cell lower upper bound top cut closed strange kept seen halves promises =
      let above = above_seen (rule.bound (spans_of cell)) (λ found is. omega (arith, promises.above found is, promises.is_bound)) in
      let parts = parted_cut rule (seen_by call.seat) way.taken rest cell lower upper (boxes_in bench.share.closed) way.put bench.share.strange.items halves promises.is_open above
      (subst (λ (cells : List Cell). AreBeingParted rule (seen_by call.seat) way.taken cells (boxes_in bench.share.closed) way.put bench.share.strange.items) top way.parts) in
      record {
        taken = way.taken;
        put = way.put;
        moves = way.moves;
        parts = parted_along rule (seen_by call.seat) way.taken _ _ _ _ way.put _ _ (sym cut) (sym closed) (sym strange) parts;
        same_seat = way.same_seat;
        reasons = All-same (λ (b : List (ℕ × ℕ) × Why). IsClosedFor rule (seen_by seat) b.0 b.1) _ _ closed way.reasons;
        kept = subst (IsKept rule (view_of call.seat) (view_of seat)) (sym kept) way.kept;
        seen = seen ∙ way.seen;
      }

  -- the seat has seen more, and raised as much
  pub going_heard : (hears : Seat) → HasSame bench after → after.share.kept ≡ bench.share.kept → after.seen ≡ seen_by hears → KeepsSeat word seat hears → (view_of hears).raised ≡ (view_of seat).raised
      → IsUnderWay rule word call place hears after
  going_heard hears same kept seen keeps raised = record {
    taken = way.taken;
    put = way.put;
    moves = way.moves;
    parts = parted_along rule (seen_by call.seat) way.taken _ _ _ _ way.put _ _ (sym same.cells) (sym same.closed) (sym same.strange) way.parts;
    same_seat = keeps_on word call.seat seat hears way.same_seat keeps.is_seat keeps.numbers keeps.no_less;
    reasons = All-same (λ (b : List (ℕ × ℕ) × Why). IsClosedFor rule (seen_by hears) b.0 b.1) _ _ same.closed
        (all_closed_longer rule seat hears (boxes_in bench.share.closed) keeps.no_less way.reasons);
    kept = subst (IsKept rule (view_of call.seat) (view_of hears)) (sym kept) (kept_on rule (view_of call.seat) (view_of seat) (view_of hears) bench.share.kept raised way.kept);
    seen = seen;
  }

  -- a total above what the seat has seen was kept and raised
  pub going_kept : (raises : Seat) (best : Best) → HasSame bench after → after.share.kept ≡ Some best → after.seen ≡ seen_by raises → KeepsSeat word seat raises
      → (view_of raises).raised ≡ max (view_of seat).raised (best.total + 1) → IsReached rule best.total (places_of best.tuple) → ((found : ℕ) → bench.seen ≡ Some found → found < best.total)
      → IsUnderWay rule word call place raises after
  going_kept raises best same kept seen keeps raised reached above =
      let below = word_below (view_of seat).seen best.total (λ total is. above total (way.seen ∙ is)) in
      record {
        taken = way.taken;
        put = way.put;
        moves = way.moves;
        parts = parted_along rule (seen_by call.seat) way.taken _ _ _ _ way.put _ _ (sym same.cells) (sym same.closed) (sym same.strange) way.parts;
        same_seat = keeps_on word call.seat seat raises way.same_seat keeps.is_seat keeps.numbers keeps.no_less;
        reasons = All-same (λ (b : List (ℕ × ℕ) × Why). IsClosedFor rule (seen_by raises) b.0 b.1) _ _ same.closed
            (all_closed_longer rule seat raises (boxes_in bench.share.closed) keeps.no_less way.reasons);
        kept = subst (IsKept rule (view_of call.seat) (view_of raises)) (sym kept)
            (kept_new rule (view_of call.seat) (view_of seat) (view_of raises) best reached way.same_seat.no_less seat.raised_was_seen below raised);
        seen = seen;
      }

  -- the first cell of several was put
  pub going_put : (next : Place) (cell : Cell) → Moves place next [] (cell ∷ []) → bench.cells.items ≡ cell ∷ after.cells.items → 1 < length bench.cells.items
      → (boxes_in after.share.closed) ≡ (boxes_in bench.share.closed) → after.share.strange.items ≡ bench.share.strange.items → after.share.kept ≡ bench.share.kept → after.seen ≡ bench.seen
      → IsUnderWay rule word call next seat after
  going_put next cell moves first many closed strange kept seen =
      let parts = parted_put rule (seen_by call.seat) way.taken after.cells.items cell (boxes_in bench.share.closed) way.put bench.share.strange.items (omega (arith, ap length first))
      (subst (λ (cells : List Cell). AreBeingParted rule (seen_by call.seat) way.taken cells (boxes_in bench.share.closed) way.put bench.share.strange.items) first way.parts) in
      record {
        taken = way.taken;
        put = way.put ++ cell ∷ [];
        moves = moves_put call.place place next way.taken way.put cell way.moves moves;
        parts = parted_along rule (seen_by call.seat) way.taken _ _ _ _ (way.put ++ cell ∷ []) _ _ refl (sym closed) (sym strange) parts;
        same_seat = way.same_seat;
        reasons = All-same (λ (b : List (ℕ × ℕ) × Why). IsClosedFor rule (seen_by seat) b.0 b.1) _ _ closed way.reasons;
        kept = subst (IsKept rule (view_of call.seat) (view_of seat)) (sym kept) way.kept;
        seen = seen ∙ way.seen;
      }

  -- a cell was taken that lies inside the whole cell
  pub going_inside : (next : Place) (cell : Cell) → Moves place next (cell ∷ []) [] → Covers (whole_cell rule.axes) (spans_of cell) → bench.cells.items ≡ [] → after.cells.items ≡ cell ∷ []
      → (boxes_in after.share.closed) ≡ (boxes_in bench.share.closed) → after.share.strange.items ≡ bench.share.strange.items → after.share.kept ≡ bench.share.kept → after.seen ≡ bench.seen
      → IsUnderWay rule word call next seat after
  going_inside next cell moves inside none one closed strange kept seen =
      let parts = parted_inside rule (seen_by call.seat) way.taken cell (boxes_in bench.share.closed) way.put bench.share.strange.items inside
      (subst (λ (cells : List Cell). AreBeingParted rule (seen_by call.seat) way.taken cells (boxes_in bench.share.closed) way.put bench.share.strange.items) none way.parts) in
      record {
        taken = way.taken ++ cell ∷ [];
        put = way.put;
        moves = moves_taken call.place place next way.taken way.put cell way.moves moves;
        parts = parted_along rule (seen_by call.seat) (way.taken ++ cell ∷ []) _ _ _ _ way.put _ _ (sym one) (sym closed) (sym strange) parts;
        same_seat = way.same_seat;
        reasons = All-same (λ (b : List (ℕ × ℕ) × Why). IsClosedFor rule (seen_by seat) b.0 b.1) _ _ closed way.reasons;
        kept = subst (IsKept rule (view_of call.seat) (view_of seat)) (sym kept) way.kept;
        seen = seen ∙ way.seen;
      }

  -- a cell was taken that doesn't
  pub going_outside : (next : Place) (cell : Cell) → Moves place next (cell ∷ []) [] → (Covers (whole_cell rule.axes) (spans_of cell) → ⊥) → bench.cells.items ≡ []
      → after.cells.items ≡ bench.cells.items → (boxes_in after.share.closed) ≡ (boxes_in bench.share.closed) → after.share.strange.items ≡ bench.share.strange.items ++ cell ∷ []
      → after.share.kept ≡ bench.share.kept → after.seen ≡ bench.seen → IsUnderWay rule word call next seat after
  going_outside next cell moves outside none same closed strange kept seen =
      let parts = parted_outside rule (seen_by call.seat) way.taken cell (boxes_in bench.share.closed) way.put bench.share.strange.items outside
      (subst (λ (cells : List Cell). AreBeingParted rule (seen_by call.seat) way.taken cells (boxes_in bench.share.closed) way.put bench.share.strange.items) none way.parts) in
      record {
        taken = way.taken ++ cell ∷ [];
        put = way.put;
        moves = moves_taken call.place place next way.taken way.put cell way.moves moves;
        parts = parted_along rule (seen_by call.seat) (way.taken ++ cell ∷ []) _ _ _ _ way.put _ _ (sym (same ∙ none)) (sym closed) (sym strange) parts;
        same_seat = way.same_seat;
        reasons = All-same (λ (b : List (ℕ × ℕ) × Why). IsClosedFor rule (seen_by seat) b.0 b.1) _ _ closed way.reasons;
        kept = subst (IsKept rule (view_of call.seat) (view_of seat)) (sym kept) way.kept;
        seen = seen ∙ way.seen;
      }

-- a worker begins
pub going_start : (rule : Goal) (word : BestWord) (place : Place) (given seat : Seat) (bench : Bench) → bench.cells.items ≡ [] → (boxes_in bench.share.closed) ≡ [] → bench.share.strange.items ≡ []
    → bench.share.kept ≡ None → bench.seen ≡ seen_by seat → KeepsSeat word given seat → (view_of seat).raised ≡ (view_of given).raised
    → IsUnderWay rule word (record { place = place; seat = given }) place seat bench
going_start rule word place given seat bench cells closed strange kept seen keeps raised = record {
  taken = [];
  put = [];
  moves = moves_none place;
  parts = parted_along rule (seen_by given) [] _ _ _ _ [] _ _ (sym cells) (sym closed) (sym strange) (parted_start rule (seen_by given));
  same_seat = keeps;
  reasons = All-same (λ (b : List (ℕ × ℕ) × Why). IsClosedFor rule (seen_by seat) b.0 b.1) _ _ closed (All-nil _);
  kept = subst (IsKept rule (view_of given) (view_of seat)) (sym kept) raised;
  seen = seen;
}

moves_found : (one two three : Place) (taken put : List Cell) → Moves one two taken put → FindsNone two three → Moves one three taken put
moves_found one two three taken put first found = record {
  took = λ weight.
      omega (arith, first.took weight, ap (λ (hand : HandView). sum_by weight hand.taken) found.hand, ap (stolen_weight weight) found.passes);
  puts = ap (λ (hand : HandView). hand.put) found.hand ∙ first.puts;
  deque = found.deque ∙ first.deque;
  owner = ap (λ (hand : HandView). hand.owner) found.hand ∙ first.owner;
  workers = ap (λ (hand : HandView). hand.workers) found.hand ∙ first.workers;
  gathered = ap (λ (hand : HandView). hand.gathered) found.hand ∙ first.gathered;
  settled = ap (λ (hand : HandView). hand.settled) found.hand ∙ first.settled;
  passes = ap (map duty_of) found.passes ∙ first.passes;
}

-- a hand that settled all at the call has done so since
settled_since : (before after : Place) (taken put : List Cell) → Moves before after taken put → HasSettledAll (hand_view before.hand) → HasSettledAll (hand_view after.hand)
settled_since before after taken put moves settled worker below other =
    subst (λ (workers : List ℕ). Contains workers worker) (sym moves.settled) (settled worker (omega (arith, below, moves.workers)) (λ is. other (is ∙ sym moves.owner)))

-- a worker ends
pub going_end : (rule : Goal) (word : BestWord) (call : Call) (place next : Place) (seat : Seat) (bench : Bench) → IsUnderWay rule word call place seat bench → bench.cells.items ≡ []
    → FindsNone place next → HasHauled rule word call.place next call.seat seat bench.share
going_end rule word call place next seat bench way none found =
    let moves = moves_found call.place place next way.taken way.put way.moves found in
    record {
      taken = way.taken;
      put = way.put;
      moves = moves;
      parts = parted_done rule (seen_by call.seat) way.taken (boxes_in bench.share.closed) way.put bench.share.strange.items
          (subst (λ (cells : List Cell). AreBeingParted rule (seen_by call.seat) way.taken cells (boxes_in bench.share.closed) way.put bench.share.strange.items) none way.parts);
      seat = way.same_seat;
      reasons = way.reasons;
      kept = way.kept;
      all_put = λ settled. found.all_put (settled_since call.place next way.taken way.put moves settled);
    }

-- a worker that found nothing has nothing to show
pub going_none : (rule : Goal) (word : BestWord) (place next : Place) (given seat : Seat) (share : Haul) → boxes_in share.closed ≡ [] → share.strange.items ≡ [] → share.kept ≡ None
    → KeepsSeat word given seat → (view_of seat).raised ≡ (view_of given).raised → FindsNone place next → HasHauled rule word place next given seat share
going_none rule word place next given seat share closed strange kept keeps raised found =
    let moves = moves_found place place next [] [] (moves_none place) found in
    let parts = parted_along rule (seen_by given) [] _ _ _ _ [] _ _ refl (sym closed) (sym strange) (parted_start rule (seen_by given)) in
    record {
      taken = [];
      put = [];
      moves = moves;
      parts = parted_done rule (seen_by given) [] (boxes_in share.closed) [] share.strange.items parts;
      seat = keeps;
      reasons = All-same (λ (b : List (ℕ × ℕ) × Why). IsClosedFor rule (seen_by seat) b.0 b.1) _ _ closed (All-nil _);
      kept = subst (IsKept rule (view_of given) (view_of seat)) (sym kept) raised;
      all_put = λ settled. found.all_put (settled_since place next [] [] moves settled);
    }
