-- Workers that are given their seats one after the other, the last one that of what was found before.
use Rattle.std.proofs.Common.{◌≡◌, ◌∙◌, sym, ap, refl, subst, ℕ, ◌+◌, ◌<◌, ◌≤◌, List, [], ◌∷◌, ◌++◌, length, get_or, map, append_assoc, None, arith}
use Rattle.std.specs.Prelude.{All}
use Rattle.std.proofs.lemmas.List.{get_or_at, length-append, length-map, map-append}
use Rattle.std.proofs.lemmas.List.Elements.{All-nil, All-push, All-same, All-weaker}
use Rattle.std.proofs.lemmas.List.Sums.{sum_by-append, sum_by-cons}
use Rattle.gl_box.specs.declared.closed.Why.{Why}
use Rattle.gl_goal.specs.Goal.{Goal}
use Rattle.gl_goal.specs.Certificate.{IsClosedFor}
use Rattle.gl_goal.specs.Best.{IsSound}
use Rattle.gl_best.specs.declared.rule.View.{View}
use Rattle.gl_best.specs.declared.word.BestWord.{BestWord}
use Rattle.gl_best.specs.Rule.{times}
use Rattle.gl_best.specs.Seats.{IsSeatOf, total_of, view_of}
use Rattle.gl_best.specs.Steps.{given_of, greatest, kept_of}
use Rattle.gl_best.proofs.Numbers.{times-greatest, times-without}
use Rattle.gl_deal.specs.declared.place.Place.{Place}
use Rattle.gl_pool.specs.declared.crew.Worker.{Worker}
use Rattle.gl_pool.specs.declared.tally.Tally.{Tally}
use Rattle.gl_deal.specs.Tokens.{hand_view}
use Rattle.gl_pool.specs.Code.Crew.{AreSeated, HasOwnNumber, times_seated}
use Rattle.gl_pool.specs.Code.Settle.{StandReady}
use Rattle.gl_pool.specs.Kept.{seen_by}
use Rattle.gl_pool.specs.Code.Tally.{IsTally, word_of}
use Rattle.gl_order.specs.Runs.{ArePassed, IsPassed, boxes_in_runs}

-- a worker with a seat that is shared, who has found and closed nothing
pub record IsFresh (word : BestWord) (worker : Worker) : Type 0 where
  pub is_seat : IsSeatOf word worker.tally.seat
  pub none : worker.tally.best ≡ None
  pub raised : (view_of worker.tally.seat).raised ≡ 0
  pub nothing : worker.tally.closed.items ≡ []

fresh_tally : (rule : Goal) (word : BestWord) (worker : Worker) → IsFresh word worker → IsTally rule word worker.tally
fresh_tally rule word worker fresh = record {
  is_seat = fresh.is_seat;
  sound = subst (IsSound rule) (sym fresh.none) tt;
  raised = fresh.raised ∙ ap word_of (sym fresh.none);
  closed = All-same (λ (box : List (ℕ × ℕ) × Why). IsClosedFor rule (seen_by worker.tally.seat) box.0 box.1) (boxes_in_runs worker.tally.closed.items) [] (ap boxes_in_runs fresh.nothing)
      (All-nil (λ (box : List (ℕ × ℕ) × Why). IsClosedFor rule (seen_by worker.tally.seat) box.0 box.1));
  passed = subst ArePassed (sym fresh.nothing) (All-nil IsPassed);
}

-- what is left to share: as before, with fewer numbers
pub record StillHas (word : BestWord) (before after : Tally) : Type 0 where
  pub is_seat : IsSeatOf word after.seat
  pub best : after.best ≡ before.best
  pub closed : after.closed.items ≡ before.closed.items
  pub seen : (view_of after.seat).seen ≡ (view_of before.seat).seen
  pub raised : (view_of after.seat).raised ≡ (view_of before.seat).raised

still_tally : (rule : Goal) (word : BestWord) (before after : Tally) → StillHas word before after → IsTally rule word before → IsTally rule word after
still_tally rule word before after still is = record {
  is_seat = still.is_seat;
  sound = subst (IsSound rule) (sym still.best) is.sound;
  raised = still.raised ∙ is.raised ∙ ap word_of (sym still.best);
  closed = All-same (λ (box : List (ℕ × ℕ) × Why). IsClosedFor rule (seen_by after.seat) box.0 box.1) (boxes_in_runs after.closed.items) (boxes_in_runs before.closed.items)
      (ap boxes_in_runs still.closed)
      (subst (λ (word : ℕ). All (λ (box : List (ℕ × ℕ) × Why). IsClosedFor rule (total_of word) box.0 box.1) (boxes_in_runs before.closed.items)) (sym still.seen) is.closed);
  passed = subst ArePassed (sym still.closed) is.passed;
}

-- some workers have their seats, and some places are left, with the last one behind them
pub record Seating (word : BestWord) (places rest : List Place) (last : Place) (before tally : Tally) (workers : List Worker) : Type 0 where
  pub places_are : map (λ worker. worker.place) workers ++ (rest ++ last ∷ []) ≡ places
  pub own : All HasOwnNumber workers
  pub still : StillHas word before tally
  pub enough : length rest < length (view_of tally.seat).numbers
  pub fresh : All (IsFresh word) workers
  pub numbers : (number : ℕ) → times_seated number workers + times number (view_of tally.seat).numbers ≡ times number (view_of before.seat).numbers

pub seating_start : (word : BestWord) (places rest : List Place) (last : Place) (tally : Tally) (workers : List Worker) → places ≡ rest ++ last ∷ [] → workers ≡ [] → IsSeatOf word tally.seat
    → length places ≤ length (view_of tally.seat).numbers → Seating word places rest last tally tally workers
seating_start word places rest last tally workers is none seat enough = record {
  places_are = ap (λ (ws : List Worker). map (λ worker. worker.place) ws ++ (rest ++ last ∷ [])) none ∙ sym is;
  own = All-same HasOwnNumber workers [] none (All-nil HasOwnNumber);
  still = record { is_seat = seat; best = refl; closed = refl; seen = refl; raised = refl };
  enough = omega (arith, ap length is, length-append rest (last ∷ []));
  fresh = All-same (IsFresh word) workers [] none (All-nil (IsFresh word));
  numbers = λ number. omega (arith, ap (times_seated number) none);
}

abbrev place_in : Worker → Place
place_in worker = worker.place

-- the next worker has the number of its place
own_number : (places rest : List Place) (workers : List Worker) (worker : Worker) → StandReady places → map place_in workers ++ worker.place ∷ rest ≡ places → worker.number ≡ length workers
    → HasOwnNumber worker
own_number places rest workers worker ready are number =
    let long = length-map workers place_in in
    let there = get_or_at (map place_in workers) worker.place rest worker.place (length workers) long in
    let inside : length workers < length places = omega (arith, ap length are, length-append (map place_in workers) (worker.place ∷ rest), long) in
    number ∙ sym (ready.owners (length workers) worker.place inside) ∙ ap (λ (l : List Place). (hand_view (get_or l (length workers) worker.place).hand).owner) (sym are)
    ∙ ap (λ (p : Place). (hand_view p.hand).owner) there

-- one more worker has its seat
pub seating_more : (word : BestWord) (places rest less : List Place) (last : Place) (before tally after : Tally) (workers more : List Worker) (worker : Worker) → StandReady places → worker.number ≡ length workers → rest ≡ worker.place ∷ less
    → more ≡ workers ++ worker ∷ [] → IsSeatOf word after.seat → IsFresh word worker → after.best ≡ tally.best → after.closed.items ≡ tally.closed.items
    → view_of after.seat ≡ kept_of (view_of tally.seat) → view_of worker.tally.seat ≡ given_of (view_of tally.seat) → length (view_of after.seat).numbers + 1 ≡ length (view_of tally.seat).numbers
    → Seating word places rest last before tally workers → Seating word places less last before after more
seating_more word places rest less last before tally after workers more worker ready number is one seat fresh best closed kept given fewer so_far = record {
  places_are = ap (λ (ws : List Worker). map place_in ws ++ (less ++ last ∷ [])) one
      ∙ ap (λ (l : List Place). l ++ (less ++ last ∷ [])) (map-append place_in workers (worker ∷ []))
      ∙ append_assoc (map place_in workers) (worker.place ∷ []) (less ++ last ∷ [])
      ∙ ap (λ (l : List Place). map place_in workers ++ (l ++ last ∷ [])) (sym is)
      ∙ so_far.places_are;
  own = All-same HasOwnNumber more (workers ++ worker ∷ []) one (All-push HasOwnNumber workers worker so_far.own
      (own_number places (less ++ last ∷ []) workers worker ready (ap (λ (l : List Place). map place_in workers ++ (l ++ last ∷ [])) (sym is) ∙ so_far.places_are) number));
  still = record {
    is_seat = seat;
    best = best ∙ so_far.still.best;
    closed = closed ∙ so_far.still.closed;
    seen = ap (λ (v : View). v.seen) kept ∙ so_far.still.seen;
    raised = ap (λ (v : View). v.raised) kept ∙ so_far.still.raised;
  };
  enough = omega (arith, so_far.enough, ap length is, fewer);
  fresh = All-same (IsFresh word) more (workers ++ worker ∷ []) one (All-push (IsFresh word) workers worker so_far.fresh fresh);
  numbers = λ number.
      let ns = (view_of tally.seat).numbers in
      let some : 0 < length ns = omega (arith, so_far.enough) in
      let parts = times-without number (greatest ns) ns (times-greatest ns some) in
      let left : times number (view_of after.seat).numbers ≡ times number (kept_of (view_of tally.seat)).numbers = ap (λ (v : View). times number v.numbers) kept in
      let right : times number (view_of worker.tally.seat).numbers ≡ times number (given_of (view_of tally.seat)).numbers = ap (λ (v : View). times number v.numbers) given in
      let sum = sum_by-append (λ (w : Worker). times number (view_of w.tally.seat).numbers) workers (worker ∷ []) in
      let lone = sum_by-cons (λ (w : Worker). times number (view_of w.tally.seat).numbers) worker [] in
      omega (arith, so_far.numbers number, ap (times_seated number) one);
}

-- once all but the last place have their workers
pub seated_all : (word : BestWord) (places rest : List Place) (last : Place) (before tally : Tally) (workers all : List Worker) (worker : Worker) → StandReady places → worker.number ≡ length workers → rest ≡ [] → worker.place ≡ last
    → worker.tally ≡ tally → all ≡ workers ++ worker ∷ [] → Seating word places rest last before tally workers → AreSeated word places before all
seated_all word places rest last before tally workers all worker ready number none place own one so_far =
    let still : StillHas word before worker.tally = subst (StillHas word before) (sym own) so_far.still in
    record {
      places_are = ap (map place_in) one ∙ map-append place_in workers (worker ∷ []) ∙ ap (λ (p : Place). map place_in workers ++ p ∷ []) place
          ∙ ap (λ (l : List Place). map place_in workers ++ (l ++ last ∷ [])) (sym none) ∙ so_far.places_are;
      own = All-same HasOwnNumber all (workers ++ worker ∷ []) one (All-push HasOwnNumber workers worker so_far.own
          (own_number places [] workers worker ready (ap (λ (p : Place). map place_in workers ++ p ∷ []) place
          ∙ ap (λ (l : List Place). map place_in workers ++ (l ++ last ∷ [])) (sym none) ∙ so_far.places_are) number));
      tallies = λ rule is. All-same (λ (w : Worker). IsTally rule word w.tally) all (workers ++ worker ∷ []) one
          (All-push (λ (w : Worker). IsTally rule word w.tally) workers worker (All-weaker (IsFresh word) (λ (w : Worker). IsTally rule word w.tally) (fresh_tally rule word) workers so_far.fresh)
          (still_tally rule word before worker.tally still is));
      nothing = λ empty. All-same (λ (w : Worker). (boxes_in_runs w.tally.closed.items) ≡ []) all (workers ++ worker ∷ []) one
          (All-push (λ (w : Worker). (boxes_in_runs w.tally.closed.items) ≡ []) workers worker
          (All-weaker (IsFresh word) (λ (w : Worker). (boxes_in_runs w.tally.closed.items) ≡ []) (λ w fresh. ap boxes_in_runs fresh.nothing) workers so_far.fresh) (ap boxes_in_runs still.closed ∙ empty));
      numbers = λ number.
          let sum = sum_by-append (λ (w : Worker). times number (view_of w.tally.seat).numbers) workers (worker ∷ []) in
          let lone = sum_by-cons (λ (w : Worker). times number (view_of w.tally.seat).numbers) worker [] in
          let same : times number (view_of worker.tally.seat).numbers ≡ times number (view_of tally.seat).numbers = ap (λ (t : Tally). times number (view_of t.seat).numbers) own in
          omega (arith, so_far.numbers number, ap (times_seated number) one);
    }
