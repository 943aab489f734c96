-- Workers that come back one after the other, the last one first.
use Rattle.std.proofs.Common.{◌≡◌, ◌∙◌, sym, ap, refl, ℕ, List, [], ◌∷◌, ◌++◌, map, reverse, append_assoc, Result, Ok, arith}
use Rattle.std.specs.Prelude.{All}
use Rattle.std.specs.declared.alloc.AllocError.{AllocError}
use Rattle.std.proofs.lemmas.List.{reverse-append}
use Rattle.std.proofs.lemmas.List.Elements.{All-head, All-tail}
use Rattle.std.proofs.lemmas.List.Sums.{sum_by-cons}
use Rattle.gl_goal.specs.Goal.{Goal}
use Rattle.gl_best.specs.declared.word.BestWord.{BestWord}
use Rattle.gl_best.specs.Rule.{times}
use Rattle.gl_best.specs.Seats.{view_of}
use Rattle.gl_best.proofs.Numbers.{times-append}
use Rattle.gl_deal.specs.declared.place.Place.{Place}
use Rattle.gl_pool.specs.declared.crew.Worker.{Worker}
use Rattle.gl_pool.specs.declared.tally.Tally.{Tally}
use Rattle.gl_pool.specs.Code.Crew.{closed_by, times_seated}
use Rattle.gl_pool.specs.Code.Tally.{Gathers, IsTally}
use Rattle.gl_order.specs.Runs.{boxes_in_runs}

-- some workers at the end of a list are collected, and the rest is still to come
pub record Collecting (word : BestWord) (worked rest : List (Result Worker AllocError)) (places : List Place) (tally : Tally) : Type 0 where
  pub workers : List Worker
  pub rest_is : worked ≡ rest ++ map Ok workers
  pub places_are : places ≡ reverse (map (λ worker. worker.place) workers)
  pub is_tally : (rule : Goal) → All (λ worker. IsTally rule word worker.tally) workers → IsTally rule word tally
  pub closed : (boxes_in_runs tally.closed.items) ≡ closed_by workers
  pub numbers : (number : ℕ) → times number (view_of tally.seat).numbers ≡ times_seated number workers

abbrev place_in : Worker → Place
place_in worker = worker.place

pub collecting_start : (word : BestWord) (worked rest : List (Result Worker AllocError)) (places : List Place) (worker : Worker) → worked ≡ rest ++ Ok worker ∷ [] → places ≡ worker.place ∷ []
    → Collecting word worked rest places worker.tally
collecting_start word worked rest places worker is one = record {
  workers = worker ∷ [];
  rest_is = is;
  places_are = one;
  is_tally = λ rule all. All-head (λ (w : Worker). IsTally rule word w.tally) worker [] all;
  closed = refl;
  numbers = λ number. omega (arith, sum_by-cons (λ (w : Worker). times number (view_of w.tally.seat).numbers) worker []);
}

pub collecting_more : (word : BestWord) (worked rest less : List (Result Worker AllocError)) (places more : List Place) (tally after : Tally) (worker : Worker) → rest ≡ less ++ Ok worker ∷ []
    → more ≡ places ++ worker.place ∷ [] → Gathers word tally worker.tally after → Collecting word worked rest places tally → Collecting word worked less more after
collecting_more word worked rest less places more tally after worker is one gathers so_far = record {
  workers = worker ∷ so_far.workers;
  rest_is = so_far.rest_is ∙ ap (λ (l : List (Result Worker AllocError)). l ++ map Ok so_far.workers) is ∙ append_assoc less (Ok worker ∷ []) (map Ok so_far.workers);
  places_are = one ∙ ap (λ (l : List Place). l ++ worker.place ∷ []) so_far.places_are ∙ sym (reverse-append (worker.place ∷ []) (map place_in so_far.workers));
  is_tally = λ rule all. gathers.keeps rule (so_far.is_tally rule (All-tail (λ (w : Worker). IsTally rule word w.tally) worker so_far.workers all))
      (All-head (λ (w : Worker). IsTally rule word w.tally) worker so_far.workers all);
  closed = gathers.joined ∙ ap (λ l. l ++ (boxes_in_runs worker.tally.closed.items)) so_far.closed;
  numbers = λ number.
      let sum = sum_by-cons (λ (w : Worker). times number (view_of w.tally.seat).numbers) worker so_far.workers in
      let both = times-append number (view_of tally.seat).numbers (view_of worker.tally.seat).numbers in
      omega (arith, so_far.numbers number, ap (times number) gathers.numbers);
}
