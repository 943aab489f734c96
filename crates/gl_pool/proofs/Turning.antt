-- What all workers did, from what each of them did.
use Rattle.std.proofs.Common.{◌≡◌, ◌∙◌, sym, ap, refl, subst, ℕ, suc, ◌+◌, ◌-◌, ◌<◌, List, [], ◌∷◌, ◌++◌, length, get_or, map, reverse, None, Result, Ok, arith}
use Rattle.std.specs.Prelude.{All, IfOk}
use Rattle.std.specs.List.{sum_by}
use Rattle.std.specs.declared.alloc.AllocError.{AllocError}
use Rattle.std.proofs.lemmas.List.{get_or-map, get_or-reverse, length-map, length-reverse}
use Rattle.std.proofs.lemmas.List.Elements.{All-cons, All-head, All-nil, All-tail}
use Rattle.std.proofs.lemmas.List.Sums.{sum_by-append, sum_by-cons}
use Rattle.gl_box.specs.declared.cell.Cell.{Cell}
use Rattle.gl_box.specs.declared.closed.Why.{Why}
use Rattle.gl_goal.specs.Goal.{Goal}
use Rattle.gl_best.specs.declared.word.BestWord.{BestWord}
use Rattle.gl_best.specs.Rule.{times}
use Rattle.gl_best.specs.Seats.{view_of}
use Rattle.gl_deal.specs.declared.place.Place.{Place}
use Rattle.gl_deal.specs.Tokens.{hand_view}
use Rattle.gl_pool.specs.declared.crew.Worker.{Worker}
use Rattle.gl_pool.specs.declared.tally.Tally.{Tally}
use Rattle.gl_pool.specs.Code.Crew.{AreSeated, Collects, HasTurned, MoveAll, WorkedAll, closed_by, post_of, times_seated}
use Rattle.gl_pool.specs.Parts.{ArePartedInto, IsFromTaken, IsStrange}
use Rattle.gl_pool.proofs.Parting.{PartIn}
use Rattle.gl_pool.specs.Taken.{Moves, taken_weight}
use Rattle.gl_pool.specs.Code.Tally.{IsTally}
use Rattle.gl_pool.proofs.Together.{worked_both}
use Rattle.gl_order.specs.Runs.{boxes_in_runs}

-- each worker of a list has turned into that of another
pub TurnedAll : Goal → BestWord → List Worker → List Worker → Type 0
TurnedAll rule word [] [] = Unit {0}
TurnedAll rule word [] (a ∷ afters) = ⊥
TurnedAll rule word (b ∷ bs) [] = ⊥
TurnedAll rule word (b ∷ bs) (a ∷ afters) = HasTurned rule word b a × TurnedAll rule word bs afters

pub turned_each : (rule : Goal) (word : BestWord) (before after : List Worker) → length before ≡ length after
    → ((k : ℕ) (d : Worker) → k < length before → HasTurned rule word (get_or before k d) (get_or after k d)) → TurnedAll rule word before after
unfolding TurnedAll
turned_each rule word [] [] same each = tt
turned_each rule word [] (a ∷ afters) same each = absurd (omega arith)
turned_each rule word (b ∷ bs) [] same each = absurd (omega arith)
turned_each rule word (b ∷ bs) (a ∷ afters) same each = (each 0 b (omega arith), turned_each rule word bs afters (omega arith) (λ k d below. each (suc k) d (omega arith)))

abbrev place_in : Worker → Place
place_in worker = worker.place

-- a place keeps its post
post_kept : (before after : Place) (taken put : List Cell) → Moves before after taken put → post_of after ≡ post_of before
post_kept before after taken put moves = λ i. record {
  deque = moves.deque i;
  owner = moves.owner i;
  workers = moves.workers i;
  gathered = moves.gathered i;
  settled = moves.settled i;
  passes = moves.passes i;
}

none_moved : MoveAll [] [] [] []
none_moved = record { took = λ weight. refl; puts = λ weight. refl; posts = refl }

-- one place more
pub one_moved : (before after : Place) (befores afters : List Place) (taken put all_taken all_put : List Cell) → Moves before after taken put → MoveAll befores afters all_taken all_put
    → MoveAll (before ∷ befores) (after ∷ afters) (all_taken ++ taken) (all_put ++ put)
one_moved before after befores afters taken put all_taken all_put moves rest = record {
  took = λ weight.
      let got : Place → ℕ = λ place. taken_weight weight place + sum_by weight (hand_view place.hand).gathered in
      let gathered : sum_by weight (hand_view after.hand).gathered ≡ sum_by weight (hand_view before.hand).gathered = ap (sum_by weight) moves.gathered in
      omega (arith, moves.took weight, rest.took weight, gathered, sum_by-cons got before befores, sum_by-cons got after afters, sum_by-append weight all_taken taken);
  puts = λ weight.
      let put_of : Place → ℕ = λ place. sum_by weight (hand_view place.hand).put in
      let put_is : sum_by weight (hand_view after.hand).put ≡ sum_by weight (hand_view before.hand).put + sum_by weight put = ap (sum_by weight) moves.puts
      ∙ sum_by-append weight (hand_view before.hand).put put in
      omega (arith, rest.puts weight, put_is, sum_by-cons put_of before befores, sum_by-cons put_of after afters, sum_by-append weight all_put put);
  posts = λ i. post_kept before after taken put moves i ∷ rest.posts i;
}

none_parted : (rule : Goal) → ArePartedInto rule None [] [] [] []
none_parted rule = record {
  parted = λ tuple. refl;
  closed_are = All-nil (λ (box : List (ℕ × ℕ) × Why). IsFromTaken rule None [] box.0);
  put_are = All-nil (PartIn rule None []);
  strange_are = All-nil (IsStrange rule []);
}

-- what workers did together who had closed nothing before
pub record TurnsTogether (rule : Goal) (word : BestWord) (before after : List Worker) : Type 0 where
  pub taken : List Cell
  pub put : List Cell
  pub strange : List Cell
  pub moves : MoveAll (map (λ worker. worker.place) before) (map (λ worker. worker.place) after) taken put
  pub parts : ArePartedInto rule None taken (closed_by after) put strange
  pub tallies : All (λ worker. IsTally rule word worker.tally) after
  pub numbers : (number : ℕ) → times_seated number after ≡ times_seated number before

pub turn_together : (rule : Goal) (word : BestWord) (before after : List Worker) → TurnedAll rule word before after → All (λ worker. (boxes_in_runs worker.tally.closed.items) ≡ []) before
    → TurnsTogether rule word before after
unfolding TurnedAll
turn_together rule word [] [] turned nothing = record {
  taken = [];
  put = [];
  strange = [];
  moves = none_moved;
  parts = none_parted rule;
  tallies = All-nil (λ (w : Worker). IsTally rule word w.tally);
  numbers = λ number. refl;
}
turn_together rule word [] (a ∷ afters) turned nothing = absurd turned
turn_together rule word (b ∷ bs) [] turned nothing = absurd turned
turn_together rule word (b ∷ bs) (a ∷ afters) turned nothing =
    let empty : (boxes_in_runs b.tally.closed.items) ≡ [] = All-head (λ (w : Worker). (boxes_in_runs w.tally.closed.items) ≡ []) b bs nothing in
    let rest = turn_together rule word bs afters turned.1 (All-tail (λ (w : Worker). (boxes_in_runs w.tally.closed.items) ≡ []) b bs nothing) in
    let turn = turned.0.turn in
    let own : (boxes_in_runs a.tally.closed.items) ≡ turn.closed = turn.joined ∙ ap (λ (l : List (List (ℕ × ℕ) × Why)). l ++ turn.closed) empty in
    let both = worked_both rule rest.taken rest.put (closed_by afters) rest.strange turn.taken turn.put turn.closed turn.strange rest.parts turn.parts in
    record {
      taken = rest.taken ++ turn.taken;
      put = rest.put ++ turn.put;
      strange = rest.strange ++ turn.strange;
      moves = one_moved b.place a.place (map place_in bs) (map place_in afters) turn.taken turn.put rest.taken rest.put turn.moves rest.moves;
      parts = subst (λ (l : List (List (ℕ × ℕ) × Why)). ArePartedInto rule None (rest.taken ++ turn.taken) (closed_by afters ++ l) (rest.put ++ turn.put)
          (rest.strange ++ turn.strange)) (sym own) both;
      tallies = All-cons (λ (w : Worker). IsTally rule word w.tally) a afters turned.0.is_tally rest.tallies;
      numbers = λ number.
          let same : times number (view_of a.tally.seat).numbers ≡ times number (view_of b.tally.seat).numbers = ap (times number) turn.numbers in
          omega (
            arith,
            rest.numbers number,
            sum_by-cons (λ (w : Worker). times number (view_of w.tally.seat).numbers) a afters,
            sum_by-cons (λ (w : Worker). times number (view_of w.tally.seat).numbers) b bs,
          );
    }

-- what holds of each of some workers holds of each if they stand the other way round
pub all_reversed : (P : Worker → Type 0) (workers : List Worker) → All P workers → All P (reverse workers)
all_reversed P workers all k d below =
    let long = length-reverse workers in
    let inside : k < length workers = omega arith in
    subst P (sym (get_or-reverse workers k d inside)) (all (length workers - 1 - k) d (omega arith))

-- what each result says of its worker, both the other way round
pub each_reversed : (P : Worker → Result Worker AllocError → Type 0) (workers : List Worker) (results : List (Result Worker AllocError)) → length results ≡ length workers
    → ((k : ℕ) (d : Result Worker AllocError) (e : Worker) → k < length workers → P (get_or (reverse workers) k e) (get_or results k d))
    → (k : ℕ) (d : Result Worker AllocError) (e : Worker) → k < length workers → P (get_or workers k e) (get_or (reverse results) k d)
each_reversed P workers results same each k d e below =
    let at = length workers - 1 - k in
    let inside : at < length workers = omega arith in
    let worker : get_or (reverse workers) at e ≡ get_or workers k e = get_or-reverse workers at e inside ∙ ap (λ (i : ℕ). get_or workers i e) (omega arith) in
    let result : get_or (reverse results) k d ≡ get_or results at d = get_or-reverse results k d (omega arith) ∙ ap (λ (i : ℕ). get_or results i d) (omega arith) in
    subst (λ (w : Worker). P w (get_or (reverse results) k d)) worker (subst (P (get_or (reverse workers) at e)) (sym result) (each at d e inside))

-- what each result of a worker says, where all came back
turned_ok : (rule : Goal) (word : BestWord) (before : List Worker) (results : List (Result Worker AllocError)) (after : List Worker) → length results ≡ length before → results ≡ map Ok after
    → ((k : ℕ) (d : Result Worker AllocError) (e : Worker) → k < length before → IfOk (get_or results k d) (HasTurned rule word (get_or before k e))) → TurnedAll rule word before after
turned_ok rule word before results after same all each =
    let long : length results ≡ length after = ap length all ∙ length-map after Ok in
    turned_each rule word before after (omega arith)
    (λ k d below. subst (λ (r : Result Worker AllocError). IfOk r (HasTurned rule word (get_or before k d))) (ap (λ (l : List (Result Worker AllocError)). get_or l k (Ok d)) all
    ∙ get_or-map Ok after k d (Ok d) (omega arith)) (each k (Ok d) d below))

-- what workers found and did, once they are collected
pub worked_all : (rule : Goal) (word : BestWord) (places after : List Place) (tally tally_after : Tally) (before : List Worker) (results : List (Result Worker AllocError)) → IsTally rule word tally
    → (boxes_in_runs tally.closed.items) ≡ [] → AreSeated word places tally before → length results ≡ length before
    → ((k : ℕ) (d : Result Worker AllocError) (e : Worker) → k < length before → IfOk (get_or results k d) (HasTurned rule word (get_or before k e))) → Collects word results after tally_after
    → IsTally rule word tally_after × WorkedAll rule places after tally tally_after
worked_all rule word places after tally tally_after before results is empty seated same each collects =
    let all = turn_together rule word before collects.workers (turned_ok rule word before results collects.workers same collects.all_worked each) (seated.nothing empty) in (
      collects.is_tally rule all.tallies,
      record {
        taken = all.taken;
        put = all.put;
        strange = all.strange;
        moves = subst (λ (l : List Place). MoveAll l after all.taken all.put) seated.places_are
            (subst (λ (l : List Place). MoveAll (map place_in before) l all.taken all.put) (sym collects.places_are) all.moves);
        parts = subst (λ (l : List (List (ℕ × ℕ) × Why)). ArePartedInto rule None all.taken l all.put all.strange) (sym collects.closed) all.parts;
        numbers = λ number. collects.numbers number ∙ all.numbers number ∙ seated.numbers number;
      },
    )

-- the same, where the workers and their results stood the other way round in between
pub worked_turned : (rule : Goal) (word : BestWord) (places after : List Place) (tally tally_after : Tally) (before jobs : List Worker) (worked results : List (Result Worker AllocError))
    → IsTally rule word tally → (boxes_in_runs tally.closed.items) ≡ [] → AreSeated word places tally before → jobs ≡ reverse before → results ≡ reverse worked → length worked ≡ length jobs
    → ((k : ℕ) (d : Result Worker AllocError) (e : Worker) → k < length jobs → IfOk (get_or worked k d) (HasTurned rule word (get_or jobs k e))) → Collects word results after tally_after
    → IsTally rule word tally_after × WorkedAll rule places after tally tally_after
worked_turned rule word places after tally tally_after before jobs worked results is empty seated turned turned_back same each collects =
    let P : Worker → Result Worker AllocError → Type 0 = λ w r. IfOk r (HasTurned rule word w) in
    let long : length jobs ≡ length before = ap length turned ∙ length-reverse before in
    let back : length results ≡ length worked = ap length turned_back ∙ length-reverse worked in
    let met = each_reversed P before worked (omega arith)
    (λ k d e below. subst (λ (l : List Worker). P (get_or l k e) (get_or worked k d)) turned (each k d e (omega arith))) in
    worked_all rule word places after tally tally_after before results is empty seated (omega arith)
    (λ k d e below. subst (λ (l : List (Result Worker AllocError)). P (get_or before k e) (get_or l k d)) (sym turned_back) (met k d e below)) collects
