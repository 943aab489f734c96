-- What workers leave parts the whole cell, and what is answered once it is searched to its end.
use Rattle.std.proofs.Common.{◌≡◌, ◌∙◌, sym, ap, refl, subst, ℕ, ◌+◌, ◌<◌, ◌≤◌, List, [], ◌∷◌, ◌++◌, length, get_or, map, arith}
use Rattle.std.specs.Prelude.{All, Contains, IfSome, IsPermutation, Option, Some, None, option_map, slice_get}
use Rattle.std.specs.List.{flat_map, sum_by}
use Rattle.std.specs.Option.{option_to_list}
use Rattle.std.proofs.lemmas.Grind.{flat_map-append}
use Rattle.std.proofs.lemmas.List.{append-nil, get_or-map, length-map, map-append}
use Rattle.std.proofs.lemmas.List.Elements.{All-append, All-contains, All-cons, All-map, All-nil, All-weaker}
use Rattle.std.proofs.lemmas.List.Sorted.{All-permutation, Contains-permutation, IsPermutation-append_left, IsPermutation-sym, IsPermutation-trans}
use Rattle.std.proofs.lemmas.List.Sums.{sum_by-append}
use Rattle.std.proofs.lemmas.Option.{slice_get-get_or, slice_get_within}
use Rattle.gl_box.specs.declared.cell.Cell.{Cell}
use Rattle.gl_box.specs.declared.closed.Closed.{Closed}
use Rattle.gl_box.specs.declared.closed.Why.{Why}
use Rattle.gl_box.specs.Cell.{spans_of}
use Rattle.gl_box.specs.Closed.{box_of}
use Rattle.gl_box.specs.Frontier.{IsNode, mult}
use Rattle.gl_box.proofs.Parts.{mult-append}
use Rattle.gl_goal.specs.Goal.{Goal, IsReached, whole_cell}
use Rattle.gl_goal.specs.Certificate.{IsClosedFor}
use Rattle.gl_goal.specs.declared.best.Best.{Best}
use Rattle.gl_replay.specs.declared.machine.Machine.{Machine}
use Rattle.gl_replay.specs.declared.replayed.Left.{Left}
use Rattle.gl_replay.specs.declared.replayed.Replayed.{Replayed}
use Rattle.gl_replay.specs.declared.schedule.Step.{Step}
use Rattle.gl_replay.specs.declared.worker.Worker as code
use Rattle.gl_plain.specs.declared.part.Part.{Part}
use Rattle.gl_plain.specs.declared.part.Part.TheVariants.{Open, Done}
use Rattle.gl_plain.specs.Parts.{IsDoneFor, IsFinished, cell_of}
use Rattle.gl_replay.specs.Code.Parts.{done, done_in, opened, opened_in, parts_left}
use Rattle.gl_replay.specs.Machine.{Runs, State, Worker, closed_in, open_cells, open_in, start}
use Rattle.gl_order.specs.Order.{AreParts}
use Rattle.gl_replay.specs.Code.Workers.{IsLeft, kept_of, state_of, worker_of, workers_of}
use Rattle.gl_replay.specs.Replayed.{IsReplay, LiesInOne}
use Rattle.gl_replay.specs.Safe.{IsKept, IsSafe, IsSafeWorker, worker_cells}
use Rattle.gl_goal.specs.Best.{IsNoLess, IsSound, total_of}
use Rattle.gl_replay.proofs.Gathered.{all_flat}
use Rattle.gl_replay.proofs.Machines.{closed_few, closed_seen, runs_safe, start_safe}
use Rattle.gl_replay.proofs.Outcome.{runs_one}
use Rattle.gl_order.proofs.Flat.{flat-permutation}
use Rattle.gl_plain.proofs.GivenWay.{joined}
use Rattle.gl_replay.proofs.Apart.{All_done, All_parts, apart, mult_parts}
use Rattle.gl_goal.proofs.Totals.{less_through}
use Rattle.gl_text.proofs.Lists.{All-unmap}

abbrev Box : Type 0
Box = List (ℕ × ℕ) × Why

same_some : {X : Type 0} (a b : X) → Some a ≡ Some b → a ≡ b
same_some a b same = cc

-- what was kept is sound, and worth what the best word says

kept_sound : (rule : Goal) (kept : Option Best) → IfSome (kept_of kept) (λ k. IsReached rule k.0 k.1) → IsSound rule kept
kept_sound rule None reached = tt
kept_sound rule (Some best) reached = reached

worker_sound : (rule : Goal) (workers : List code.Worker) (word : Option ℕ) → All (IsSafeWorker rule word) (workers_of workers) → All (λ kept. IsSound rule kept) (map (λ worker. worker.kept) workers)
worker_sound rule workers word safe =
    All-map (λ (kept : Option Best). IsSound rule kept) (λ (worker : code.Worker). worker.kept) workers
    (All-weaker (λ (worker : code.Worker). IsSafeWorker rule word (worker_of worker)) (λ (worker : code.Worker). IsSound rule worker.kept) (λ worker one. kept_sound rule worker.kept one.kept) workers
    (All-unmap (IsSafeWorker rule word) worker_of workers safe))

best_sound : (rule : Goal) (kept : List (Option Best)) (best : Option Best) → All (λ k. IsSound rule k) kept → IfSome best (λ b. Contains kept (Some b)) → IsSound rule best
best_sound rule kept None sound among = tt
best_sound rule kept (Some best) sound among = All-contains (λ (k : Option Best). IsSound rule k) kept (Some best) sound among

kept_total : (kept : Option Best) (total : ℕ) (tuple : List ℕ) → kept_of kept ≡ Some (total, tuple) → total_of kept ≡ Some total
kept_total None total tuple is = ap (option_map (λ (pair : ℕ × List ℕ). pair.0)) is
kept_total (Some best) total tuple is = ap (option_map (λ (pair : ℕ × List ℕ). pair.0)) is

-- what some worker kept is no more than the best that was kept
kept_known : (workers : List code.Worker) (best : Option Best) (total : ℕ) → IsKept (workers_of workers) total → All (λ worker. IsNoLess (total_of worker.kept) (total_of best)) workers
    → IsNoLess (Some total) (total_of best)
kept_known [] best total is no_less = absurd (omega (arith, slice_get_within (workers_of []) is.number is.worker is.there))
kept_known (w ∷ ws) best total is no_less =
    let workers = w ∷ ws in
    let inside : is.number < length (workers_of workers) = slice_get_within (workers_of workers) is.number is.worker is.there in
    let below : is.number < length workers = omega (arith, inside, length-map workers worker_of) in
    let at = get_or workers is.number w in
    let there : slice_get (workers_of workers) is.number ≡ Some (worker_of at) = slice_get-get_or (workers_of workers) is.number (worker_of w) inside
    ∙ ap Some (get_or-map worker_of workers is.number w (worker_of w) below) in
    let same = same_some (is.worker) (worker_of at) (sym is.there ∙ there) in
    let kept : kept_of at.kept ≡ Some (total, is.tuple) = ap (λ (one : Worker). one.kept) (sym same) ∙ is.kept in
    subst (λ (t : Option ℕ). IsNoLess t (total_of best)) (kept_total at.kept total is.tuple kept) (no_less is.number w below)

word_known : (word known : Option ℕ) → ((total : ℕ) → word ≡ Some total → IsNoLess (Some total) known) → IsNoLess word known
word_known None known kept = tt
word_known (Some total) known kept = kept total refl

-- the open and the closed cells of workers, part by part

opened_done : (boxes : List Closed) → opened_in (map Done boxes) ≡ []
opened_done [] = refl
opened_done (box ∷ boxes) = opened_done boxes

opened_open : (cells : List Cell) → opened_in (map Open cells) ≡ map spans_of cells
opened_open [] = refl
opened_open (cell ∷ cells) = ap (λ (rest : List (List (ℕ × ℕ))). spans_of cell ∷ rest) (opened_open cells)

done_done : (boxes : List Closed) → done_in (map Done boxes) ≡ map box_of boxes
done_done [] = refl
done_done (box ∷ boxes) = ap (λ (rest : List Box). box_of box ∷ rest) (done_done boxes)

done_open : (cells : List Cell) → done_in (map Open cells) ≡ []
done_open [] = refl
done_open (cell ∷ cells) = done_open cells

hand_of : (hand : Option Cell) → map spans_of (option_to_list hand) ≡ option_to_list (option_map spans_of hand)
hand_of None = refl
hand_of (Some cell) = refl

opened_left : (worker : code.Worker) → opened_in (parts_left worker) ≡ open_cells (worker_of worker)
opened_left worker =
    let closed = map Done worker.closed.items in
    let deque = map Open worker.deque.items in
    let hand = map Open (option_to_list worker.hand) in
    flat_map-append opened closed (deque ++ hand)
    ∙ ap (λ (cells : List (List (ℕ × ℕ))). cells ++ opened_in (deque ++ hand)) (opened_done worker.closed.items)
    ∙ flat_map-append opened deque hand
    ∙ ap (λ (cells : List (List (ℕ × ℕ))). cells ++ opened_in hand) (opened_open worker.deque.items)
    ∙ ap (λ (cells : List (List (ℕ × ℕ))). map spans_of worker.deque.items ++ cells) (opened_open (option_to_list worker.hand) ∙ hand_of worker.hand)

done_left : (worker : code.Worker) → done_in (parts_left worker) ≡ (worker_of worker).closed
done_left worker =
    let closed = map Done worker.closed.items in
    let deque = map Open worker.deque.items in
    let hand = map Open (option_to_list worker.hand) in
    let none : done_in (deque ++ hand) ≡ [] = flat_map-append done deque hand
    ∙ ap (λ (boxes : List Box). boxes ++ done_in hand) (done_open worker.deque.items)
    ∙ done_open (option_to_list worker.hand) in
    flat_map-append done closed (deque ++ hand)
    ∙ ap (λ (boxes : List Box). done_in closed ++ boxes) none
    ∙ append-nil (done_in closed)
    ∙ done_done worker.closed.items

opened_all : (workers : List code.Worker) → opened_in (flat_map parts_left workers) ≡ flat_map open_cells (workers_of workers)
opened_all [] = refl
opened_all (worker ∷ workers) = flat_map-append opened (parts_left worker) (flat_map parts_left workers)
    ∙ ap (λ (cells : List (List (ℕ × ℕ))). cells ++ opened_in (flat_map parts_left workers)) (opened_left worker)
    ∙ ap (λ (cells : List (List (ℕ × ℕ))). open_cells (worker_of worker) ++ cells) (opened_all workers)

done_all : (workers : List code.Worker) → done_in (flat_map parts_left workers) ≡ flat_map (λ (worker : Worker). worker.closed) (workers_of workers)
done_all [] = refl
done_all (worker ∷ workers) = flat_map-append done (parts_left worker) (flat_map parts_left workers)
    ∙ ap (λ (boxes : List Box). boxes ++ done_in (flat_map parts_left workers)) (done_left worker)
    ∙ ap (λ (boxes : List Box). (worker_of worker).closed ++ boxes) (done_all workers)

pub left_by : (rule : Goal) (workers : ℕ) (steps : List Step) (machine : Machine) (left : Left) (shown : List code.Worker) → Runs rule (start rule workers) steps (state_of machine)
    → shown ≡ machine.workers.items → left.parts.items ≡ flat_map parts_left shown
    → IfSome left.known (λ best. Contains (map (λ worker. worker.kept) shown) (Some best)) → All (λ worker. IsNoLess (total_of worker.kept) (total_of left.known)) shown
    → IsLeft rule workers steps left
left_by rule workers steps machine left shown after is parts among no_less =
    let items = machine.workers.items in
    let safe = runs_safe rule steps (start rule workers) (state_of machine) after (start_safe rule workers) in
    let kept = subst (λ (ws : List code.Worker). IfSome left.known (λ best. Contains (map (λ (w : code.Worker). w.kept) ws) (Some best))) is among in
    let least = subst (All (λ (w : code.Worker). IsNoLess (total_of w.kept) (total_of left.known))) is no_less in
    record {
      state = state_of machine;
      after = after;
      open_ = ap opened_in parts ∙ opened_all shown ∙ ap (λ (ws : List code.Worker). flat_map open_cells (workers_of ws)) is;
      closed = ap done_in parts ∙ done_all shown ∙ ap (λ (ws : List code.Worker). flat_map (λ (w : Worker). w.closed) (workers_of ws)) is;
      sound = best_sound rule (map (λ (w : code.Worker). w.kept) items) left.known (worker_sound rule items machine.word safe.workers) kept;
      known = word_known machine.word (total_of left.known) (λ total word. kept_known items left.known total (safe.word total word) least);
    }

-- what the cells of a safe machine are

hand_node : (P : List (ℕ × ℕ) → Type 0) (hand : Option (List (ℕ × ℕ))) → IfSome hand P → All P (option_to_list hand)
hand_node P None node = All-nil P
hand_node P (Some cell) node = All-cons P cell [] node (All-nil P)

left_safe : (rule : Goal) (workers : ℕ) (steps : List Step) (left : Left) (of : IsLeft rule workers steps left) → IsSafe rule of.state
left_safe rule workers steps left of = runs_safe rule steps (start rule workers) of.state of.after (start_safe rule workers)

open_nodes : (rule : Goal) (state : State) → IsSafe rule state → All (IsNode (whole_cell rule.axes)) (open_in state)
open_nodes rule state safe =
    let node = IsNode (whole_cell rule.axes) in
    all_flat node open_cells state.workers
    (All-weaker (IsSafeWorker rule state.word) (λ (w : Worker). All node (open_cells w))
    (λ w one. All-append node w.deque (option_to_list w.hand) one.deque (hand_node node w.hand one.hand)) state.workers safe.workers)

closed_nodes : (rule : Goal) (state : State) → IsSafe rule state → All (λ box. IsNode (whole_cell rule.axes) box.0) (closed_in state)
closed_nodes rule state safe =
    let node : Box → Type 0 = λ box. IsNode (whole_cell rule.axes) box.0 in
    all_flat node (λ (w : Worker). w.closed) state.workers
    (All-weaker (IsSafeWorker rule state.word) (λ (w : Worker). All node w.closed) (λ w one. one.boxes) state.workers safe.workers)

closed_for : (rule : Goal) (state : State) (total : Option ℕ) → IsSafe rule state → IsNoLess state.word total → All (λ box. IsClosedFor rule total box.0 box.1) (closed_in state)
closed_for rule state total safe more =
    let for : Box → Type 0 = λ box. IsClosedFor rule total box.0 box.1 in
    all_flat for (λ (w : Worker). w.closed) state.workers
    (All-weaker (IsSafeWorker rule state.word) (λ (w : Worker). All for w.closed)
    (λ w one. closed_seen rule w.seen total w.closed (less_through w.seen state.word total one.seen more) one.closed) state.workers safe.workers)

-- the open and the closed cells of all workers hold a tuple as often as the workers
parts_mult : (workers : List Worker) (tuple : List ℕ) → sum_by (λ (w : Worker). mult (worker_cells w) tuple) workers
    ≡ mult (flat_map open_cells workers) tuple + mult (map (λ (box : Box). box.0) (flat_map (λ (w : Worker). w.closed) workers)) tuple
parts_mult [] tuple = refl
parts_mult (w ∷ ws) tuple =
    let f : Worker → ℕ = λ worker. mult (worker_cells worker) tuple in
    let cell : Box → List (ℕ × ℕ) = λ box. box.0 in
    let closed = flat_map (λ (v : Worker). v.closed) ws in
    let one : sum_by f (w ∷ []) ≡ 0 + f w = refl in
    omega (
      arith,
      sum_by-append f (w ∷ []) ws,
      one,
      parts_mult ws tuple,
      mult-append (open_cells w) (flat_map open_cells ws) tuple,
      mult-append (open_cells w) (map cell w.closed) tuple,
      ap (λ (cells : List (List (ℕ × ℕ))). mult cells tuple) (map-append cell w.closed closed),
      mult-append (map cell w.closed) (map cell closed) tuple,
    )

-- what workers left parts the whole cell, and each closed cell is closed for what is known

left_nodes : (rule : Goal) (workers : ℕ) (steps : List Step) (left : Left) → IsLeft rule workers steps left → All (λ part. IsNode (whole_cell rule.axes) (cell_of part)) left.parts.items
left_nodes rule workers steps left of =
    let node = IsNode (whole_cell rule.axes) in
    let safe = left_safe rule workers steps left of in
    All_parts node left.parts.items (subst (All node) (sym of.open_) (open_nodes rule of.state safe)) (subst (All (λ (box : Box). node box.0)) (sym of.closed) (closed_nodes rule of.state safe))

pub left_parts : (rule : Goal) (workers : ℕ) (steps : List Step) (left : Left) → IsLeft rule workers steps left → AreParts (whole_cell rule.axes) (map cell_of left.parts.items)
left_parts rule workers steps left of = record {
  nodes = All-map (IsNode (whole_cell rule.axes)) cell_of left.parts.items (left_nodes rule workers steps left of);
  once = λ tuple held.
      let hold : List (List (ℕ × ℕ)) → ℕ = λ cells. mult cells tuple in
      omega (
        arith,
        mult_parts left.parts.items tuple,
        ap hold of.open_,
        ap (λ (boxes : List Box). hold (map (λ (box : Box). box.0) boxes)) of.closed,
        parts_mult of.state.workers tuple,
        (left_safe rule workers steps left of).once tuple held,
      );
}

pub ordered_done : (rule : Goal) (workers : ℕ) (steps : List Step) (left : Left) (ordered : List Part) → IsLeft rule workers steps left → IsPermutation left.parts.items ordered
    → All (IsDoneFor rule (total_of left.known)) ordered
ordered_done rule workers steps left ordered of moved =
    let for : Box → Type 0 = λ box. IsClosedFor rule (total_of left.known) box.0 box.1 in
    let closed = subst (All for) (sym of.closed) (closed_for rule of.state (total_of left.known) (left_safe rule workers steps left of) of.known) in
    All-permutation (IsDoneFor rule (total_of left.known)) left.parts.items ordered moved (All_done rule (total_of left.known) left.parts.items closed)

-- what is answered

pub replay_made : (rule : Goal) (workers : ℕ) (steps : List Step) (left : Left) (ordered : List Part) (replayed : Replayed) → IsLeft rule workers steps left
    → IsPermutation left.parts.items ordered → IsFinished rule ordered left.known replayed.found → replayed.by_steps ≡ length (done_in left.parts.items) → IsReplay rule workers steps replayed
replay_made rule workers steps left ordered replayed of moved end count =
    let split = apart ordered end.gave.lists end.gave.each in
    let done_moved = flat-permutation done left.parts.items ordered moved in
    let opened_moved = flat-permutation opened left.parts.items ordered moved in
    let all = joined end.gave.lists in
    let joined_ : IsPermutation (done_in left.parts.items ++ split.finished) all =
    IsPermutation-trans (done_in left.parts.items ++ split.finished) (done_in ordered ++ split.finished) all
    (IsPermutation-append_left split.finished (done_in left.parts.items) (done_in ordered) done_moved) split.boxes_are in
    record {
      state = of.state;
      after = of.after;
      safe = left_safe rule workers steps left of;
      only = λ other also. runs_one rule steps (start rule workers) other of.state also of.after;
      finished = split.finished;
      boxes = subst (IsPermutation (closed_in of.state ++ split.finished)) (sym end.gave.all) (subst (λ (cs : List Box). IsPermutation (cs ++ split.finished) all) of.closed joined_);
      inside = All-weaker (λ (box : Box). LiesInOne (opened_in ordered) box.0) (λ (box : Box). LiesInOne (open_in of.state) box.0)
          (λ box lies.
          let back = Contains-permutation (opened_in ordered) (opened_in left.parts.items) lies.0 (IsPermutation-sym (opened_in left.parts.items) (opened_in ordered) opened_moved) lies.1 in
          (lies.0, subst (λ (cells : List (List (ℕ × ℕ))). Contains cells lies.0) of.open_ back, lies.2))
          split.finished split.inside;
      by_steps = count ∙ ap length of.closed;
    }

-- the steps close no more cells than there are steps
pub left_few : (rule : Goal) (workers : ℕ) (steps : List Step) (left : Left) → IsLeft rule workers steps left → length (done_in left.parts.items) ≤ length steps
left_few rule workers steps left of = omega (arith, closed_few rule workers steps of.state of.after, ap length of.closed)
