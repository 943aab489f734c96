-- No step of the machine loses a choice, holds one twice, or closes a cell wrongly.
use Rattle.std.proofs.Common.{◌≡◌, ◌≢◌, ◌∙◌, sym, ap, refl, subst, inl, inr, ℕ, ◌+◌, ◌-◌, ◌*◌, ◌<◌, ◌≤◌, List, [], ◌∷◌, ◌++◌, length, map, replicate, slice_set, arith}
use Rattle.std.specs.Prelude.{All, IfSome, Option, Some, None, max, slice_get}
use Rattle.std.specs.List.{sum_by}
use Rattle.std.specs.Option.{option_to_list}
use Rattle.std.proofs.lemmas.Bool.{cases_eq, cases_lt}
use Rattle.std.proofs.lemmas.List.{get_or-set_other, get_or-set_same, length-set, length_push, map-append}
use Rattle.std.proofs.lemmas.List.Concat.{length-flat_map}
use Rattle.std.proofs.lemmas.List.Elements.{All-cons, All-head, All-nil, All-pop, All-push, All-replicate, All-set, All-tail, All-weaker}
use Rattle.std.proofs.lemmas.List.Folds.{sum_by-replicate}
use Rattle.std.proofs.lemmas.List.Sums.{sum_by-append, sum_by-set}
use Rattle.std.proofs.lemmas.Option.{get_or_from_slice_get, slice_get-get_or, slice_get_within}
use Rattle.gl_box.specs.declared.closed.Why.{Why}
use Rattle.gl_box.specs.declared.closed.Why.TheVariants.{Disordered, Shut, Bound}
use Rattle.gl_box.specs.Frontier.{IsNode, mult}
use Rattle.gl_box.specs.Frontier.IsFrontier.{alone}
use Rattle.gl_box.specs.Frontier.IsNode.{whole, half}
use Rattle.gl_box.proofs.Parts.{mult-append, mult-halves, mult-held}
use Rattle.gl_goal.specs.Goal.{Goal, whole_cell}
use Rattle.gl_goal.specs.Certificate.{IsClosedFor}
use Rattle.gl_replay.specs.declared.schedule.Step.{Step}
use Rattle.gl_replay.specs.declared.schedule.Step.TheVariants.{Take, Steal, Split, Close, Look, Raise}
use Rattle.gl_replay.specs.Machine.{Acts, Closes, IsFirstReason, Keeps, Looks, Makes, Moves, Runs, Splits, State, Steals, Takes, Worker, closed_in, greater, idle, open_cells, start}
use Rattle.gl_replay.specs.Safe.{IsKept, IsSafe, IsSafeWorker, worker_cells}
use Rattle.gl_goal.specs.Best.{IsNoLess}
use Rattle.gl_plain.proofs.Stack.{closed_longer}
use Rattle.gl_goal.proofs.Totals.{less_self, less_through}

abbrev Box : Type 0
Box = List (ℕ × ℕ) × Why

abbrev node_of : Goal → List (ℕ × ℕ) → Type 0
node_of rule = IsNode (whole_cell rule.axes)

-- totals that were found

less_greater : (found : Option ℕ) (total : ℕ) → IsNoLess found (greater found total)
less_greater None total = tt
less_greater (Some found) total = omega arith

total_greater : (found : Option ℕ) (total : ℕ) → IsNoLess (Some total) (greater found total)
total_greater None total = omega arith
total_greater (Some found) total = omega arith

greater_both : (a b : Option ℕ) (total : ℕ) → IsNoLess a b → IsNoLess (greater a total) (greater b total)
greater_both None None total low = omega arith
greater_both None (Some b) total low = omega arith
greater_both (Some a) None total low = absurd low
greater_both (Some a) (Some b) total low = omega arith

-- workers of a list of which one changes

there_at : {X : Type 0} (P : X → Type 0) (xs : List X) (n : ℕ) (x : X) → slice_get xs n ≡ Some x → All P xs → P x
there_at P xs n x there all =
    subst P (get_or_from_slice_get xs n x x there) (all n x (slice_get_within xs n x there))

set_there : {X : Type 0} (xs : List X) (n : ℕ) (x y : X) → slice_get xs n ≡ Some x → slice_get (slice_set xs n y) n ≡ Some y
set_there xs n x y there =
    let below = slice_get_within xs n x there in
    slice_get-get_or (slice_set xs n y) n y (omega (arith, length-set xs n y)) ∙ ap Some (get_or-set_same xs n y y below)

set_apart : {X : Type 0} (xs : List X) (n k : ℕ) (x y : X) → slice_get xs k ≡ Some x → k ≢ n → slice_get (slice_set xs n y) k ≡ Some x
set_apart xs n k x y there other =
    let below = slice_get_within xs k x there in
    slice_get-get_or (slice_set xs n y) k x (omega (arith, length-set xs n y)) ∙ ap Some (get_or-set_other xs n k y x other ∙ get_or_from_slice_get xs k x x there)

sum_acts : (f : Worker → ℕ) (workers : List Worker) (number : ℕ) (old new : Worker) → slice_get workers number ≡ Some old → sum_by f (slice_set workers number new) + f old ≡ sum_by f workers + f new
sum_acts f workers number old new there =
    omega (arith, sum_by-set f workers number new old (slice_get_within workers number old there), ap f (get_or_from_slice_get workers number old old there))

kept_acts : (workers : List Worker) (number : ℕ) (old new : Worker) (total : ℕ) → slice_get workers number ≡ Some old → new.kept ≡ old.kept → IsKept workers total
    → IsKept (slice_set workers number new) total
kept_acts workers number old new total there same is = elim (cases_eq is.number number) [
  | inl here ↦
      let one : Some is.worker ≡ Some old = sym is.there ∙ ap (slice_get workers) here ∙ there in
      let worker : is.worker ≡ old = cc in
      record { number = number; worker = new; tuple = is.tuple; there = set_there workers number old new there; kept = same ∙ ap (λ (w : Worker). w.kept) (sym worker) ∙ is.kept }
  | inr apart ↦
      record { number = is.number; worker = is.worker; tuple = is.tuple; there = set_apart workers number is.number is.worker new is.there apart; kept = is.kept }
]

-- how often a worker holds a tuple

mult_cells : (worker : Worker) (tuple : List ℕ) → mult (worker_cells worker) tuple
    ≡ mult worker.deque tuple + mult (option_to_list worker.hand) tuple + mult (map (λ (box : Box). box.0) worker.closed) tuple
mult_cells worker tuple =
    omega (arith, mult-append (open_cells worker) (map (λ (box : Box). box.0) worker.closed) tuple, mult-append worker.deque (option_to_list worker.hand) tuple)

takes_mult : (before after : Worker) (tuple : List ℕ) → Takes before after → mult (worker_cells after) tuple ≡ mult (worker_cells before) tuple
takes_mult before after tuple takes =
    let done : Worker = record before { deque = takes.rest; hand = Some takes.cell } in
    omega (
      arith,
      ap (λ (w : Worker). mult (worker_cells w) tuple) takes.is,
      mult_cells before tuple,
      mult_cells done tuple,
      ap (λ (cells : List (List (ℕ × ℕ))). mult cells tuple) takes.last,
      ap (λ (hand : Option (List (ℕ × ℕ))). mult (option_to_list hand) tuple) takes.empty,
      mult-append takes.rest (takes.cell ∷ []) tuple,
    )

splits_mult : (before after : Worker) (tuple : List ℕ) → Splits before after → mult (worker_cells after) tuple ≡ mult (worker_cells before) tuple
splits_mult before after tuple splits =
    let done : Worker = record before { deque = before.deque ++ splits.upper ∷ []; hand = Some splits.lower } in
    omega (
      arith,
      ap (λ (w : Worker). mult (worker_cells w) tuple) splits.is,
      mult_cells before tuple,
      mult_cells done tuple,
      ap (λ (hand : Option (List (ℕ × ℕ))). mult (option_to_list hand) tuple) splits.held,
      mult-append before.deque (splits.upper ∷ []) tuple,
      mult-halves splits.cell splits.lower splits.upper tuple splits.halves,
    )

closes_mult : (rule : Goal) (before after : Worker) (tuple : List ℕ) → Closes rule before after → mult (worker_cells after) tuple ≡ mult (worker_cells before) tuple
closes_mult rule before after tuple closes =
    let box : Box = (closes.cell, closes.why) in
    let done : Worker = record before { hand = None; closed = before.closed ++ box ∷ [] } in
    omega (
      arith,
      ap (λ (w : Worker). mult (worker_cells w) tuple) closes.is,
      mult_cells before tuple,
      mult_cells done tuple,
      ap (λ (hand : Option (List (ℕ × ℕ))). mult (option_to_list hand) tuple) closes.held,
      ap (λ (cells : List (List (ℕ × ℕ))). mult cells tuple) (map-append (λ (b : Box). b.0) before.closed (box ∷ [])),
      mult-append (map (λ (b : Box). b.0) before.closed) (closes.cell ∷ []) tuple,
    )

looks_mult : (word : Option ℕ) (before after : Worker) (tuple : List ℕ) → Looks word before after → mult (worker_cells after) tuple ≡ mult (worker_cells before) tuple
looks_mult word before after tuple looks = ap (λ (w : Worker). mult (worker_cells w) tuple) looks

keeps_mult : (rule : Goal) (total : ℕ) (before after : Worker) (tuple : List ℕ) → Keeps rule total before after → mult (worker_cells after) tuple ≡ mult (worker_cells before) tuple
keeps_mult rule total before after tuple keeps = ap (λ (w : Worker). mult (worker_cells w) tuple) keeps.is

-- a worker stays safe

some_is : {X : Type 0} (P : X → Type 0) (o : Option X) (x : X) → o ≡ Some x → IfSome o P → P x
some_is P o x is holds = subst (λ (p : Option _). IfSome p P) is holds

takes_safe : (rule : Goal) (word : Option ℕ) (before after : Worker) → Takes before after → IsSafeWorker rule word before → IsSafeWorker rule word after
takes_safe rule word before after takes safe =
    let parts = All-pop (node_of rule) before.deque takes.rest (Some takes.cell) takes.last safe.deque in
    subst (IsSafeWorker rule word) (sym takes.is) (record {
      deque = parts.0;
      hand = parts.1;
      boxes = safe.boxes;
      closed = safe.closed;
      seen = safe.seen;
      kept = safe.kept;
      within = safe.within;
    })

splits_safe : (rule : Goal) (word : Option ℕ) (before after : Worker) → Splits before after → IsSafeWorker rule word before → IsSafeWorker rule word after
splits_safe rule word before after splits safe =
    let node = some_is (node_of rule) before.hand splits.cell splits.held safe.hand in
    let low : node_of rule splits.lower = half (whole_cell rule.axes) splits.cell splits.lower node
    (record { lower = splits.lower; upper = splits.upper; halves = splits.halves; either = inl refl }) in
    let high : node_of rule splits.upper = half (whole_cell rule.axes) splits.cell splits.upper node
    (record { lower = splits.lower; upper = splits.upper; halves = splits.halves; either = inr refl }) in
    subst (IsSafeWorker rule word) (sym splits.is) (record {
      deque = All-push (node_of rule) before.deque splits.upper safe.deque high;
      hand = low;
      boxes = safe.boxes;
      closed = safe.closed;
      seen = safe.seen;
      kept = safe.kept;
      within = safe.within;
    })

reason_closes : (rule : Goal) (total : Option ℕ) (cell : List (ℕ × ℕ)) (why : Why) → IsFirstReason rule total cell why → IsClosedFor rule total cell why
reason_closes rule total cell Disordered reason = reason
reason_closes rule total cell Shut reason = reason.1
reason_closes rule total cell Bound reason = reason.1

closes_safe : (rule : Goal) (word : Option ℕ) (before after : Worker) → Closes rule before after → IsSafeWorker rule word before → IsSafeWorker rule word after
closes_safe rule word before after closes safe =
    let node = some_is (node_of rule) before.hand closes.cell closes.held safe.hand in
    subst (IsSafeWorker rule word) (sym closes.is) (record {
      deque = safe.deque;
      hand = tt;
      boxes = All-push (λ (box : Box). node_of rule box.0) before.closed (closes.cell, closes.why) safe.boxes node;
      closed = All-push (λ (box : Box). IsClosedFor rule before.seen box.0 box.1) before.closed (closes.cell, closes.why) safe.closed
          (reason_closes rule before.seen closes.cell closes.why closes.reason);
      seen = safe.seen;
      kept = safe.kept;
      within = safe.within;
    })

pub closed_seen : (rule : Goal) (seen more : Option ℕ) (boxes : List Box) → IsNoLess seen more → All (λ box. IsClosedFor rule seen box.0 box.1) boxes
    → All (λ box. IsClosedFor rule more box.0 box.1) boxes
closed_seen rule seen more boxes no_less closed = λ k d below. closed_longer rule seen more _ _ no_less (closed k d below)

looks_safe : (rule : Goal) (word : Option ℕ) (before after : Worker) → Looks word before after → IsSafeWorker rule word before → IsSafeWorker rule word after
looks_safe rule word before after looks safe = subst (IsSafeWorker rule word) (sym looks) (record {
  deque = safe.deque;
  hand = safe.hand;
  boxes = safe.boxes;
  closed = closed_seen rule before.seen word before.closed safe.seen safe.closed;
  seen = less_self word;
  kept = safe.kept;
  within = safe.within;
})

keeps_safe : (rule : Goal) (word : Option ℕ) (total : ℕ) (before after : Worker) → Keeps rule total before after → IsSafeWorker rule word before → IsSafeWorker rule (greater word total) after
keeps_safe rule word total before after keeps safe = subst (IsSafeWorker rule (greater word total)) (sym keeps.is) (record {
  deque = safe.deque;
  hand = safe.hand;
  boxes = safe.boxes;
  closed = closed_seen rule before.seen (greater before.seen total) before.closed (less_greater before.seen total) safe.closed;
  seen = greater_both before.seen word total safe.seen;
  kept = keeps.reached;
  within = total_greater word total;
})

within_more : (kept : Option (ℕ × List ℕ)) (word more : Option ℕ) → IsNoLess word more → IfSome kept (λ kept. IsNoLess (Some kept.0) word) → IfSome kept (λ kept. IsNoLess (Some kept.0) more)
within_more None word more no_less within = tt
within_more (Some kept) word more no_less within = less_through (Some kept.0) word more within no_less

-- where the best word rises
word_safe : (rule : Goal) (word more : Option ℕ) (worker : Worker) → IsNoLess word more → IsSafeWorker rule word worker → IsSafeWorker rule more worker
word_safe rule word more worker no_less safe = record {
  deque = safe.deque;
  hand = safe.hand;
  boxes = safe.boxes;
  closed = safe.closed;
  seen = less_through worker.seen word more safe.seen no_less;
  kept = safe.kept;
  within = within_more worker.kept word more no_less safe.within;
}

-- the machine stays safe

acts_safe : (rule : Goal) (Act : Worker → Worker → Type 0) (number : ℕ) (before after : State)
    → ((old new : Worker) (tuple : List ℕ) → Act old new → mult (worker_cells new) tuple ≡ mult (worker_cells old) tuple)
    → ((old new : Worker) → Act old new → IsSafeWorker rule before.word old → IsSafeWorker rule before.word new) → ((old new : Worker) → Act old new → new.kept ≡ old.kept)
    → Acts Act number before.workers after.workers × (after.word ≡ before.word) → IsSafe rule before → IsSafe rule after
acts_safe rule Act number before after same stays keeps (acts, word) safe =
    let old = there_at (IsSafeWorker rule before.word) before.workers number acts.worker acts.there safe.workers in
    let P : List Worker → Option ℕ → Type 0 = λ workers w. IsSafe rule (record { workers = workers; word = w }) in
    let made : P (slice_set before.workers number acts.changed) before.word = record {
      once = λ tuple held.
          let sum = sum_acts (λ worker. mult (worker_cells worker) tuple) before.workers number acts.worker acts.changed acts.there in
          omega (arith, sum, same acts.worker acts.changed tuple acts.act, safe.once tuple held);
      workers = All-set (IsSafeWorker rule before.word) before.workers number acts.changed (stays acts.worker acts.changed acts.act old) safe.workers;
      word = λ total is. kept_acts before.workers number acts.worker acts.changed total acts.there (keeps acts.worker acts.changed acts.act) (safe.word total is);
    } in
    subst (λ (w : Option ℕ). P after.workers w) (sym word) (subst (λ (ws : List Worker). P ws before.word) (sym acts.is) made)

-- the worker that raised the best word kept a tuple of that value
raised_kept : (rule : Goal) (total found : ℕ) (number : ℕ) (workers : List Worker) (worker changed : Worker) → slice_get workers number ≡ Some worker → Keeps rule total worker changed → found ≡ total
    → IsKept (slice_set workers number changed) found
raised_kept rule total found number workers worker changed there keeps same = record {
  number = number;
  worker = changed;
  tuple = keeps.tuple;
  there = set_there workers number worker changed there;
  kept = ap (λ (w : Worker). w.kept) keeps.is ∙ ap (λ (n : ℕ). Some (n, keeps.tuple)) (sym same);
}

-- a worker that kept the greater best word isn't the one that raises less
other_kept : (rule : Goal) (total found : ℕ) (number : ℕ) (workers : List Worker) (worker changed : Worker) → slice_get workers number ≡ Some worker → Keeps rule total worker changed → total ≤ found
    → IsKept workers found → IsKept (slice_set workers number changed) found
other_kept rule total found number workers worker changed there keeps less is =
    let apart : is.number ≢ number = λ here.
    let one : Some is.worker ≡ Some worker = sym is.there ∙ ap (slice_get workers) here ∙ there in
    let same : is.worker ≡ worker = cc in
    let kept : worker.kept ≡ Some (found, is.tuple) = ap (λ (w : Worker). w.kept) (sym same) ∙ is.kept in
    omega (arith, less, some_is (λ (pair : ℕ × List ℕ). pair.0 < total) worker.kept (found, is.tuple) kept keeps.above) in
    record { number = is.number; worker = is.worker; tuple = is.tuple; there = set_apart workers number is.number is.worker changed is.there apart; kept = is.kept }

some_same : (a b : ℕ) → Some a ≡ Some b → a ≡ b
some_same a b same = cc

raise_word : (rule : Goal) (total found : ℕ) (number : ℕ) (workers : List Worker) (worker changed : Worker) (word : Option ℕ) → slice_get workers number ≡ Some worker → Keeps rule total worker changed
    → ((old : ℕ) → word ≡ Some old → IsKept workers old) → greater word total ≡ Some found → IsKept (slice_set workers number changed) found
raise_word rule total found number workers worker changed None there keeps kept is =
    raised_kept rule total found number workers worker changed there keeps (sym (some_same total found is))
raise_word rule total found number workers worker changed (Some old) there keeps kept is =
    let most : max old total ≡ found = some_same (max old total) found is in
    elim (cases_lt total old) [
      | inl more ↦
          let same : old ≡ found = omega (arith, most, more) in
          other_kept rule total found number workers worker changed there keeps (omega (arith, more, same)) (kept found (ap Some same))
      | inr less ↦ raised_kept rule total found number workers worker changed there keeps (omega (arith, most, less))
    ]

raise_safe : (rule : Goal) (number : ℕ) (before after : State) → Makes rule (Raise number) before after → IsSafe rule before → IsSafe rule after
raise_safe rule number before after (total, acts, word) safe =
    let more = greater before.word total in
    let old = there_at (IsSafeWorker rule before.word) before.workers number acts.worker acts.there safe.workers in
    let others = All-weaker (IsSafeWorker rule before.word) (IsSafeWorker rule more) (λ worker. word_safe rule before.word more worker (less_greater before.word total)) before.workers safe.workers in
    let P : List Worker → Option ℕ → Type 0 = λ workers w. IsSafe rule (record { workers = workers; word = w }) in
    let made : P (slice_set before.workers number acts.changed) more = record {
      once = λ tuple held.
          let sum = sum_acts (λ worker. mult (worker_cells worker) tuple) before.workers number acts.worker acts.changed acts.there in
          omega (arith, sum, keeps_mult rule total acts.worker acts.changed tuple acts.act, safe.once tuple held);
      workers = All-set (IsSafeWorker rule more) before.workers number acts.changed (keeps_safe rule before.word total acts.worker acts.changed acts.act old) others;
      word = λ found is. raise_word rule total found number before.workers acts.worker acts.changed before.word acts.there acts.act safe.word is;
    } in
    subst (λ (w : Option ℕ). P after.workers w) (sym word) (subst (λ (ws : List Worker). P ws more) (sym acts.is) made)

-- a steal moves one cell
steal_safe : (rule : Goal) (number other : ℕ) (before after : State) → Steals number other before.workers after.workers × (after.word ≡ before.word) → IsSafe rule before → IsSafe rule after
steal_safe rule number other before after (steals, word) safe =
    let robbed : Worker = record steals.victim { deque = steals.rest } in
    let holder : Worker = record steals.thief { hand = Some steals.cell } in
    let between = slice_set before.workers other robbed in
    let victim = there_at (IsSafeWorker rule before.word) before.workers other steals.victim steals.is_victim safe.workers in
    let thief = there_at (IsSafeWorker rule before.word) before.workers number steals.thief steals.is_thief safe.workers in
    let still : slice_get between number ≡ Some steals.thief = set_apart before.workers other number steals.thief robbed steals.is_thief steals.another in
    let deque : All (node_of rule) (steals.cell ∷ steals.rest) = subst (All (node_of rule)) steals.first victim.deque in
    let robbed_safe : IsSafeWorker rule before.word robbed = record {
      deque = All-tail (node_of rule) steals.cell steals.rest deque;
      hand = victim.hand;
      boxes = victim.boxes;
      closed = victim.closed;
      seen = victim.seen;
      kept = victim.kept;
      within = victim.within;
    } in
    let holder_safe : IsSafeWorker rule before.word holder = record {
      deque = thief.deque;
      hand = All-head (node_of rule) steals.cell steals.rest deque;
      boxes = thief.boxes;
      closed = thief.closed;
      seen = thief.seen;
      kept = thief.kept;
      within = thief.within;
    } in
    let P : List Worker → Option ℕ → Type 0 = λ workers w. IsSafe rule (record { workers = workers; word = w }) in
    let made : P (slice_set between number holder) before.word = record {
      once = λ tuple held.
          let f : Worker → ℕ = λ worker. mult (worker_cells worker) tuple in
          let first = sum_acts f before.workers other steals.victim robbed steals.is_victim in
          let second = sum_acts f between number steals.thief holder still in
          omega (
            arith,
            first,
            second,
            safe.once tuple held,
            mult_cells steals.victim tuple,
            mult_cells robbed tuple,
            mult_cells steals.thief tuple,
            mult_cells holder tuple,
            ap (λ (cells : List (List (ℕ × ℕ))). mult cells tuple) steals.first,
            mult-append (steals.cell ∷ []) steals.rest tuple,
            ap (λ (hand : Option (List (ℕ × ℕ))). mult (option_to_list hand) tuple) steals.empty,
          );
      workers = All-set (IsSafeWorker rule before.word) between number holder holder_safe (All-set (IsSafeWorker rule before.word) before.workers other robbed robbed_safe safe.workers);
      word = λ total is. kept_acts between number steals.thief holder total still refl (kept_acts before.workers other steals.victim robbed total steals.is_victim refl (safe.word total is));
    } in
    subst (λ (w : Option ℕ). P after.workers w) (sym word) (subst (λ (ws : List Worker). P ws before.word) (sym steals.is) made)

makes_safe : (rule : Goal) (step : Step) (before after : State) → Makes rule step before after → IsSafe rule before → IsSafe rule after
makes_safe rule (Take number) before after makes safe =
    acts_safe rule Takes number before after takes_mult (takes_safe rule before.word) (λ old new takes. ap (λ (w : Worker). w.kept) takes.is) makes safe
makes_safe rule (Steal number other) before after makes safe = steal_safe rule number other before after makes safe
makes_safe rule (Split number) before after makes safe =
    acts_safe rule Splits number before after splits_mult (splits_safe rule before.word) (λ old new splits. ap (λ (w : Worker). w.kept) splits.is) makes safe
makes_safe rule (Close number) before after makes safe =
    acts_safe rule (Closes rule) number before after (closes_mult rule) (closes_safe rule before.word) (λ old new closes. ap (λ (w : Worker). w.kept) closes.is) makes safe
makes_safe rule (Look number) before after makes safe =
    acts_safe rule (Looks before.word) number before after (looks_mult before.word) (looks_safe rule before.word) (λ old new looks. ap (λ (w : Worker). w.kept) looks) makes safe
makes_safe rule (Raise number) before after makes safe = raise_safe rule number before after makes safe

pub moves_safe : (rule : Goal) (step : Step) (before after : State) → Moves rule step before after → IsSafe rule before → IsSafe rule after
moves_safe rule step before after (inl makes) safe = makes_safe rule step before after makes safe
moves_safe rule step before after (inr stays) safe = subst (IsSafe rule) (sym stays.1) safe

idle_safe : (rule : Goal) → IsSafeWorker rule None idle
idle_safe rule = record {
  deque = All-nil (node_of rule);
  hand = tt;
  boxes = All-nil (λ (box : Box). node_of rule box.0);
  closed = All-nil (λ (box : Box). IsClosedFor rule None box.0 box.1);
  seen = tt;
  kept = tt;
  within = tt;
}

-- at first the whole cell holds each tuple once
pub start_safe : (rule : Goal) (workers : ℕ) → IsSafe rule (start rule workers)
start_safe rule workers =
    let cell = whole_cell rule.axes in
    let first : Worker = record idle { deque = cell ∷ [] } in
    let first_safe : IsSafeWorker rule None first = record {
      deque = All-cons (node_of rule) cell [] (whole cell) (All-nil (node_of rule));
      hand = tt;
      boxes = All-nil (λ (box : Box). node_of rule box.0);
      closed = All-nil (λ (box : Box). IsClosedFor rule None box.0 box.1);
      seen = tt;
      kept = tt;
      within = tt;
    } in
    record {
      once = λ tuple held.
          let f : Worker → ℕ = λ worker. mult (worker_cells worker) tuple in
          let none : f idle ≡ 0 = refl in
          let one : f first ≡ 1 = mult-held cell (cell ∷ []) tuple (alone cell (cell ∷ []) refl) held in
          let others : sum_by f (replicate (workers - 1) idle) ≡ 0 = omega (arith, sum_by-replicate f (workers - 1) idle, ap (λ (n : ℕ). (workers - 1) * n) none) in
          sum_by-append f (first ∷ []) (replicate (workers - 1) idle) ∙ (λ i. (0 + one i) + others i);
      workers = All-cons (IsSafeWorker rule None) first (replicate (workers - 1) idle) first_safe (All-replicate (IsSafeWorker rule None) (workers - 1) idle (idle_safe rule));
      word = λ total is. absurd (cc);
    }

pub runs_safe : (rule : Goal) (steps : List Step) (before after : State) → Runs rule before steps after → IsSafe rule before → IsSafe rule after
runs_safe rule [] before after runs safe = subst (IsSafe rule) (sym runs) safe
runs_safe rule (step ∷ steps) before after (next, moves, runs) safe = runs_safe rule steps next after runs (moves_safe rule step before next moves safe)

-- a step closes one cell at most

unfoldable count_closed : State → ℕ
count_closed state = sum_by (λ (worker : Worker). length worker.closed) state.workers

acts_count : (Act : Worker → Worker → Type 0) (number : ℕ) (before after : State) → ((old new : Worker) → Act old new → length new.closed ≤ length old.closed + 1)
    → Acts Act number before.workers after.workers → count_closed after ≤ count_closed before + 1
unfolding count_closed
acts_count Act number before after more acts =
    let f : Worker → ℕ = λ worker. length worker.closed in
    omega (arith, ap (λ (ws : List Worker). sum_by f ws) acts.is, sum_acts f before.workers number acts.worker acts.changed acts.there, more acts.worker acts.changed acts.act)

steal_count : (number other : ℕ) (before after : State) → Steals number other before.workers after.workers → count_closed after ≤ count_closed before + 1
unfolding count_closed
steal_count number other before after steals =
    let f : Worker → ℕ = λ worker. length worker.closed in
    let robbed : Worker = record steals.victim { deque = steals.rest } in
    let holder : Worker = record steals.thief { hand = Some steals.cell } in
    let between = slice_set before.workers other robbed in
    let still : slice_get between number ≡ Some steals.thief = set_apart before.workers other number steals.thief robbed steals.is_thief steals.another in
    omega (arith, ap (λ (ws : List Worker). sum_by f ws) steals.is, sum_acts f before.workers other steals.victim robbed steals.is_victim, sum_acts f between number steals.thief holder still)

same_closed : (old new : Worker) → new.closed ≡ old.closed → length new.closed ≤ length old.closed + 1
same_closed old new same = omega (arith, ap length same)

closes_count : (rule : Goal) (old new : Worker) → Closes rule old new → length new.closed ≤ length old.closed + 1
closes_count rule old new closes =
    let box : Box = (closes.cell, closes.why) in
    omega (arith, ap (λ (w : Worker). length w.closed) closes.is, length_push old.closed box)

moves_count : (rule : Goal) (step : Step) (before after : State) → Moves rule step before after → count_closed after ≤ count_closed before + 1
moves_count rule (Take number) before after (inl makes) = acts_count Takes number before after (λ old new takes. same_closed old new (ap (λ (w : Worker). w.closed) takes.is)) makes.0
moves_count rule (Steal number other) before after (inl makes) = steal_count number other before after makes.0
moves_count rule (Split number) before after (inl makes) = acts_count Splits number before after (λ old new splits. same_closed old new (ap (λ (w : Worker). w.closed) splits.is)) makes.0
moves_count rule (Close number) before after (inl makes) = acts_count (Closes rule) number before after (closes_count rule) makes.0
moves_count rule (Look number) before after (inl makes) = acts_count (Looks before.word) number before after (λ old new looks. same_closed old new (ap (λ (w : Worker). w.closed) looks)) makes.0
moves_count rule (Raise number) before after (inl (total, makes, word)) =
    acts_count (Keeps rule total) number before after (λ old new keeps. same_closed old new (ap (λ (w : Worker). w.closed) keeps.is)) makes
moves_count rule step before after (inr stays) = omega (arith, ap count_closed stays.1)

runs_count : (rule : Goal) (steps : List Step) (before after : State) → Runs rule before steps after → count_closed after ≤ count_closed before + length steps
runs_count rule [] before after runs = omega (arith, ap count_closed runs)
runs_count rule (step ∷ steps) before after (next, moves, runs) = omega (arith, moves_count rule step before next moves, runs_count rule steps next after runs)

-- the steps of a list close one cell each at most
pub closed_few : (rule : Goal) (workers : ℕ) (steps : List Step) (after : State) → Runs rule (start rule workers) steps after → length (closed_in after) ≤ length steps
unfolding count_closed
closed_few rule workers steps after runs =
    let f : Worker → ℕ = λ worker. length worker.closed in
    omega (arith, runs_count rule steps (start rule workers) after runs, length-flat_map (λ (worker : Worker). worker.closed) after.workers, sum_by-replicate f (workers - 1) idle)
