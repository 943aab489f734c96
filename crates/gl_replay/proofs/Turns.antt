-- What the code does to its workers is what the machine says.
use Rattle.std.proofs.Common.{◌≡◌, ◌≢◌, ◌∙◌, sym, ap, refl, subst, inl, inr, ℕ, ◌+◌, ◌-◌, ◌<◌, ◌≤◌, true, false, List, [], ◌∷◌, ◌++◌, length, get_or, map, replicate, slice_set, Global, arith}
use Rattle.std.specs.Prelude.{IfSome, Option, Some, None, option_map, slice_get}
use Rattle.std.specs.declared.collections.VecDeque.{VecDeque}
use Rattle.std.specs.Option.{is_some, option_to_list}
use Rattle.std.proofs.lemmas.Bool.{false≢true}
use Rattle.std.proofs.lemmas.List.{get_or-map, get_or-set_other, length-map, map-append, map-set, replicate_more, set-get_or}
use Rattle.std.proofs.lemmas.Option.{get_or_from_slice_get, slice_get-get_or, slice_get_within}
use Rattle.gl_box.specs.declared.cell.Cell.{Cell}
use Rattle.gl_box.specs.Cell.{Covers, spans_of}
use Rattle.gl_box.specs.Frontier.{IsNode}
use Rattle.gl_box.proofs.Nodes.{covers_node}
use Rattle.gl_goal.specs.Goal.{Goal, whole_cell}
use Rattle.gl_replay.specs.declared.worker.Worker as code
use Rattle.gl_replay.specs.declared.schedule.Step.TheVariants.{Raise}
use Rattle.gl_replay.specs.Machine.{Acts, Keeps, Moves, State, Steals, Tries, Worker, idle}
use Rattle.gl_replay.specs.Safe.{IsSafe, IsSafeWorker}
use Rattle.gl_replay.specs.Code.Workers.{AreCovered, Raises, worker_of, workers_of}

-- the worker at a place
pub there_plain : (workers : List code.Worker) (number : ℕ) (d : code.Worker) → number < length workers → slice_get (workers_of workers) number ≡ Some (worker_of (get_or workers number d))
there_plain workers number d below =
    slice_get-get_or (workers_of workers) number (worker_of d) (omega (arith, length-map workers worker_of))
    ∙ ap Some (get_or-map worker_of workers number d (worker_of d) below)

-- a worker that looks the same
set_same : (workers : List Worker) (number : ℕ) (worker : Worker) → slice_get workers number ≡ Some worker → slice_set workers number worker ≡ workers
set_same workers number worker there =
    ap (slice_set workers number) (sym (get_or_from_slice_get workers number worker worker there)) ∙ set-get_or workers number worker

worker_there : (workers : List Worker) (number : ℕ) (a b : Worker) → slice_get workers number ≡ Some a → slice_get workers number ≡ Some b → a ≡ b
worker_there workers number a b one other = let both : Some a ≡ Some b = sym one ∙ other in cc

-- the worker of a number tries to act
pub acts_tries : (Act : Worker → Worker → Type 0) (workers : List code.Worker) (number : ℕ) (d new : code.Worker) → number < length workers
    → Tries Act (worker_of (get_or workers number d)) (worker_of new) → Tries (Acts Act number) (workers_of workers) (workers_of (slice_set workers number new))
acts_tries Act workers number d new below (inl act) = inl (record {
  worker = worker_of (get_or workers number d);
  changed = worker_of new;
  there = there_plain workers number d below;
  act = act;
  is = map-set worker_of workers number new;
})
acts_tries Act workers number d new below (inr stays) =
    let old = worker_of (get_or workers number d) in
    let there = there_plain workers number d below in
    inr (
      λ other acts. stays.0 acts.changed (subst (λ (w : Worker). Act w acts.changed) (worker_there (workers_of workers) number acts.worker old acts.there there) acts.act),
      map-set worker_of workers number new ∙ ap (slice_set (workers_of workers) number) stays.1 ∙ set_same (workers_of workers) number old there,
    )

not_there : (workers : List code.Worker) (number : ℕ) (worker : Worker) → length workers ≤ number → slice_get (workers_of workers) number ≡ Some worker → ⊥
not_there workers number worker past there =
    omega (arith, slice_get_within (workers_of workers) number worker there, length-map workers worker_of)

pub acts_none : (Act : Worker → Worker → Type 0) (workers : List code.Worker) (number : ℕ) → length workers ≤ number → Tries (Acts Act number) (workers_of workers) (workers_of workers)
acts_none Act workers number past = inr (λ other acts. not_there workers number acts.worker past acts.there, refl)

-- the worker of a number tries to raise a total
pub acts_raises : (Change : ℕ → Worker → Worker → Type 0) (workers : List code.Worker) (number : ℕ) (d new : code.Worker) (raised : Option ℕ) → number < length workers
    → Raises Change (worker_of (get_or workers number d)) (worker_of new) raised → Raises (λ total. Acts (Change total) number) (workers_of workers) (workers_of (slice_set workers number new)) raised
acts_raises Change workers number d new (Some total) below act = record {
  worker = worker_of (get_or workers number d);
  changed = worker_of new;
  there = there_plain workers number d below;
  act = act;
  is = map-set worker_of workers number new;
}
acts_raises Change workers number d new None below stays =
    let old = worker_of (get_or workers number d) in
    let there = there_plain workers number d below in (
      λ total other acts. stays.0 total acts.changed (subst (λ (w : Worker). Change total w acts.changed) (worker_there (workers_of workers) number acts.worker old acts.there there) acts.act),
      map-set worker_of workers number new ∙ ap (slice_set (workers_of workers) number) stays.1 ∙ set_same (workers_of workers) number old there,
    )

pub raises_none : (Change : ℕ → Worker → Worker → Type 0) (workers : List code.Worker) (number : ℕ) → length workers ≤ number
    → Raises (λ total. Acts (Change total) number) (workers_of workers) (workers_of workers) None
raises_none Change workers number past = (λ total other acts. not_there workers number acts.worker past acts.there, refl)

-- a cell is stolen, or nothing
no_cell : (deque rest : List Cell) → deque ≡ option_to_list None ++ rest → map spans_of rest ≡ map spans_of deque
no_cell deque rest is = ap (map spans_of) (sym is)

full_hand : (hand : Option Cell) → is_some hand ≡ true → ((cell : Cell) → hand ≡ Some cell → ⊥) → ⊥
full_hand None full none = false≢true full
full_hand (Some cell) full none = none cell refl

hand_full : (workers : List code.Worker) (number : ℕ) (d : code.Worker) (cell : Cell) (thief : Worker) → number < length workers → (get_or workers number d).hand ≡ Some cell
    → slice_get (workers_of workers) number ≡ Some thief → thief.hand ≡ None → ⊥
hand_full workers number d cell thief below full there empty =
    let same = worker_there (workers_of workers) number thief (worker_of (get_or workers number d)) there (there_plain workers number d below) in
    let both : Some (spans_of cell) ≡ None = sym (ap (option_map spans_of) full) ∙ ap (λ (w : Worker). w.hand) (sym same) ∙ empty in
    absurd (cc)

pub steals_full : (workers : List code.Worker) (number other : ℕ) (d : code.Worker) → number < length workers → is_some (get_or workers number d).hand ≡ true
    → Tries (Steals number other) (workers_of workers) (workers_of workers)
steals_full workers number other d below full = inr (
  λ after steals. full_hand (get_or workers number d).hand full (λ cell is. hand_full workers number d cell steals.thief below is steals.is_thief steals.empty),
  refl,
)

pub empty_hand : (hand : Option Cell) → is_some hand ≡ false → hand ≡ None
empty_hand None empty = refl
empty_hand (Some cell) empty = absurd (false≢true (sym empty))

-- what the thief and the victim are, before and after
pub record IsTheft (workers : List code.Worker) (number other : ℕ) (thief robbed holder victim : code.Worker) (stolen : Option Cell) : Type 0 where
  pub another : number ≢ other
  pub is_thief : slice_get (workers_of workers) number ≡ Some (worker_of thief)
  pub is_victim : slice_get (workers_of workers) other ≡ Some (worker_of victim)
  pub empty : thief.hand ≡ None
  pub emptied : stolen ≡ None → victim.deque.items ≡ []
  pub taken : victim.deque.items ≡ option_to_list stolen ++ robbed.deque.items
  pub robbed_is : worker_of robbed ≡ record (worker_of victim) { deque = map spans_of robbed.deque.items }
  pub holder_is : worker_of holder ≡ record (worker_of thief) { hand = option_map spans_of stolen }

both_set : (workers : List code.Worker) (number other : ℕ) (robbed holder : code.Worker)
    → workers_of (slice_set (slice_set workers other robbed) number holder) ≡ slice_set (slice_set (workers_of workers) other (worker_of robbed)) number (worker_of holder)
both_set workers number other robbed holder =
    map-set worker_of (slice_set workers other robbed) number holder ∙ ap (λ (ws : List Worker). slice_set ws number (worker_of holder)) (map-set worker_of workers other robbed)

theft_of : (workers : List code.Worker) (number other : ℕ) (thief robbed holder victim : code.Worker) (cell : Cell) → IsTheft workers number other thief robbed holder victim (Some cell)
    → Steals number other (workers_of workers) (workers_of (slice_set (slice_set workers other robbed) number holder))
theft_of workers number other thief robbed holder victim cell theft = record {
  thief = worker_of thief;
  victim = worker_of victim;
  cell = spans_of cell;
  rest = map spans_of robbed.deque.items;
  another = theft.another;
  is_thief = theft.is_thief;
  is_victim = theft.is_victim;
  empty = ap (option_map spans_of) theft.empty;
  first = ap (map spans_of) theft.taken;
  is = both_set workers number other robbed holder
      ∙ (λ i. slice_set (slice_set (workers_of workers) other (theft.robbed_is i)) number (theft.holder_is i));
}

nothing_taken : (workers : List code.Worker) (number other : ℕ) (thief robbed holder victim : code.Worker) → IsTheft workers number other thief robbed holder victim None
    → Tries (Steals number other) (workers_of workers) (workers_of (slice_set (slice_set workers other robbed) number holder))
nothing_taken workers number other thief robbed holder victim theft =
    let deque : map spans_of robbed.deque.items ≡ map spans_of victim.deque.items = no_cell victim.deque.items robbed.deque.items theft.taken in
    let robbed_same : worker_of robbed ≡ worker_of victim = theft.robbed_is ∙ ap (λ (cells : List (List (ℕ × ℕ))). record (worker_of victim) { deque = cells }) deque in
    let holder_same : worker_of holder ≡ worker_of thief = theft.holder_is
    ∙ ap (λ (hand : Option (List (ℕ × ℕ))). record (worker_of thief) { hand = hand }) (sym (ap (option_map spans_of) theft.empty)) in
    let plain = workers_of workers in
    inr (
      λ after steals.
          let same = worker_there plain other steals.victim (worker_of victim) steals.is_victim theft.is_victim in
          let cells : map spans_of victim.deque.items ≡ steals.cell ∷ steals.rest = ap (λ (w : Worker). w.deque) (sym same) ∙ steals.first in
          let none : [] ≡ steals.cell ∷ steals.rest = ap (map spans_of) (sym (theft.emptied refl)) ∙ cells in
          absurd (cc),
      both_set workers number other robbed holder
          ∙ (λ i. slice_set (slice_set plain other (robbed_same i)) number (holder_same i))
          ∙ ap (λ (ws : List Worker). slice_set ws number (worker_of thief)) (set_same plain other (worker_of victim) theft.is_victim)
          ∙ set_same plain number (worker_of thief) theft.is_thief,
    )

pub theft_tries : (workers : List code.Worker) (number other : ℕ) (thief robbed holder victim : code.Worker) (stolen : Option Cell) → IsTheft workers number other thief robbed holder victim stolen
    → Tries (Steals number other) (workers_of workers) (workers_of (slice_set (slice_set workers other robbed) number holder))
theft_tries workers number other thief robbed holder victim None theft = nothing_taken workers number other thief robbed holder victim theft
theft_tries workers number other thief robbed holder victim (Some cell) theft = inl (theft_of workers number other thief robbed holder victim cell theft)

-- the thief is still there once the victim is robbed
pub still_there : (workers : List code.Worker) (number other : ℕ) (robbed d : code.Worker) → number ≢ other → get_or (slice_set workers other robbed) number d ≡ get_or workers number d
still_there workers number other robbed d another = get_or-set_other workers other number robbed d another

pub thief_there : (workers : List code.Worker) (number other : ℕ) (robbed d : code.Worker) → number ≢ other → number < length workers
    → slice_get (workers_of workers) number ≡ Some (worker_of (get_or (slice_set workers other robbed) number d))
thief_there workers number other robbed d another below =
    there_plain workers number d below ∙ ap (λ (w : code.Worker). Some (worker_of w)) (sym (still_there workers number other robbed d another))

-- the machine with other workers and the same best word
pub alone_moves : (Change : List Worker → List Worker → Type 0) (before after : List Worker) (word : Option ℕ) → Tries Change before after
    → Tries (λ (b a : State). Change b.workers a.workers × (a.word ≡ b.word)) (record { workers = before; word = word }) (record { workers = after; word = word })
alone_moves Change before after word (inl makes) = inl (makes, refl)
alone_moves Change before after word (inr stays) = inr (λ other makes. stays.0 other.workers makes.0, ap (λ (ws : List Worker). record { workers = ws; word = word }) stays.1)

pub shown_moves : (Change : List Worker → List Worker → Type 0) (before shown after : List code.Worker) (word : Option ℕ) → shown ≡ before → Tries Change (workers_of shown) (workers_of after)
    → Tries (λ (b a : State). Change b.workers a.workers × (a.word ≡ b.word)) (record { workers = workers_of before; word = word }) (record { workers = workers_of after; word = word })
shown_moves Change before shown after word is tries =
    alone_moves Change (workers_of before) (workers_of after) word (subst (λ (ws : List code.Worker). Tries Change (workers_of ws) (workers_of after)) is tries)

-- nothing is raised
pub raise_stays : (rule : Goal) (number : ℕ) (before shown after : List code.Worker) (word : Option ℕ) → shown ≡ before
    → Raises (λ total. Acts (Keeps rule total) number) (workers_of shown) (workers_of after) None
    → Moves rule (Raise number) (record { workers = workers_of before; word = word }) (record { workers = workers_of after; word = word })
raise_stays rule number before shown after word is stays =
    let plain = subst (λ (ws : List code.Worker). Raises (λ total. Acts (Keeps rule total) number) (workers_of ws) (workers_of after) None) is stays in
    inr (λ other makes. plain.0 makes.0 other.workers makes.1, ap (λ (ws : List Worker). record { workers = ws; word = word }) plain.1)

-- what is in the hands of a safe machine lies in the whole cell
hand_covered : (rule : Goal) (hand : Option Cell) → IfSome (option_map spans_of hand) (λ cell. Covers (whole_cell rule.axes) cell) → IfSome hand (λ cell. Covers (whole_cell rule.axes) (spans_of cell))
hand_covered rule None covers = tt
hand_covered rule (Some cell) covers = covers

node_covered : (rule : Goal) (hand : Option (List (ℕ × ℕ))) → IfSome hand (IsNode (whole_cell rule.axes)) → IfSome hand (λ cell. Covers (whole_cell rule.axes) cell)
node_covered rule None node = tt
node_covered rule (Some cell) node = covers_node (whole_cell rule.axes) cell node

pub safe_covered : (rule : Goal) (workers : List code.Worker) (word : Option ℕ) → IsSafe rule (record { workers = workers_of workers; word = word }) → AreCovered rule workers
safe_covered rule workers word safe k d below =
    let at : get_or (workers_of workers) k (worker_of d) ≡ worker_of (get_or workers k d) = get_or-map worker_of workers k d (worker_of d) below in
    let all = safe.workers k (worker_of d) (omega (arith, below, length-map workers worker_of)) in
    let one = subst (IsSafeWorker rule word) at all in
    hand_covered rule (get_or workers k d).hand (node_covered rule (option_map spans_of (get_or workers k d).hand) one.hand)

pub covered_at : (rule : Goal) (workers : List code.Worker) (number : ℕ) (d : code.Worker) → AreCovered rule workers → number < length workers
    → IfSome (get_or workers number d).hand (λ cell. Covers (whole_cell rule.axes) (spans_of cell))
covered_at rule workers number d covered below = covered number d below

-- the workers at first
pub first_worker : (worker : code.Worker) (deque : VecDeque Cell Global) (cell : Cell) (whole : List (ℕ × ℕ)) → worker_of worker ≡ idle → deque.items ≡ worker.deque.items ++ cell ∷ []
    → spans_of cell ≡ whole → worker_of (record worker { deque = deque }) ≡ record idle { deque = whole ∷ [] }
first_worker worker deque cell whole is_idle is is_whole =
    let cells : map spans_of deque.items ≡ whole ∷ [] = ap (map spans_of) is ∙ map-append spans_of worker.deque.items (cell ∷ []) ∙ (λ i. (is_idle i).deque ++ is_whole i ∷ []) in
    λ i. record (is_idle i) { deque = cells i }

pub one_worker : (workers : List code.Worker) (worker : code.Worker) (plain : Worker) → workers ≡ worker ∷ [] → worker_of worker ≡ plain → workers_of workers ≡ plain ∷ replicate (1 - 1) idle
one_worker workers worker plain one is = ap workers_of one ∙ ap (λ (w : Worker). w ∷ []) is

pub more_idle : (workers : List code.Worker) (worker : code.Worker) (first : Worker) (count : ℕ) → 1 ≤ count → workers_of workers ≡ first ∷ replicate (count - 1) idle → worker_of worker ≡ idle
    → workers_of (workers ++ worker ∷ []) ≡ first ∷ replicate (count + 1 - 1) idle
more_idle workers worker first count some before is_idle =
    let one : count - 1 + 1 ≡ count + 1 - 1 = omega arith in
    map-append worker_of workers (worker ∷ []) ∙ (λ i. before i ++ is_idle i ∷ []) ∙ ap (λ (ws : List Worker). first ∷ ws) (replicate_more (count - 1) idle)
    ∙ ap (λ (n : ℕ). first ∷ replicate n idle) one
