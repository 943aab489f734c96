-- A list of steps has one outcome.
use Rattle.std.proofs.Common.{◌≡◌, ◌∙◌, sym, ap, refl, subst, inl, inr, ℕ, List, [], ◌∷◌, ◌++◌, slice_set}
use Rattle.std.specs.Prelude.{Option, Some, None, slice_get}
use Rattle.std.proofs.lemmas.List.{same_from_push}
use Rattle.gl_box.specs.declared.closed.Why.{Why}
use Rattle.gl_box.specs.declared.closed.Why.TheVariants.{Disordered, Shut, Bound}
use Rattle.gl_box.specs.Cell.{point}
use Rattle.gl_box.specs.Halves.{AreHalves}
use Rattle.gl_goal.specs.Goal.{Goal, value}
use Rattle.gl_box.proofs.Frontiers.{lower_unique, upper_unique}
use Rattle.gl_replay.specs.declared.schedule.Step.{Step}
use Rattle.gl_replay.specs.declared.schedule.Step.TheVariants.{Take, Steal, Split, Close, Look, Raise}
use Rattle.gl_replay.specs.Machine.{Acts, Closes, IsFirstReason, Keeps, Looks, Makes, Moves, Runs, Splits, State, Steals, Takes, Worker, greater}
use Rattle.gl_text.proofs.Lists.{one_some}

same_worker : (workers : List Worker) (number : ℕ) (a b : Worker) → slice_get workers number ≡ Some a → slice_get workers number ≡ Some b → a ≡ b
same_worker workers number a b one other = let both : Some a ≡ Some b = sym one ∙ other in cc

takes_one : (before a b : Worker) → Takes before a → Takes before b → a ≡ b
takes_one before a b one other =
    let same = same_from_push one.rest other.rest one.cell other.cell (sym one.last ∙ other.last) in
    one.is ∙ (λ i. record before { deque = same.0 i; hand = Some (same.1 i) }) ∙ sym other.is

splits_one : (before a b : Worker) → Splits before a → Splits before b → a ≡ b
splits_one before a b one other =
    let cell = one_some before.hand one.cell other.cell one.held other.held in
    let halves : AreHalves one.cell other.lower other.upper = subst (λ (c : List (ℕ × ℕ)). AreHalves c other.lower other.upper) (sym cell) other.halves in
    let low = lower_unique one.cell one.lower one.upper other.lower other.upper one.halves halves in
    let high = upper_unique one.cell one.lower one.upper other.lower other.upper one.halves halves in
    one.is ∙ (λ i. record before { deque = before.deque ++ high i ∷ []; hand = Some (low i) }) ∙ sym other.is

reason_one : (rule : Goal) (total : Option ℕ) (cell : List (ℕ × ℕ)) (a b : Why) → IsFirstReason rule total cell a → IsFirstReason rule total cell b → a ≡ b
reason_one rule total cell Disordered Disordered one other = refl
reason_one rule total cell Disordered Shut one other = absurd (other.0 one)
reason_one rule total cell Disordered Bound one other = absurd (other.0.ordered one)
reason_one rule total cell Shut Disordered one other = absurd (one.0 other)
reason_one rule total cell Shut Shut one other = refl
reason_one rule total cell Shut Bound one other = absurd (other.0.not_shut one.1)
reason_one rule total cell Bound Disordered one other = absurd (one.0.ordered other)
reason_one rule total cell Bound Shut one other = absurd (one.0.not_shut other.1)
reason_one rule total cell Bound Bound one other = refl

closes_one : (rule : Goal) (before a b : Worker) → Closes rule before a → Closes rule before b → a ≡ b
closes_one rule before a b one other =
    let cell = one_some before.hand one.cell other.cell one.held other.held in
    let reason = subst (λ (c : List (ℕ × ℕ)). IsFirstReason rule before.seen c other.why) (sym cell) other.reason in
    let why = reason_one rule before.seen one.cell one.why other.why one.reason reason in
    one.is ∙ (λ i. record before { hand = None; closed = before.closed ++ (cell i, why i) ∷ [] }) ∙ sym other.is

looks_one : (word : Option ℕ) (before a b : Worker) → Looks word before a → Looks word before b → a ≡ b
looks_one word before a b one other = one ∙ sym other

point_one : (a b : List ℕ) → point a ≡ point b → a ≡ b
point_one [] [] same = refl
point_one [] (y ∷ ys) same = absurd (cc)
point_one (x ∷ xs) [] same = absurd (cc)
point_one (x ∷ xs) (y ∷ ys) same =
    let first : ◌≡◌ {A = ℕ × ℕ} (x, x) (y, y) = cc in
    let here : x ≡ y = ap (λ (span : ℕ × ℕ). span.0) first in
    let others : point xs ≡ point ys = cc in
    let rest = point_one xs ys others in
    λ i. here i ∷ rest i

keeps_tuple : (rule : Goal) (m n : ℕ) (before a b : Worker) (one : Keeps rule m before a) (other : Keeps rule n before b) → one.tuple ≡ other.tuple
keeps_tuple rule m n before a b one other = point_one one.tuple other.tuple (one_some before.hand (point one.tuple) (point other.tuple) one.held other.held)

keeps_total : (rule : Goal) (m n : ℕ) (before a b : Worker) → Keeps rule m before a → Keeps rule n before b → m ≡ n
keeps_total rule m n before a b one other = sym one.reached.worth ∙ ap (value rule) (keeps_tuple rule m n before a b one other) ∙ other.reached.worth

keeps_one : (rule : Goal) (m n : ℕ) (before a b : Worker) → Keeps rule m before a → Keeps rule n before b → a ≡ b
keeps_one rule m n before a b one other =
    let tuple = keeps_tuple rule m n before a b one other in
    let total = keeps_total rule m n before a b one other in
    one.is ∙ (λ i. record before { seen = greater before.seen (total i); kept = Some (total i, tuple i) }) ∙ sym other.is

acts_one : (Act : Worker → Worker → Type 0) → ((before a b : Worker) → Act before a → Act before b → a ≡ b) → (number : ℕ) (workers xs ys : List Worker) → Acts Act number workers xs
    → Acts Act number workers ys → xs ≡ ys
acts_one Act unique number workers xs ys one other =
    let same = same_worker workers number one.worker other.worker one.there other.there in
    let act = subst (λ (w : Worker). Act w other.changed) (sym same) other.act in
    one.is ∙ ap (slice_set workers number) (unique one.worker one.changed other.changed one.act act) ∙ sym other.is

steals_one : (number another : ℕ) (workers xs ys : List Worker) → Steals number another workers xs → Steals number another workers ys → xs ≡ ys
steals_one number another workers xs ys one other =
    let thief = same_worker workers number one.thief other.thief one.is_thief other.is_thief in
    let victim = same_worker workers another one.victim other.victim one.is_victim other.is_victim in
    let deque : one.cell ∷ one.rest ≡ other.cell ∷ other.rest = sym one.first ∙ ap (λ (w : Worker). w.deque) victim ∙ other.first in
    let cell : one.cell ≡ other.cell = cc in
    let rest : one.rest ≡ other.rest = cc in
    one.is ∙ (λ i. slice_set (slice_set workers another (record (victim i) { deque = rest i })) number (record (thief i) { hand = Some (cell i) })) ∙ sym other.is

same_state : (a b : State) → a.workers ≡ b.workers → a.word ≡ b.word → a ≡ b
same_state a b workers word = λ i. record { workers = workers i; word = word i }

makes_one : (rule : Goal) (step : Step) (before a b : State) → Makes rule step before a → Makes rule step before b → a ≡ b
makes_one rule (Take number) before a b one other = same_state a b (acts_one Takes takes_one number before.workers a.workers b.workers one.0 other.0) (one.1 ∙ sym other.1)
makes_one rule (Steal number another) before a b one other = same_state a b (steals_one number another before.workers a.workers b.workers one.0 other.0) (one.1 ∙ sym other.1)
makes_one rule (Split number) before a b one other = same_state a b (acts_one Splits splits_one number before.workers a.workers b.workers one.0 other.0) (one.1 ∙ sym other.1)
makes_one rule (Close number) before a b one other = same_state a b (acts_one (Closes rule) (closes_one rule) number before.workers a.workers b.workers one.0 other.0) (one.1 ∙ sym other.1)
makes_one rule (Look number) before a b one other = same_state a b (acts_one (Looks before.word) (looks_one before.word) number before.workers a.workers b.workers one.0 other.0) (one.1 ∙ sym other.1)
makes_one rule (Raise number) before a b one other =
    let same = same_worker before.workers number one.1.worker other.1.worker one.1.there other.1.there in
    let act : Keeps rule other.0 one.1.worker other.1.changed = subst (λ (w : Worker). Keeps rule other.0 w other.1.changed) (sym same) other.1.act in
    let changed = keeps_one rule one.0 other.0 one.1.worker one.1.changed other.1.changed one.1.act act in
    let total = keeps_total rule one.0 other.0 one.1.worker one.1.changed other.1.changed one.1.act act in
    same_state a b (one.1.is ∙ ap (slice_set before.workers number) changed ∙ sym other.1.is) (one.2 ∙ ap (greater before.word) total ∙ sym other.2)

moves_one : (rule : Goal) (step : Step) (before a b : State) → Moves rule step before a → Moves rule step before b → a ≡ b
moves_one rule step before a b (inl one) (inl other) = makes_one rule step before a b one other
moves_one rule step before a b (inl one) (inr stays) = absurd (stays.0 a one)
moves_one rule step before a b (inr stays) (inl other) = absurd (stays.0 b other)
moves_one rule step before a b (inr one) (inr other) = one.1 ∙ sym other.1

-- the steps lead to one state
pub runs_one : (rule : Goal) (steps : List Step) (before a b : State) → Runs rule before steps a → Runs rule before steps b → a ≡ b
runs_one rule [] before a b one other = one ∙ sym other
runs_one rule (step ∷ steps) before a b one other =
    let next = moves_one rule step before one.0 other.0 one.1 other.1 in
    runs_one rule steps one.0 a b one.2 (subst (λ (s : State). Runs rule s steps b) (sym next) other.2)
