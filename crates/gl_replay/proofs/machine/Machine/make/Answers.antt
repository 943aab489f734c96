use Rattle.std.proofs.Common.{◌≡◌, sym, ap, subst, List, length, arith}
use Rattle.std.proofs.lemmas.List.{with_items_is}
use Rattle.gl_replay.specs.declared.machine.Machine.{Machine}
use Rattle.gl_replay.specs.declared.schedule.Step.{Step}
use Rattle.gl_replay.specs.declared.worker.Worker.{Worker}
use Rattle.gl_replay.specs.Machine.{Acts, Closes, Looks, Moves, Splits, State, Steals, Takes}
use Rattle.gl_replay.specs.Code.Workers.{AreCovered, state_of, workers_of}
use Rattle.gl_replay.proofs.Turns.{raise_stays, safe_covered, shown_moves}
use Rattle.gl_replay.proofs.machine.Machine.make.Goals as goal

-- the machine with other workers
unfoldable after : Machine → List Worker → State
after before workers = record { workers = workers_of workers; word = before.word }

pub close-requires : goal.close-requires
close-requires g c =
    let rule = g.G.Goal.rule c.args.goal.now in
    let before = c.args.self.now in
    subst (AreCovered rule) (sym c.deref_mut-in-Close.ensures.value) (safe_covered rule before.workers.items before.word c.requires)

pub keep-requires : goal.keep-requires
keep-requires g c =
    let rule = g.G.Goal.rule c.args.goal.now in
    let before = c.args.self.now in
    subst (AreCovered rule) (sym c.deref_mut-in-Raise.ensures.value) (safe_covered rule before.workers.items before.word c.requires)

pub returns-in-Take : goal.returns-in-Take
unfolding after
returns-in-Take g c =
    let rule = g.G.Goal.rule c.args.goal.now in
    let before = c.args.self.now in
    let long : length c.take.new.workers ≡ before.workers.len = omega (arith, c.take.auto.workers, ap length c.deref_mut.ensures.value, before.workers.ok.0) in
    subst (λ (ws : List Worker). Moves rule c.args.step (state_of before) (after before ws)) (sym (with_items_is before.workers c.take.new.workers long))
    (subst (λ (step : Step). Moves rule step (state_of before) (after before c.take.new.workers)) (sym c.in-Take.is)
    (shown_moves (Acts Takes c.in-Take.worker) before.workers.items c.deref_mut.result.now c.take.new.workers before.word c.deref_mut.ensures.value c.take.ensures))

pub returns-in-Steal : goal.returns-in-Steal
unfolding after
returns-in-Steal g c =
    let rule = g.G.Goal.rule c.args.goal.now in
    let before = c.args.self.now in
    let long : length c.steal.new.workers ≡ before.workers.len = omega (arith, c.steal.auto.workers, ap length c.deref_mut-in-Steal.ensures.value, before.workers.ok.0) in
    subst (λ (ws : List Worker). Moves rule c.args.step (state_of before) (after before ws)) (sym (with_items_is before.workers c.steal.new.workers long))
    (subst (λ (step : Step). Moves rule step (state_of before) (after before c.steal.new.workers)) (sym c.in-Steal.is)
    (shown_moves (Steals c.in-Steal.worker c.in-Steal.victim) before.workers.items c.deref_mut-in-Steal.result.now c.steal.new.workers before.word c.deref_mut-in-Steal.ensures.value c.steal.ensures))

pub returns-in_ok-split-in-Split : goal.returns-in_ok-split-in-Split
unfolding after
returns-in_ok-split-in-Split g c =
    let rule = g.G.Goal.rule c.args.goal.now in
    let before = c.args.self.now in
    let long : length c.split.new.workers ≡ before.workers.len = omega (arith, c.split.auto.workers, ap length c.deref_mut-in-Split.ensures.value, before.workers.ok.0) in
    subst (λ (ws : List Worker). Moves rule c.args.step (state_of before) (after before ws)) (sym (with_items_is before.workers c.split.new.workers long))
    (subst (λ (step : Step). Moves rule step (state_of before) (after before c.split.new.workers)) (sym c.in-Split.is)
    (shown_moves (Acts Splits c.in-Split.worker) before.workers.items c.deref_mut-in-Split.result.now c.split.new.workers before.word c.deref_mut-in-Split.ensures.value
    c.in_ok-split-in-Split.ensures))

pub returns-in_ok-close-in-Close : goal.returns-in_ok-close-in-Close
unfolding after
returns-in_ok-close-in-Close g c =
    let rule = g.G.Goal.rule c.args.goal.now in
    let before = c.args.self.now in
    let long : length c.close.new.workers ≡ before.workers.len = omega (arith, c.close.auto.workers, ap length c.deref_mut-in-Close.ensures.value, before.workers.ok.0) in
    subst (λ (ws : List Worker). Moves rule c.args.step (state_of before) (after before ws)) (sym (with_items_is before.workers c.close.new.workers long))
    (subst (λ (step : Step). Moves rule step (state_of before) (after before c.close.new.workers)) (sym c.in-Close.is)
    (shown_moves (Acts (Closes rule) c.in-Close.worker) before.workers.items c.deref_mut-in-Close.result.now c.close.new.workers before.word c.deref_mut-in-Close.ensures.value
    c.in_ok-close-in-Close.ensures))

pub returns-in-Look : goal.returns-in-Look
unfolding after
returns-in-Look g c =
    let rule = g.G.Goal.rule c.args.goal.now in
    let before = c.args.self.now in
    let long : length c.look.new.workers ≡ before.workers.len = omega (arith, c.look.auto.workers, ap length c.deref_mut-in-Look.ensures.value, before.workers.ok.0) in
    subst (λ (ws : List Worker). Moves rule c.args.step (state_of before) (after before ws)) (sym (with_items_is before.workers c.look.new.workers long))
    (subst (λ (step : Step). Moves rule step (state_of before) (after before c.look.new.workers)) (sym c.in-Look.is)
    (shown_moves (Acts (Looks c.args.self.now.word) c.in-Look.worker) before.workers.items c.deref_mut-in-Look.result.now c.look.new.workers before.word c.deref_mut-in-Look.ensures.value
    c.look.ensures))

pub returns-in_default : goal.returns-in_default
unfolding after
returns-in_default g c =
    let rule = g.G.Goal.rule c.args.goal.now in
    let before = c.args.self.now in
    let long : length c.keep.new.workers ≡ before.workers.len = omega (arith, c.keep.auto.workers, ap length c.deref_mut-in-Raise.ensures.value, before.workers.ok.0) in
    subst (λ (ws : List Worker). Moves rule c.args.step (state_of before) (after before ws)) (sym (with_items_is before.workers c.keep.new.workers long))
    (subst (λ (step : Step). Moves rule step (state_of before) (after before c.keep.new.workers)) (sym c.in-Raise.is)
    (raise_stays rule c.in-Raise.worker before.workers.items c.deref_mut-in-Raise.result.now c.keep.new.workers before.word c.deref_mut-in-Raise.ensures.value c.in_default.ensures))
