use Rattle.std.proofs.Common.{ℕ, ◌≡◌, ◌∙◌, ap, List, [], ◌∷◌, ◌++◌, ◌-◌, replicate, arith}
use Rattle.std.specs.Prelude.{None}
use Rattle.gl_goal.specs.Goal.{whole_cell}
use Rattle.gl_replay.specs.declared.worker.Worker as code
use Rattle.gl_replay.specs.Machine.{Worker, idle}
use Rattle.gl_replay.specs.Code.Workers.{worker_of, workers_of}
use Rattle.gl_replay.proofs.Turns.{first_worker, more_idle, one_worker}
use Rattle.gl_replay.proofs.machine.Machine.new.Goals as goal

pub loop-number-init : goal.loop-number-init
loop-number-init g c =
    let made = c.new-first.result in
    let first : code.Worker = record made { deque = c.push_back.new.self } in
    let list : c.push.new.self.items ≡ first ∷ [] = c.in_ok-push.ensures.items ∙ ap (λ (ws : List code.Worker). ws ++ first ∷ []) c.new-list.ensures.items in
    let whole = whole_cell (g.G.Goal.rule c.args.goal.now).axes in
    let plain : worker_of first ≡ record idle { deque = whole ∷ [] } = first_worker made c.push_back.new.self c.whole.result whole c.new-first.ensures c.in_ok-push_back.ensures.items c.whole.ensures in
    one_worker c.push.new.self.items first (record idle { deque = whole ∷ [] }) list plain

pub loop-number-preserved : goal.loop-number-preserved
loop-number-preserved g c =
    let l = c.loop-number in
    ap workers_of c.in_ok-push-2.ensures.items ∙ more_idle l.list.items c.new-worker.result _ l.number (omega (arith, l.auto.number)) l.invariant c.new-worker.ensures

pub returns : goal.returns
returns g c =
    let l = c.loop-number in
    let last : l.number ≡ c.args.workers = omega (arith, c.loop-number-test.false, l.auto.number, l.auto.number-end, c.requires) in
    let first : Worker = record idle { deque = whole_cell (g.G.Goal.rule c.args.goal.now).axes ∷ [] } in
    let list : workers_of l.list.items ≡ first ∷ replicate (c.args.workers - 1) idle = l.invariant ∙ ap (λ (n : ℕ). first ∷ replicate (n - 1) idle) last in
    λ i. record { workers = list i; word = None }
