use Rattle.std.proofs.Common.{ℕ, ◌+◌, ◌<◌, ◌≤◌, get_or, sym, arith}
use Rattle.gl_goal.proofs.Fives.{All-numbers, five-chosen, five-number}
use Rattle.gl_goal.proofs.free.FreeGoal.numbers.Goals as goal

pub overflow_add-result : goal.overflow_add-result
overflow_add-result c =
    let g = c.args.self.now in omega (arith, five-number g.first g.last c.args.tuple.now 0 g.in_order c.requires (omega arith))

pub overflow_add-result-2 : goal.overflow_add-result-2
overflow_add-result-2 c =
    let g = c.args.self.now in omega (arith, five-number g.first g.last c.args.tuple.now 1 g.in_order c.requires (omega arith))

pub overflow_add-result-3 : goal.overflow_add-result-3
overflow_add-result-3 c =
    let g = c.args.self.now in omega (arith, five-number g.first g.last c.args.tuple.now 2 g.in_order c.requires (omega arith))

pub overflow_add-result-4 : goal.overflow_add-result-4
overflow_add-result-4 c =
    let g = c.args.self.now in omega (arith, five-number g.first g.last c.args.tuple.now 3 g.in_order c.requires (omega arith))

pub overflow_add-result-5 : goal.overflow_add-result-5
overflow_add-result-5 c =
    let g = c.args.self.now in omega (arith, five-number g.first g.last c.args.tuple.now 4 g.in_order c.requires (omega arith))

pub returns-clause-chosen : goal.returns-clause-chosen
returns-clause-chosen c =
    let g = c.args.self.now in sym (five-chosen g.first g.last c.args.tuple.now g.in_order c.requires)

pub returns-clause-within : goal.returns-clause-within
returns-clause-within c =
    let g = c.args.self.now in
    let at : (k : ℕ) → k < 5 → g.first + get_or c.args.tuple.now.places k 0 ≤ g.last = λ k below. five-number g.first g.last c.args.tuple.now k g.in_order c.requires below in
    All-numbers _ _ _ _ _ g.last (at 0 (omega arith)) (at 1 (omega arith)) (at 2 (omega arith)) (at 3 (omega arith)) (at 4 (omega arith))
