use Rattle.std.proofs.Common.{◌-◌, sym, subst, ℕ, arith}
use Rattle.gl_goal.specs.Hull.{box_of}
use Rattle.gl_goal.specs.Code.Round.{IsNoneBehind}
use Rattle.gl_goal.proofs.Closing.{found-within, none_behind-found, none_behind-last}
use Rattle.gl_goal.proofs.reach.end_of_near.Goals as goal

pub returns-then-stretch-last-clause-none : goal.returns-then-stretch-last-clause-none
returns-then-stretch-last-clause-none c = λ place low high.
    none_behind-last c.args.hulls.now c.args.closing (c.len-last.result - 1) place (omega arith)

pub returns-clause-within : goal.returns-clause-within
returns-clause-within c =
    let stretch = c.args.stretch in
    let within = found-within c.args.hulls.now c.args.closing stretch.hi (c.len-last.result - 1) (box_of c.hull-hull.result) c.last_near_hull.result (omega arith)
    (omega arith) c.last_near_hull.ensures in
    omega (arith, within, c.unwrap_or.ensures)

pub returns-clause-none : goal.returns-clause-none
returns-clause-none c = λ place low high.
    let fixes = c.args.hulls.now in
    let stretch = c.args.stretch in
    let none = none_behind-found fixes c.args.closing stretch.lo stretch.hi (c.len-last.result - 1) (box_of c.hull-hull.result) c.last_near_hull.result c.hull-hull.ensures.value (omega arith)
    (omega arith) c.last_near_hull.ensures place low high in
    let P : ℕ → Type 0 = λ end. IsNoneBehind fixes c.args.closing end place in
    subst P (sym c.unwrap_or.ensures) none
