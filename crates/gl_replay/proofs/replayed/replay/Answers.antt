use Rattle.std.proofs.Common.{◌∙◌, sym, ap, subst, ℕ, List, map, length, arith}
use Rattle.std.specs.Prelude.{All}
use Rattle.gl_box.specs.Frontier.{IsFrontier}
use Rattle.gl_box.proofs.Parts.{mult-held}
use Rattle.gl_goal.specs.Goal.{whole_cell}
use Rattle.gl_goal.proofs.Optimum.{certificate_optimum}
use Rattle.gl_goal.proofs.Totals.{none_exactly}
use Rattle.gl_order.specs.Order.{AreParts}
use Rattle.gl_goal.specs.Best.{total_of}
use Rattle.gl_plain.specs.declared.part.Part.{Part}
use Rattle.gl_plain.specs.Found.{boxes_of}
use Rattle.gl_plain.specs.Parts.{IsDoneFor, IsFinished, cell_of}
use Rattle.gl_plain.proofs.Stack.{certificate_made}
use Rattle.gl_replay.specs.Code.Parts.{done_in}
use Rattle.gl_replay.proofs.Replays.{left_few, left_parts, ordered_done, replay_made}
use Rattle.gl_replay.proofs.replayed.replay.Goals as goal

pub overflow_cast-by_steps : goal.overflow_cast-by_steps
overflow_cast-by_steps g c =
    let left = c.in_ok-known.field-0 in
    let few = left_few (g.G.Goal.rule c.args.goal.now) c.args.workers c.args.steps.now left c.in_ok-known.ensures in
    omega (arith, few, c.count_done-by_steps.ensures, ap (λ (parts : List Part). length (done_in parts)) c.deref.ensures.value, c.requires.few)

pub sorted-requires : goal.sorted-requires
sorted-requires g c =
    let left = c.in_ok-known.field-0 in
    subst (λ (cell : List (ℕ × ℕ)). AreParts cell (map cell_of left.parts.items)) (sym c.whole.ensures)
    (left_parts (g.G.Goal.rule c.args.goal.now) c.args.workers c.args.steps.now left c.in_ok-known.ensures)

pub finish-requires-clause-parted : goal.finish-requires-clause-parted
finish-requires-clause-parted g c =
    let rule = g.G.Goal.rule c.args.goal.now in
    subst (λ (parts : List Part). IsFrontier (whole_cell rule.axes) (map cell_of parts)) (sym c.deref-2.ensures.value)
    (subst (λ (cell : List (ℕ × ℕ)). IsFrontier cell (map cell_of c.in_ok-parts.parts.items)) c.whole.ensures c.in_ok-parts.ensures.frontier)

pub finish-requires-clause-done : goal.finish-requires-clause-done
finish-requires-clause-done g c =
    let rule = g.G.Goal.rule c.args.goal.now in
    let left = c.in_ok-known.field-0 in
    subst (All (IsDoneFor rule (total_of left.known))) (sym c.deref-2.ensures.value)
    (ordered_done rule c.args.workers c.args.steps.now left c.in_ok-parts.parts.items c.in_ok-known.ensures c.in_ok-parts.ensures.permutation)

pub returns-clause-certificate : goal.returns-clause-certificate
returns-clause-certificate g c =
    let end = c.in_ok-found.ensures in
    certificate_made (g.G.Goal.rule c.args.goal.now) c.in_ok-found.found.best (boxes_of c.in_ok-found.found) end.sound end.parted end.closed

pub returns-clause-once : goal.returns-clause-once
returns-clause-once g c tuple held =
    mult-held (whole_cell (g.G.Goal.rule c.args.goal.now).axes) (map (λ box. box.0) (boxes_of c.in_ok-found.found)) tuple c.in_ok-found.ensures.parted held

pub returns-clause-optimum : goal.returns-clause-optimum
returns-clause-optimum g c = certificate_optimum _ _ _ _ (g.met.G.Goal.laws c.args.goal.now) (returns-clause-certificate g c)

pub returns-clause-none : goal.returns-clause-none
returns-clause-none g c =
    none_exactly (g.G.Goal.rule c.args.goal.now) c.in_ok-found.found.best (certificate_optimum _ _ _ _ (g.met.G.Goal.laws c.args.goal.now) (returns-clause-certificate g c))

pub returns-clause-steps : goal.returns-clause-steps
returns-clause-steps g c =
    let left = c.in_ok-known.field-0 in
    let rule = g.G.Goal.rule c.args.goal.now in
    let end = subst (λ (parts : List Part). IsFinished rule parts left.known c.in_ok-found.found) c.deref-2.ensures.value c.in_ok-found.ensures in
    replay_made rule c.args.workers c.args.steps.now left c.in_ok-parts.parts.items _ c.in_ok-known.ensures c.in_ok-parts.ensures.permutation end
    (c.count_done-by_steps.ensures ∙ ap (λ (parts : List Part). length (done_in parts)) c.deref.ensures.value)
