use Rattle.std.proofs.Common.{◌≡◌, ◌+◌, ◌-◌, ◌<◌, ◌≤◌, ℕ, ap, subst, length, length-append, arith}
use Rattle.gl_goal.specs.Code.Round.{IsNoneBehind}
use Rattle.gl_goal.specs.Reach.{IsReach}
use Rattle.gl_goal.proofs.Closing.{none_behind-same, reaches_more}
use Rattle.gl_goal.proofs.reach.reaches.Goals.{then-place-next, else-place-next}
use Rattle.gl_goal.proofs.reach.reaches.Goals as goal

pub reach_from-reach-requires-clause-none : goal.reach_from-reach-requires-clause-none
reach_from-reach-requires-clause-none c =
    let fixes = c.args.hulls.now in
    let closing = c.args.closing in
    let place = c.loop-place.place in
    let after = c.if-place-next in
    elim after.branch [
      | then-place-next w ↦ none_behind-same fixes closing place (w.min.result + 1) w.end_of_near-end.result after.next after.end w.next-is w.end-is
          (λ k low below. w.end_of_near-end.ensures.none k low (omega (arith, below))) place (omega arith) (omega arith)
      | else-place-next w ↦ none_behind-same fixes closing place c.loop-place.next c.loop-place.end after.next after.end w.next-is w.end-is c.loop-place.invariant.none place (omega arith)
          (omega arith)
    ]

pub loop-place-preserved : goal.loop-place-preserved
loop-place-preserved c =
    let fixes = c.args.hulls.now in
    let closing = c.args.closing in
    let place = c.loop-place.place in
    let after = c.if-place-next in
    let reach = c.reach_from-reach.result in
    let pushed = c.in_ok-push.ensures.items in
    let back : place ≡ place + 1 - 1 = omega arith in
    let P : ℕ → Type 0 = λ k. IsReach fixes closing k reach in
    let none : (k : ℕ) → place ≤ k → k < after.next → IsNoneBehind fixes closing after.end k =
    elim after.branch [
      | then-place-next w ↦ none_behind-same fixes closing place (w.min.result + 1) w.end_of_near-end.result after.next after.end w.next-is w.end-is
          (λ k low below. w.end_of_near-end.ensures.none k low (omega (arith, below)))
      | else-place-next w ↦ none_behind-same fixes closing place c.loop-place.next c.loop-place.end after.next after.end w.next-is w.end-is c.loop-place.invariant.none
    ] in
    let ahead : place < after.next =
    elim after.branch [ then-place-next w ↦ omega arith | else-place-next w ↦ omega arith ] in
    let within : after.end < length fixes =
    elim after.branch [ then-place-next w ↦ omega (arith, w.end_of_near-end.ensures.within) | else-place-next w ↦ omega arith ] in
    record {
      sized = omega (arith, length-append {A = ℕ}, ap length pushed);
      each = reaches_more fixes closing place reach c.loop-place.reaches.items _ pushed c.loop-place.invariant.sized c.loop-place.invariant.each c.reach_from-reach.ensures;
      before = subst P back c.reach_from-reach.ensures;
      ahead = omega (arith, ahead);
      within = within;
      none = λ k low below. none k (omega (arith, low)) below;
    }
