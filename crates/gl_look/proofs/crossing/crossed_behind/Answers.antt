use Rattle.std.proofs.Common.{◌≡◌, ◌++◌, ◌∷◌, append-nil, length, rules, subst, List, [], Option, ℤ}
use Rattle.gl_look.specs.Crossings.{AreCrossedBehind}
use Rattle.gl_look.proofs.CrossingLemmas.{next_crossed, none_behind}
use Rattle.gl_look.proofs.crossing.crossed_behind.Goals as goal

pub fixes-preserved : goal.fixes-preserved
fixes-preserved c =
    let whole : c.fixes.rest.now ≡ c.in-Some.fix.now ∷ c.in-Some.others.now = search rules in
    next_crossed c.args.line.now c.args.first.now c.fixes.before.now c.in-Some.fix.now c.args.fixes.now c.fixes.rest.now c.in-Some.others.now c.fixes.crossed.items _ c.crossed_at.result whole
    c.crossed_at.ensures c.in_ok-push.ensures.items c.fixes.invariant

pub returns : goal.returns
returns c =
    let none : length c.fixes.rest.now ≡ 0 = search rules in
    subst (λ (crossed : List (Option ℤ)). AreCrossedBehind c.args.line.now c.args.first.now c.args.fixes.now crossed) (append-nil c.fixes.crossed.items) (c.fixes.invariant [] (none_behind _ _ _ none))
