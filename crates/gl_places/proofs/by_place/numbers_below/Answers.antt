use Rattle.std.proofs.Common.{◌≡◌, ◌∙◌, ℕ, suc, ◌+◌, ap, sym, [], ◌∷◌, ◌++◌, List, arith}
use Rattle.gl_goal.specs.Free.{numbers_from}
use Rattle.gl_goal.proofs.FreeLosses.{numbers_from-more}
use Rattle.gl_places.proofs.by_place.numbers_below.Goals as goal

pub loop-number-preserved : goal.loop-number-preserved
loop-number-preserved c =
    let number = c.loop-number.number in
    let last : number ≡ 0 + number = omega arith in
    let next : suc number ≡ number + 1 = omega arith in
    c.in_ok-push.ensures.items
    ∙ ap (λ (ns : List ℕ). ns ++ number ∷ []) c.loop-number.invariant
    ∙ ap (λ n. numbers_from 0 number ++ n ∷ []) last
    ∙ sym (numbers_from-more 0 number)
    ∙ ap (numbers_from 0) next

pub returns : goal.returns
returns c =
    let all : c.loop-number.number ≡ c.args.count = omega arith in
    c.loop-number.invariant ∙ ap (numbers_from 0) all
