use Rattle.std.proofs.Common.{◌∙◌, ◌≡◌, ap, sym, ◌++◌, ◌∷◌, [], ℕ, List, suc, ◌+◌, arith}
use Rattle.gl_goal.specs.Free.{numbers_from}
use Rattle.gl_goal.proofs.FreeLosses.{numbers_from-more}
use Rattle.gl_badge.proofs.gain_goal.all_numbers.Goals as goal

one_more : (number : ℕ) (numbers pushed : List ℕ) → pushed ≡ numbers ++ number ∷ [] → numbers ≡ numbers_from 0 number → pushed ≡ numbers_from 0 (number + 1)
one_more number numbers pushed is before =
    let last : 0 + number ≡ number = omega arith in
    let next : suc number ≡ number + 1 = omega arith in
    is ∙ ap (λ (ns : List ℕ). ns ++ number ∷ []) before ∙ ap (λ (n : ℕ). numbers_from 0 number ++ n ∷ []) (sym last)
    ∙ sym (numbers_from-more 0 number) ∙ ap (numbers_from 0) next

pub loop-number-preserved : goal.loop-number-preserved
loop-number-preserved c = one_more c.loop-number.number _ _ c.in_ok-push.ensures.items c.loop-number.invariant

pub returns : goal.returns
returns c = c.loop-number.invariant ∙ ap (numbers_from 0) (omega arith)
