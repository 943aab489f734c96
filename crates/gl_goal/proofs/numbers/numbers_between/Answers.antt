use Rattle.std.proofs.Common.{◌≡◌, ◌∙◌, ℕ, suc, ◌+◌, ◌-◌, ◌≤◌, ◌++◌, ◌∷◌, [], List, ap, sym, arith}
use Rattle.gl_goal.specs.Free.{numbers_from}
use Rattle.gl_goal.proofs.FreeLosses.{numbers_from-more}
use Rattle.gl_goal.proofs.numbers.numbers_between.Goals as goal

one_more : (first number : ℕ) (numbers pushed : List ℕ) → first ≤ number → pushed ≡ numbers ++ number ∷ [] → numbers ≡ numbers_from first (number - first)
    → pushed ≡ numbers_from first (number + 1 - first)
one_more first number numbers pushed low is before =
    let last : first + (number - first) ≡ number = omega arith in
    let count : suc (number - first) ≡ number + 1 - first = omega arith in
    is ∙ ap (λ (ns : List ℕ). ns ++ number ∷ []) before ∙ ap (λ (n : ℕ). numbers_from first (number - first) ++ n ∷ []) (sym last)
    ∙ sym (numbers_from-more first (number - first)) ∙ ap (numbers_from first) count

pub loop-number-preserved : goal.loop-number-preserved
loop-number-preserved c =
    one_more c.args.first c.loop-number.number _ _ (omega arith) c.in_ok-push.ensures.items c.loop-number.invariant

pub returns : goal.returns
returns c =
    let count : c.loop-number.number - c.args.first ≡ suc (c.args.last - c.args.first) = omega arith in
    c.loop-number.invariant ∙ ap (numbers_from c.args.first) count
