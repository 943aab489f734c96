use Rattle.std.proofs.Common.{◌<◌, ℕ, sym, ap, ◌∙◌, subst, arith}
use Rattle.gl_best.specs.declared.rule.View.{View}
use Rattle.gl_best.specs.Rule.{times}
use Rattle.gl_best.specs.Seats.{total_of}
use Rattle.gl_best.proofs.Moves.{closes, first_word}
use Rattle.gl_best.proofs.word.BestWord.close.Goals as goal

pub returns-clause-value : goal.returns-clause-value
returns-clause-value c =
    let view = ap (λ seat. seat.me.0) c.into_inner.ensures in
    let last = c.close_with-closed.ensures.values.2 in
    let all = subst (λ (it : View). (number : ℕ) → number < 16 → 0 < times number it.numbers) (sym view) c.requires.all in
    let raised = closes last.0.words last.0.views c.into_inner.result.id c.into_inner.result.me.0 last.1.0 last.1.1 all in
    let word = first_word last.0.words _ c.word-word.result last.2 c.word-word.ensures in
    c.total_in.ensures ∙ ap total_of (sym word ∙ raised ∙ ap (λ (it : View). it.raised) view)

pub returns-clause-seen : goal.returns-clause-seen
returns-clause-seen c =
    let view = ap (λ seat. seat.me.0) c.into_inner.ensures in
    let last = c.close_with-closed.ensures.values.2 in
    let all = subst (λ (it : View). (number : ℕ) → number < 16 → 0 < times number it.numbers) (sym view) c.requires.all in
    let raised = closes last.0.words last.0.views c.into_inner.result.id c.into_inner.result.me.0 last.1.0 last.1.1 all in
    let heard = last.1.0.heard c.into_inner.result.id c.into_inner.result.me.0 last.1.1 in
    omega (arith, heard.seen, raised, ap (λ (it : View). it.raised) view, ap (λ (it : View). it.seen) view)
